-- One law for each act that writes a record: what the code did to the worker and to the output is the act.
use Rattle.std.specs.Prelude.{◌≡◌, refl, ℕ, ◌+◌, ◌-◌, get_or}
use Rattle.std.proofs.Math.Path.{ap}
use Rattle.std.proofs.Common.{◌∙◌}
use Rattle.definition.specs.declared.ClosedReason.{ClosedReason}
use Rattle.definition.specs.declared.Record.TheVariants.{ConnectionCreated, ConnectionClosed}
use Rattle.definition.specs.Steps.{◌>>◌}
use Rattle.records.specs.Output.{Emits}
use Rattle.records.specs.declared.Records.{Records}
use Rattle.slots.specs.Order.{vacant_slot}
use Rattle.slots.specs.View.{SlotPool, vacant, pool_in, with_counts, with_next_id, Puts, new_slot}
use Rattle.slots.specs.Done.{lay, Did}
use Rattle.slots.specs.Slots.{close_at, create_pending_connection}
use Rattle.slots.specs.declared.ConnectionPoolWorker.{ConnectionPoolWorker}

-- the slots are those of v, and the counts are others
module _ (w v w' : ConnectionPoolWorker) {o o' : Records} where
  pub closed_did : (i other : ℕ) (reason : ClosedReason) → Emits (ConnectionClosed reason (get_or w.ids i 0) other) o o'
      → Puts i 0 vacant w v
      → pool_in w' ≡ with_counts (pool_in v) (v.head.total_connection_count - 1) v.head.pending_connection_count
      → Did (close_at reason i other (pool_in w)) w' o o'
  unfolding close_at lay ◌>>◌
  closed_did i other reason e p eq = record {
    done = record {
      pool = eq ∙ ap (λ (x : SlotPool). with_counts x (x.total - 1) x.pendings) p;
      count = e.count;
      out = e.out;
    };
    kept = e.kept;
  }

  pub created_did : (i state : ℕ) → i ≡ vacant_slot w.ids → Emits (ConnectionCreated w.head.next_connection_id) o o'
      → Puts i w.head.next_connection_id (new_slot (pool_in w) state) w v
      → pool_in w' ≡ with_counts (with_next_id (pool_in v) (w.head.next_connection_id + 1)) (v.head.total_connection_count + 1) (v.head.pending_connection_count + 1)
      → Did (create_pending_connection state (pool_in w)) w' o o'
  unfolding create_pending_connection lay ◌>>◌
  created_did i state e said p eq = record {
    done = record {
      pool = eq
          ∙ ap (λ (y : SlotPool). with_counts (with_next_id y (w.head.next_connection_id + 1)) (y.total + 1) (y.pendings + 1))
          (rw e at p);
      count = said.count;
      out = said.out;
    };
    kept = said.kept;
  }
