-- A connection for a waiter: a new one, or one that was available. One law for each exit.
use Rattle.std.specs.Prelude.{◌≡◌, Bool, ℕ, ◌%◌, ◌≤◌, ◌<◌}
use Rattle.std.proofs.Math.Path.{refl, ap}
use Rattle.std.proofs.Common.{arith, le-leb}
use Rattle.std.proofs.Math.Bool.{true, false}
use Rattle.std.proofs.lemmas.Bool.{lt-leb}
use Rattle.definition.specs.Words.{when◌then◌else◌}
use Rattle.definition.specs.Pool.{Waiter}
use Rattle.definition.specs.Records.{told}
use Rattle.definition.specs.declared.Reply.TheVariants.{Pooled, Establishing}
use Rattle.definition.specs.Steps.{Act, emit, ◌>>◌}
use Rattle.records.specs.Output.{RoomFor, Emits}
use Rattle.records.specs.declared.Records.{Records}
use Rattle.slots.specs.View.{SlotPool, waiter_of, id_at, pool_in}
use Rattle.slots.specs.Done.{Did}
use Rattle.slots.specs.DoneLaws.{did_then, did_emit, did_quiet, did_as}
use Rattle.slots.specs.Slots.{request_no, checked_out_no, shelve, set_state_at, create_pending_connection, establish, lend}
use Rattle.slots.specs.declared.ConnectionPoolWorker.{ConnectionPoolWorker}

-- a creation says one thing, so there is room for the reply
pub created_tells : (state : ℕ) (q : SlotPool) {v : ConnectionPoolWorker} {o o' : Records} → Did (create_pending_connection state q) v o o' → RoomFor 2 o → RoomFor 1 o'
unfolding create_pending_connection ◌>>◌
created_tells state q d r = (omega (arith, r.0, d.done.count, d.kept.long), omega (arith, r.1, d.done.count))

-- one was created, and the waiter is told
pub established : (w : Waiter) (q : SlotPool) {v : ConnectionPoolWorker} {o o₁ o₂ : Records} → Did (create_pending_connection request_no q) v o o₁
    → Emits (told (Establishing q.next_id) w) o₁ o₂ → Did (establish w q) v o o₂
unfolding establish create_pending_connection ◌>>◌ when◌then◌else◌
established w q {v} d e =
    did_then (create_pending_connection request_no) (emit (told (Establishing q.next_id) w)) q {v = v} d (did_emit v e)

-- the waiter was told of the one in slot i
module _ (w i : ℕ) (v : ConnectionPoolWorker) {o o' : Records} {x : ℕ} (id : x ≡ id_at (pool_in v) i) (f : Emits (told (Pooled x) (waiter_of w)) o o') (v' : ConnectionPoolWorker) where
  abbrev tell : Act SlotPool
  tell = emit (told (Pooled (id_at (pool_in v) i)) (waiter_of w))

  lent_by : (b : Bool) → (waiter_of w).abandoned ≡ b
      → Did ((when b then shelve i (pool_in v).clock else set_state_at checked_out_no i) (pool_in v)) v' o' o' → Did (lend (waiter_of w) i (pool_in v)) v' o o'
  unfolding lend
  lent_by b g d =
      did_as (ap (λ (x : Bool). (tell >> (when x then shelve i (pool_in v).clock else set_state_at checked_out_no i)) (pool_in v)) g)
      (did_then tell (when b then shelve i (pool_in v).clock else set_state_at checked_out_no i) (pool_in v) {v = v} (did_emit v (rw (← id) f)) d)

  -- it had gone, and the connection is available again
  pub lent_gone : 2 ≤ w % 4 → pool_in v' ≡ (shelve i (pool_in v).clock (pool_in v)).pool → Did (lend (waiter_of w) i (pool_in v)) v' o o'
  unfolding when◌then◌else◌ shelve
  lent_gone g h = lent_by true (le-leb _ _ g) (did_quiet v' refl h)

  -- it had not
  pub lent_heard : w % 4 < 2 → pool_in v' ≡ (set_state_at checked_out_no i (pool_in v)).pool → Did (lend (waiter_of w) i (pool_in v)) v' o o'
  unfolding when◌then◌else◌ set_state_at
  lent_heard g h = lent_by false (lt-leb _ _ g) (did_quiet v' refl h)
