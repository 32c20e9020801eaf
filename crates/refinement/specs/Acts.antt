-- Each part of the steps, on slots and on lists alike: closed, shelved, lent, turned, created.
use Rattle.std.specs.Prelude.{◌≡◌, ℕ}
use Rattle.definition.specs.Pool as P
use Rattle.definition.specs.Pool.{Pool, Conn, state_no}
use Rattle.definition.specs.declared.ConnectionState.{ConnectionState}
use Rattle.definition.specs.declared.ConnectionState.TheVariants.{Pending}
use Rattle.definition.specs.declared.Purpose.{Purpose}
use Rattle.slots.specs.View.{SlotPool}
use Rattle.slots.specs.View as View
use Rattle.refinement.specs.Table.{conn_in}
use Rattle.refinement.specs.Alike.{Alike}
use Rattle.refinement.specs.Transit.{Off}

-- ── In transit ─────────────────────────────────────────────────────────────────────────────────────────────────────────

-- the pool stands for the lists, but the connection of slot i is in none of them
pub record Transit (p : SlotPool) (m : Pool) (i : ℕ) : Type 0 where
  pub alike : Alike p m
  pub off : Off p.ids p.slots p.available p.availables p.total p.pendings p.next_id m.available m.lent m.pending i

-- x is the connection of slot i: whatever state it is put in, and when, it is what the slot shows then
abbrev pub Is : SlotPool → ℕ → Conn → Type 0
Is p i x = (q : ConnectionState) (t : ℕ) → P.with_state q t x ≡ conn_in (View.id_at p i) (View.with_state (state_no q) t (View.slot_at p i)) q

-- the number of what a connection is pending for
abbrev pub pending_no : Purpose → ℕ
pending_no why = state_no (Pending why)
