-- A whole event: what it does to the slot, or to the waiter, that it names, and the service stage.
use Rattle.std.specs.Prelude.{◌≡◌, true, ℕ, ◌/◌, ◌%◌, ◌<◌, get_or}
use Rattle.definition.specs.Pool.{slot_count, queue_length}
use Rattle.definition.specs.declared.Event.{Event}
use Rattle.definition.specs.declared.Event.TheVariants.{CheckOut, WarmPool, Abandon, CheckIn, Clear, MarkAsReady, Succeeded, SucceededForPool, Failed, Maintenance, FillPool, Pin, ReturnToPinner, TakeFromPinner, Close}
use Rattle.slots.specs.View.{SlotPool}
use Rattle.slots.specs.View as View
use Rattle.refinement.specs.Agree.{Class}
use Rattle.refinement.specs.Mirror.{is_lent, is_pending}

-- slot i holds the connection n, in a state of the class
pub record Holds (t : Class) (n : ℕ) (p : SlotPool) (i : ℕ) : Type 0 where
  pub slot : i < slot_count
  pub id : View.id_at p i ≡ n
  pub state : t (View.slot_at p i).state ≡ true

-- place i holds the waiter n, not abandoned yet
pub record Waits (n : ℕ) (p : SlotPool) (i : ℕ) : Type 0 where
  pub place : i < p.waitings
  pub id : get_or p.waiters i 0 / 4 ≡ n
  pub heard : get_or p.waiters i 0 % 4 < 2

-- request n is new, and the queue has room
pub record New (n : ℕ) (p : SlotPool) : Type 0 where
  pub later : p.last_request < n
  pub room : p.waitings < queue_length

-- what an event needs of the slot or the waiter i that it names
abbrev pub Fit : Event → SlotPool → ℕ → Type 0
Fit (CheckOut n) p i = New n p
Fit (WarmPool n) p i = New n p
Fit (Abandon n) p i = Waits n p i
Fit (CheckIn n errored executing let_go) p i = Holds is_lent n p i
Fit (Clear timeout cause) p i = Unit {0}
Fit MarkAsReady p i = Unit {0}
Fit (Succeeded n) p i = Holds is_pending n p i
Fit (SucceededForPool n opened) p i = Holds is_pending n p i
Fit (Failed n) p i = Holds is_pending n p i
Fit Maintenance p i = Unit {0}
Fit FillPool p i = Unit {0}
Fit (Pin n) p i = Holds is_lent n p i
Fit (ReturnToPinner n) p i = Holds is_lent n p i
Fit (TakeFromPinner n) p i = Holds is_lent n p i
Fit Close p i = Unit {0}
