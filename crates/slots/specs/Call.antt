-- One call on slots: the tests by lookup, and what the call leaves.
use Rattle.std.specs.Prelude.{Bool, not, ◌&&◌, ◌||◌, List, [], ◌∷◌, ℕ, ◌+◌, ◌%◌, length, get_or}
use Rattle.std.specs.Prelude.{Option, None as none, Some as some}
use Rattle.definition.specs.Words.{when◌then◌else◌, ◌<?◌, ◌≤?◌, ◌=?◌}
use Rattle.definition.specs.Pool.{is_closed, queue_length}
use Rattle.definition.specs.Steps.{Out, kind_no, ◌to◌holds◌}
use Rattle.definition.specs.Bytes.{serial_of}
use Rattle.definition.specs.Refusals.{Test, ◌if◌, first, causeless, taken_after_close, enough_room, last_next_id, last_generation, wrong_time}
use Rattle.definition.specs.declared.Event.{Event}
use Rattle.definition.specs.declared.Event.TheVariants.{CheckOut, WarmPool, Abandon, CheckIn, Clear, MarkAsReady, Succeeded, SucceededForPool, Failed, Maintenance, FillPool, Pin, ReturnToPinner, TakeFromPinner, Close}
use Rattle.definition.specs.declared.Frame.{Frame}
use Rattle.definition.specs.declared.Frame.TheVariants.{Good, Bad}
use Rattle.definition.specs.declared.Refusal.{Refusal}
use Rattle.definition.specs.declared.Refusal.TheVariants.{OutputShort, Malformed, ClockBack, AfterClose, NumbersSpent, OldRequest, QueueFull, WrongState, WrongTime, NotWaiting, AlreadyPinned}
use Rattle.slots.specs.Order.{slot_holding, place_of}
use Rattle.slots.specs.View.{SlotPool, slot_at, with_clock, with_serial}
use Rattle.slots.specs.Slots.{event}
use Rattle.slots.specs.Done.{lay}
use Rattle.slots.specs.Outcome.{Verdict, Outcome}
use Rattle.std.specs.declared.result.Result.TheVariants.{Ok, Err}

-- the slot of a connection's id, slot_count where it has none; the place of a waiting request, past the last where it does not wait
module _ (p : SlotPool) (n : ℕ) where
  abbrev pub slot_of : ℕ
  slot_of = slot_holding n p.ids

  abbrev pub waiter_of? : ℕ
  waiter_of? = place_of n p.waitings p.waiters

  abbrev pub state_of : ℕ
  state_of = (slot_at p slot_of).state

  abbrev pub time_of : ℕ
  time_of = (slot_at p slot_of).time

-- what is said of an event that names neither a slot nor a waiter
abbrev pub no_target : ℕ
no_target = 0

-- what the event names
abbrev pub target : SlotPool → Event → ℕ
target p (CheckOut n) = no_target
target p (WarmPool n) = no_target
target p (Abandon n) = waiter_of? p n
target p (CheckIn n errored executing let_go) = slot_of p n
target p (Clear timeout cause) = no_target
target p MarkAsReady = no_target
target p (Succeeded n) = slot_of p n
target p (SucceededForPool n opened) = slot_of p n
target p (Failed n) = slot_of p n
target p Maintenance = no_target
target p FillPool = no_target
target p (Pin n) = slot_of p n
target p (ReturnToPinner n) = slot_of p n
target p (TakeFromPinner n) = slot_of p n
target p Close = no_target

abbrev pub request_tests : SlotPool → ℕ → List Test
request_tests p n = (OldRequest if n ≤? p.last_request) ∷ (QueueFull if queue_length ≤? p.waitings) ∷ []

abbrev pub kind_tests : SlotPool → Event → ℕ → List Test
kind_tests p (CheckOut n) now = request_tests p n
kind_tests p (WarmPool n) now = request_tests p n
kind_tests p (Abandon n) now = (NotWaiting if not (waiter_of? p n <? p.waitings && get_or p.waiters (waiter_of? p n) 0 % 4 <? 2)) ∷ []
kind_tests p (CheckIn n errored executing let_go) now =
    (WrongState if not (2 to 4 holds state_of p n)) ∷ (WrongTime if wrong_time let_go (time_of p n) now) ∷ []
kind_tests p (Clear timeout cause) now = []
kind_tests p MarkAsReady now = []
kind_tests p (Succeeded n) now = (WrongState if not (state_of p n =? 5)) ∷ []
kind_tests p (SucceededForPool n opened) now =
    (WrongState if not (state_of p n =? 6)) ∷ (WrongTime if wrong_time opened (time_of p n) now) ∷ []
kind_tests p (Failed n) now = (WrongState if not (5 to 6 holds state_of p n)) ∷ []
kind_tests p Maintenance now = []
kind_tests p FillPool now = []
kind_tests p (Pin n) now = (AlreadyPinned if 3 to 4 holds state_of p n) ∷ (WrongState if not (state_of p n =? 2)) ∷ []
kind_tests p (ReturnToPinner n) now = (WrongState if not (state_of p n =? 3)) ∷ []
kind_tests p (TakeFromPinner n) now = (WrongState if not (3 to 4 holds state_of p n)) ∷ []
kind_tests p Close now = []

abbrev pub numbers_spent : SlotPool → Event → Bool
numbers_spent p e =
    not (is_closed p.state) && not (kind_no e =? 15) && last_next_id <? p.next_id || kind_no e =? 5 && p.generation =? last_generation

unfoldable pub tests : SlotPool → Event → ℕ → List Test
tests p e now =
    (Malformed if causeless e) ∷
    (ClockBack if now <? p.clock) ∷
    (AfterClose if is_closed p.state && not (taken_after_close e)) ∷
    (NumbersSpent if numbers_spent p e) ∷
    kind_tests p e now

abbrev pub or_accept : ℕ → Option Refusal → Verdict
or_accept i none = Ok i
or_accept i (some r) = Err r

unfoldable pub verdict : SlotPool → Event → ℕ → Verdict
verdict p e now = or_accept (target p e) (first (tests p e now))

-- what a call leaves: the pool, the output, and the answer
pub record World : Type 0 where
  pub pool : SlotPool
  pub out : List ℕ
  pub outcome : Outcome

abbrev pub world : SlotPool → List ℕ → Outcome → World
world p l o = record { pool = p; out = l; outcome = o }

-- the records begin the output; the serial moves past them once, at the event's end
abbrev pub accepted : SlotPool → List ℕ → Out SlotPool → World
accepted p l o = world (with_serial o.pool (serial_of (p.serial + length o.records))) (lay p.serial 0 o.records l) (Ok (length o.records))

abbrev pub judged : SlotPool → List ℕ → Event → ℕ → Verdict → World
judged p l e now (Err r) = world p l (Err r)
judged p l e now (Ok i) = accepted p l (event e i (with_clock p now))

unfoldable pub step : SlotPool → List ℕ → Event → ℕ → World
step p l e now = judged p l e now (verdict p e now)

-- any frame, any output
unfoldable pub call : SlotPool → List ℕ → Frame → World
call p l Bad = world p l (Err (when length l <? enough_room then OutputShort else Malformed))
call p l (Good e now) = when length l <? enough_room then world p l (Err OutputShort) else step p l e now
