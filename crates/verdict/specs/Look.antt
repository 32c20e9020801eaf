-- A lookup by id; the tests of one kind of event.
use Rattle.std.specs.Prelude.{◌≡◌, not, ◌&&◌, List, [], ◌∷◌, ℕ, ◌%◌, get_or}
use Rattle.std.specs.declared.result.Result.{Result}
use Rattle.std.specs.declared.result.Result.TheVariants.{Ok, Err}
use Rattle.definition.specs.Words.{when◌then◌else◌, ◌<?◌, ◌≤?◌, ◌=?◌}
use Rattle.definition.specs.Pool.{queue_length}
use Rattle.definition.specs.Steps.{◌to◌holds◌}
use Rattle.definition.specs.Refusals.{Test, ◌if◌, first, wrong_time}
use Rattle.definition.specs.declared.Event.{Event}
use Rattle.definition.specs.declared.Refusal.{Refusal}
use Rattle.definition.specs.declared.Refusal.TheVariants.{OldRequest, QueueFull, WrongState, WrongTime, NotWaiting, AlreadyPinned}
use Rattle.slots.specs.Call.{slot_of, state_of, time_of, kind_tests, or_accept, target}
use Rattle.slots.specs.Order.{place_of, slot_holding}
use Rattle.slots.specs.View.{SlotPool, Slot, vacant}
use Rattle.slots.specs.Outcome.{Verdict}
use Rattle.verdict.specs.declared.Found.{Found}

-- what is found is the slot of the id, and what stands there
pub record Looks (ids : List ℕ) (slots : List Slot) (id : ℕ) (f : Found) : Type 0 where
  pub at : f.at ≡ slot_holding id ids
  pub state : f.state ≡ (get_or slots f.at vacant).state
  pub time : f.time ≡ (get_or slots f.at vacant).time

module _ (p : SlotPool) (id : ℕ) where
  -- the slot of the id, and what stands there
  abbrev pub found : Found
  found = record { at = slot_of p id; state = state_of p id; time = time_of p id }

  -- where it is in a state of the range
  abbrev pub in_states : (low high : ℕ) → Result Found Refusal
  in_states low high = when low to high holds state_of p id then Ok found else Err WrongState

-- ── The tests of one kind ──────────────────────────────────────────────────────────────────────────────────────────────

-- 6 and 7; 11; 8; 8 and 9; 12 and 8
abbrev pub request_list : (last waiting request : ℕ) → List Test
request_list last waiting n = (OldRequest if n ≤? last) ∷ (QueueFull if queue_length ≤? waiting) ∷ []

abbrev pub abandon_list : List ℕ → (waiting request : ℕ) → List Test
abandon_list waiters waiting n =
    (NotWaiting if not (place_of n waiting waiters <? waiting && get_or waiters (place_of n waiting waiters) 0 % 4 <? 2)) ∷ []

abbrev pub state_list : (state low high : ℕ) → List Test
state_list state low high = (WrongState if not (low to high holds state)) ∷ []

abbrev pub time_list : (state low high second last now : ℕ) → List Test
time_list state low high second last now = (WrongState if not (low to high holds state)) ∷ (WrongTime if wrong_time second last now) ∷ []

abbrev pub pin_list : (state : ℕ) → List Test
pin_list state = (AlreadyPinned if 3 to 4 holds state) ∷ (WrongState if not (state =? 2)) ∷ []

unfoldable pub kind_verdict : SlotPool → Event → (now : ℕ) → Verdict
kind_verdict p e now = or_accept (target p e) (first (kind_tests p e now))
