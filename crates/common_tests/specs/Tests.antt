-- The tests that every kind of event shares.
use Rattle.std.specs.Prelude.{⊤, Bool, not, ◌&&◌, ◌||◌, List, [], ◌∷◌, ℕ}
use Rattle.std.specs.Prelude.{Option, None as none, Some as some}
use Rattle.definition.specs.Words.{◌<?◌, ◌=?◌}
use Rattle.definition.specs.Pool.{is_closed}
use Rattle.definition.specs.Steps.{kind_no}
use Rattle.definition.specs.Refusals.{Test, ◌if◌, first, causeless, taken_after_close, last_next_id, last_generation}
use Rattle.definition.specs.declared.Event.{Event}
use Rattle.definition.specs.declared.Refusal.{Refusal}
use Rattle.definition.specs.declared.Refusal.TheVariants.{Malformed, ClockBack, AfterClose, NumbersSpent}
use Rattle.slots.specs.declared.Status.{Status}
use Rattle.std.specs.declared.result.Result.{Result}
use Rattle.std.specs.declared.result.Result.TheVariants.{Ok, Err}

abbrev pub spent : Event → (generation next_id : ℕ) → Bool
spent e generation next_id = not (kind_no e =? 15) && last_next_id <? next_id || kind_no e =? 5 && generation =? last_generation

-- 2, of a clear; 3, 4 and 5
abbrev pub common_tests : (clock next_id : ℕ) → Status → (now : ℕ) → Event → List Test
common_tests clock next_id m now e =
    (Malformed if causeless e) ∷
    (ClockBack if now <? clock) ∷
    (AfterClose if is_closed m.state && not (taken_after_close e)) ∷
    (NumbersSpent if not (is_closed m.state) && not (kind_no e =? 15) && last_next_id <? next_id || kind_no e =? 5 && m.generation =? last_generation) ∷ []

abbrev pub common_of : Option Refusal → Result ⊤ Refusal
common_of none = Ok tt
common_of (some r) = Err r

unfoldable pub common_verdict : (clock next_id : ℕ) → Status → (now : ℕ) → Event → Result ⊤ Refusal
common_verdict clock next_id m now e = common_of (first (common_tests clock next_id m now e))
