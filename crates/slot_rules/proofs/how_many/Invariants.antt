use Rattle.std.specs.Prelude.{◌≡◌, Bool, ℕ, ◌≤◌, get_or}
use Rattle.refinement.specs.Agree.{Class}
use Rattle.slot_rules.specs.Tests.{tally}
use Rattle.slot_rules.proofs.how_many.Given as goal

abbrev pub invariant-loop-state : goal.invariant-loop-state
invariant-loop-state g l =
    (l.n ≤ l.state-index)
    × ((t : Class) → ((k : ℕ) (b : Bool) → goal.F-post g l.test k b → b ≡ t k) → l.n ≡ tally l.state-index (λ j. t (get_or l.states j 0)))
