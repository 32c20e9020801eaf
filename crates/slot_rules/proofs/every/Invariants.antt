use Rattle.std.specs.Prelude.{◌≡◌, Bool, ℕ, ◌<◌}
use Rattle.definition.specs.Pool.{slot_count}
use Rattle.slot_rules.specs.Tests.{every}
use Rattle.slot_rules.proofs.every.Given as goal

abbrev pub invariant-loop-i : goal.invariant-loop-i
invariant-loop-i g l =
    (t : ℕ → Bool) → ((i : ℕ) (b : Bool) → i < slot_count → goal.F-post g l.test i b → b ≡ t i) → l.ok ≡ every l.i t
