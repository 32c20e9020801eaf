-- What the exits rest on: the kinds that a closed pool takes; and what the shared tests said, by their verdict.
use Rattle.std.specs.Prelude.{◌≡◌, refl, true, false, ℕ}
use Rattle.std.proofs.Common.{ap, arith}
use Rattle.std.proofs.lemmas.Bool.{false≢true}
use Rattle.std.specs.Prelude.{Option, None as none, Some as some}
use Rattle.std.specs.declared.result.Result.TheVariants.{Ok, Err}
use Rattle.definition.specs.Words.{◌=?◌}
use Rattle.definition.specs.Laws.{not_clear}
use Rattle.definition.specs.Steps.{kind_no}
use Rattle.definition.specs.Refusals.{taken_after_close}
use Rattle.definition.specs.declared.Event.{Event}
use Rattle.definition.specs.declared.Refusal.{Refusal}
use Rattle.common_tests.specs.Tests.{common_of}

-- a clear is not among the kinds that a closed pool takes
pub clear_no : (e : Event) → taken_after_close e ≡ true → (kind_no e =? 5) ≡ false
clear_no e h = not_clear e (λ t c q. false≢true (rw q at h))

-- what the shared tests said, by their verdict
pub common_refused : (o : Option Refusal) (r : Refusal) → common_of o ≡ Err r → o ≡ some r
common_refused none r h = let z : ◌≡◌ {A = ℕ} 0 1 = cc in absurd (omega arith)
common_refused (some s) r h = let z : s ≡ r = cc in ap some z

pub common_passed : (o : Option Refusal) → common_of o ≡ Ok tt → o ≡ none
common_passed none h = refl
common_passed (some s) h = let z : ◌≡◌ {A = ℕ} 0 1 = cc in absurd (omega arith)
