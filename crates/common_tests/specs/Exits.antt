-- One law for each exit of the shared tests: what the code knows there gives their answer.
use Rattle.std.specs.Prelude.{◌≡◌, Bool, ℕ, ◌≤◌, ◌<◌}
use Rattle.std.proofs.Common.{sym, ◌∙◌}
use Rattle.std.proofs.Math.Bool.{true, false}
use Rattle.std.specs.declared.result.Result.TheVariants.{Ok, Err}
use borrow.Author.Tests.{lt-ltb, le-ltb}
use Rattle.definition.specs.Words.{when◌then◌else◌}
use Rattle.definition.specs.Pool.{is_closed}
use Rattle.definition.specs.Refusals.{first, causeless, taken_after_close}
use Rattle.definition.specs.declared.Event.{Event}
use Rattle.definition.specs.declared.Refusal.TheVariants.{Malformed, ClockBack, AfterClose, NumbersSpent}
use Rattle.slots.specs.declared.Status.{Status}
use Rattle.common_tests.specs.Tests.{spent, common_verdict}
use Rattle.common_tests.specs.Laws.{clear_no}

-- x is the answer whether the event is a clear without a cause
module _ (clock next_id : ℕ) (m : Status) (now : ℕ) (e : Event) {x : Bool} (asked : x ≡ causeless e) where
  pub common_causeless : x ≡ true → Err Malformed ≡ common_verdict clock next_id m now e
  unfolding common_verdict first when◌then◌else◌
  common_causeless bare = rw (← asked, bare)

  module _ (caused : x ≡ false) where
    pub common_back : now < clock → Err ClockBack ≡ common_verdict clock next_id m now e
    unfolding common_verdict first when◌then◌else◌
    common_back h = rw (← asked, caused, lt-ltb now clock h)

    -- b is the answer whether the pool is closed, t that of the next test
    module _ (h : clock ≤ now) {b : Bool} (closed : b ≡ is_closed m.state) {t : Bool} where
      pub common_taken : b ≡ true → t ≡ taken_after_close e → t ≡ true → Ok tt ≡ common_verdict clock next_id m now e
      unfolding common_verdict first when◌then◌else◌
      common_taken shut answer holds =
          let taken : taken_after_close e ≡ true = sym answer ∙ holds in
          rw (← asked, caused, le-ltb now clock h, ← closed, shut, taken, clear_no e taken)

      pub common_closed : b ≡ true → t ≡ taken_after_close e → t ≡ false → Err AfterClose ≡ common_verdict clock next_id m now e
      unfolding common_verdict first when◌then◌else◌
      common_closed shut answer fails =
          let taken : taken_after_close e ≡ false = sym answer ∙ fails in
          rw (← asked, caused, le-ltb now clock h, ← closed, shut, taken)

      pub common_spent : b ≡ false → t ≡ spent e m.generation next_id → t ≡ true → Err NumbersSpent ≡ common_verdict clock next_id m now e
      unfolding common_verdict first when◌then◌else◌
      common_spent unshut answer holds =
          let out : spent e m.generation next_id ≡ true = sym answer ∙ holds in
          rw (← asked, caused, le-ltb now clock h, ← closed, unshut, out)

      pub common_open : b ≡ false → t ≡ spent e m.generation next_id → t ≡ false → Ok tt ≡ common_verdict clock next_id m now e
      unfolding common_verdict first when◌then◌else◌
      common_open unshut answer fails =
          let out : spent e m.generation next_id ≡ false = sym answer ∙ fails in
          rw (← asked, caused, le-ltb now clock h, ← closed, unshut, out)
