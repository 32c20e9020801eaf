use Rattle.std.specs.Prelude.{refl, ◌≡◌, true, false, ℕ, ◌<◌}
use Rattle.std.proofs.Common.{arith, rules}
use Rattle.slots.specs.Parts.{worker_whole}
use Rattle.rules.specs.Exact.{exactly}
use Rattle.rules.specs.Tests.{keeps_rules}
use Rattle.rules.proofs.keeps_rules.Goals as goal

pub returns-then-hangs_together : goal.returns-then-hangs_together
unfolding keeps_rules
returns-then-hangs_together c =
    let w = c.args.worker.now in
    exactly w _ (worker_whole w (search rules)) (omega arith)
    (rw (← c.hangs_together.ensures, c.if-hangs_together.true) c.is_settled.ensures)

pub returns-else-hangs_together : goal.returns-else-hangs_together
unfolding keeps_rules
returns-else-hangs_together c =
    let w = c.args.worker.now in
    exactly w _ (worker_whole w (search rules)) (omega arith)
    (rw (← c.hangs_together.ensures, c.if-hangs_together.false) refl)
