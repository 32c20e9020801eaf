use Rattle.std.specs.Prelude.{refl}
use Rattle.std.proofs.lemmas.Result.{err_from_is_err_and}
use Rattle.slots.specs.View.{pool_in}
use Rattle.verdict.specs.Exits.{verdict_by, verdict_open}
use Rattle.verdict.proofs.verdict.Goals as goal

pub returns-in_err-common_verdict : goal.returns-in_err-common_verdict
returns-in_err-common_verdict c =
    let w = c.args.worker.now in
    let p = err_from_is_err_and c.from_residual.result c.from_residual.ensures.1 in
    rw (p.1, p.2) (verdict_by (pool_in w) c.args.e c.args.time w.head.status refl refl c.in_err-common_verdict.ensures)

pub returns : goal.returns
returns c =
    let w = c.args.worker.now in
    verdict_open (pool_in w) c.args.e c.args.time w.head.status refl refl c.in_ok-common_verdict.ensures c.kind_verdict.ensures
