use Rattle.std.proofs.lemmas.Result.{err_from_is_err_and}
use Rattle.slots.specs.View.{pool_in}
use Rattle.verdict.specs.Exits.{state_wrong, state_right}
use Rattle.verdict.proofs.state_verdict.Goals as goal

pub returns-in_err-find_in : goal.returns-in_err-find_in
returns-in_err-find_in c =
    let p = err_from_is_err_and c.from_residual.result c.from_residual.ensures.1 in
    rw (p.1, p.2) (state_wrong (pool_in c.args.worker.now) c.args.id c.args.low c.args.high c.in_err-find_in.ensures)

pub returns : goal.returns
returns c = state_right (pool_in c.args.worker.now) c.args.id c.args.low c.args.high c.in_ok-find_in.ensures
