use Rattle.std.proofs.Common.{lt-ltb, le-ltb}
use Rattle.std.proofs.lemmas.Result.{err_from_is_err_and}
use Rattle.slots.specs.View.{pool_in}
use Rattle.verdict.proofs.time_verdict.Goals.{then-time-second-via-then-time-second, then-time-second-via-else-time-second+then-second-f}
use Rattle.verdict.specs.Exits.{timed_other, timed_wrong, timed_right}
use Rattle.verdict.proofs.time_verdict.Goals as goal

pub returns-in_err-f : goal.returns-in_err-f
returns-in_err-f c =
    let p = err_from_is_err_and c.from_residual.result c.from_residual.ensures.1 in
    rw (p.1, p.2) (timed_other (pool_in c.args.worker.now) c.args.id c.args.low c.args.high c.args.second c.args.time c.in_err-f.ensures)

pub returns-then-time-second : goal.returns-then-time-second
returns-then-time-second c =
    timed_wrong (pool_in c.args.worker.now) c.args.id c.args.low c.args.high c.args.second c.args.time c.in_ok-f.ensures
    (elim c.then-time-second.branch [ then-time-second-via-then-time-second w ↦ rw (lt-ltb c.args.time c.args.second w.if-time-second.true) | then-time-second-via-else-time-second+then-second-f w ↦ rw (le-ltb c.args.time c.args.second w.if-time-second.false, lt-ltb _ _ w.if-second-f.true) ])

pub returns : goal.returns
returns c =
    timed_right (pool_in c.args.worker.now) c.args.id c.args.low c.args.high c.args.second c.args.time c.in_ok-f.ensures
    (rw (le-ltb c.args.time c.args.second c.if-time-second.false, le-ltb _ _ c.if-second-f.false))
