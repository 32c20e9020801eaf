use Rattle.std.specs.Prelude.{refl}
use Rattle.std.proofs.Common.{sym, arith}
use Rattle.std.proofs.lemmas.Result.{err_from_is_err_and}
use Rattle.slots.specs.View.{pool_in}
use Rattle.refinement.proofs.Tests.{verdict_passed}
use Rattle.event.specs.Laws.{step_few, step_refused, step_done}
use Rattle.event.proofs.step.Goals as goal

pub event-requires : goal.event-requires
event-requires c =
    let r = c.requires in
    let v = verdict_passed r.0.stands c.args.e c.args.time _ (sym c.in_ok-i.ensures) in
    (r.0, v.0, v.1, r.1, refl)

pub returns-in_err-i : goal.returns-in_err-i
returns-in_err-i c =
    let p = err_from_is_err_and c.from_residual.result c.from_residual.ensures.1 in
    rw (p.1, p.2) (sym (step_refused (pool_in c.args.worker.now) c.args.out.now c.args.e c.args.time _ (sym c.in_err-i.ensures)))

pub overflow_cast-count : goal.overflow_cast-count
overflow_cast-count c =
    let r = c.requires in
    let v = verdict_passed r.0.stands c.args.e c.args.time _ (sym c.in_ok-i.ensures) in
    omega (arith, c.event.ensures.done.count, step_few (pool_in c.args.worker.now) c.args.e c.args.time _ r.0 v.0 v.1)

-- the output is what the records hold, which are still those that were lent
pub returns : goal.returns
returns c =
    rw (c.out-1.given.1.1 (sym c.event.ensures.kept.same))
    (step_done (pool_in c.args.worker.now) c.args.out.now c.args.e c.args.time _ (pool_in c.event.new.worker)
    (sym c.in_ok-i.ensures) c.event.ensures.done c.wrapping_add_u32-worker.ensures.value)
