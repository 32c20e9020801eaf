use Rattle.std.specs.Prelude.{refl, ◌+◌}
use Rattle.std.proofs.Common.{arith, rules, ap, ◌∙◌}
use Rattle.definition.specs.Steps.{◌>>◌}
use Rattle.definition.specs.declared.PoolState.TheVariants.{Paused}
use Rattle.slots.specs.DoneLaws.{did_then, did_quiet}
use Rattle.slots.specs.Slots.{interrupted, cleared_ready, enter, clear}
use Rattle.slots.specs.View.{SlotPool, pool_in}
use Rattle.refinement.specs.Sites.{cleared_generation}
use Rattle.upkeep.specs.Exits.{interrupt_few}
use Rattle.upkeep.proofs.clear.Goals as goal

pub clear_ready-requires : goal.clear_ready-requires
clear_ready-requires c =
    let r = c.requires in
    let few = interrupt_few c.args.timeout (pool_in c.args.worker.now) in
    let fits = r.0.stands.alike.queue.fits in
    (r.0, r.1, (omega (arith, few, fits, c.interrupt.ensures), omega (arith, few, fits, c.interrupt.ensures)))

pub overflow_add-worker : goal.overflow_add-worker
overflow_add-worker c =
    let a = c.args in
    let same = ap (λ (x : SlotPool). x.generation) c.clear_ready.ensures.done.pool ∙ cleared_generation a.timeout a.cause (pool_in a.worker.now) in
    rw same (search rules)

pub returns : goal.returns
unfolding clear enter
returns c =
    let a = c.args in
    let p = pool_in a.worker.now in
    let pause = enter (Paused a.cause) (p.generation + 1) in
    let same = ap (λ (x : SlotPool). x.generation) c.clear_ready.ensures.done.pool ∙ cleared_generation a.timeout a.cause p in
    did_then (interrupted a.timeout) (cleared_ready a.timeout a.cause >> pause) p {v = a.worker.now} c.interrupt.ensures
    (did_then (cleared_ready a.timeout a.cause) pause p c.clear_ready.ensures (did_quiet _ refl (rw same)))
