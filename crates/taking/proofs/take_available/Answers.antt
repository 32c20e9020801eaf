use Rattle.std.proofs.Common.{arith, rules, sym, ◌∙◌}
use Rattle.slots.specs.View.{pool_in, waiter_of}
use Rattle.slots.specs.Parts.{worker_whole}
use Rattle.taking.specs.Taking.{take_start, take_at, take_looks, take_pops, take_lends, taken_lent, take_closes, take_turns, take_creates, taken_none}
use Rattle.taking.proofs.take_available.Goals as goal

pub loop-worker-init : goal.loop-worker-init
loop-worker-init c = take_start (waiter_of c.args.waiter) (pool_in c.args.worker.now) (worker_whole c.args.worker.now (search rules)) c.requires

pub examine-back-requires : goal.examine-back-requires
examine-back-requires c = let r = take_looks c.loop-worker.invariant _ (omega (arith, c.loop-worker-test.true)) in (r.1, r.2)

pub pop_back-requires : goal.pop_back-requires
pop_back-requires c = let r = take_pops c.loop-worker.invariant c.loop-worker-test.true in (r.1, r.2)

pub lend-requires : goal.lend-requires
lend-requires c = let r = take_lends c.loop-worker.invariant c.loop-worker-test.true c.examine-back.ensures.slot c.pop_back.new.worker c.pop_back.ensures in (r.1, r.2)

pub returns-in_default : goal.returns-in_default
returns-in_default c =
    taken_lent c.loop-worker.invariant c.loop-worker-test.true c.examine-back.ensures.slot c.pop_back.new.worker c.pop_back.ensures (sym c.in_default.is ∙ c.examine-back.ensures.why) c.lend.ensures

pub close_connection-requires : goal.close_connection-requires
close_connection-requires c =
    let r = take_closes c.loop-worker.invariant c.loop-worker-test.true c.examine-back.ensures.slot c.pop_back.new.worker c.pop_back.ensures (sym c.in-Some.is ∙ c.examine-back.ensures.why) in
    (r.1, r.2)

pub loop-worker-smaller : goal.loop-worker-smaller
loop-worker-smaller c =
    let turned = take_turns c.loop-worker.invariant c.loop-worker-test.true c.examine-back.ensures.slot c.pop_back.new.worker c.pop_back.ensures (sym c.in-Some.is ∙ c.examine-back.ensures.why) c.close_connection.ensures in
    omega (arith, c.loop-worker-test.true, turned.sweep.count)

pub loop-worker-preserved : goal.loop-worker-preserved
loop-worker-preserved c =
    take_at (take_turns c.loop-worker.invariant c.loop-worker-test.true c.examine-back.ensures.slot c.pop_back.new.worker c.pop_back.ensures (sym c.in-Some.is ∙ c.examine-back.ensures.why) c.close_connection.ensures)

pub establish-requires : goal.establish-requires
establish-requires c = let r = take_creates c.loop-worker.invariant (omega (arith, c.loop-worker-test.false)) in (r.1, r.2)

pub returns : goal.returns
returns c = taken_none c.loop-worker.invariant (omega (arith, c.loop-worker-test.false)) c.establish.ensures
