use Rattle.std.proofs.Common.{arith, rules}
use Rattle.slots.specs.View.{pool_in}
use Rattle.slots.specs.Parts.{worker_whole}
use Rattle.slots.specs.Slots.{prune, remove_perished}
use Rattle.slots.specs.Sweep.{sweep_pops, sweep_at}
use Rattle.sweeps.specs.Sweeping.{front_start, prune_looks, prune_closes, prune_turns, pruned_some, pruned_all}
use Rattle.sweeps.proofs.remove_perished_connections.Goals as goal

pub loop-worker-init : goal.loop-worker-init
loop-worker-init c = front_start prune (pool_in c.args.worker.now) (worker_whole c.args.worker.now (search rules)) c.requires

pub examine-front-requires : goal.examine-front-requires
examine-front-requires c = let r = prune_looks c.loop-worker.worker c.loop-worker.invariant in (r.1, r.2)

pub returns-in_default : goal.returns-in_default
unfolding remove_perished
returns-in_default c = pruned_some c.loop-worker.worker c.loop-worker.invariant c.examine-front.ensures.slot (grind arith)

pub pop_front-requires : goal.pop_front-requires
pop_front-requires c = let r = sweep_pops c.loop-worker.invariant c.loop-worker-test.true in (r.1, r.2)

pub close_connection-requires : goal.close_connection-requires
close_connection-requires c =
    let r = prune_closes c.loop-worker.worker c.loop-worker.invariant c.examine-front.ensures.slot {reason = c.in-Some.reason} {age = c.in-Some.age} (grind arith) c.loop-worker-test.true c.pop_front.ensures in
    (r.1, r.2)

pub loop-worker-smaller : goal.loop-worker-smaller
loop-worker-smaller c =
    let turned = prune_turns c.loop-worker.worker c.loop-worker.invariant c.examine-front.ensures.slot {reason = c.in-Some.reason} {age = c.in-Some.age} (grind arith) c.loop-worker-test.true c.pop_front.ensures c.close_connection.ensures in
    omega (arith, c.loop-worker-test.true, turned.count)

pub loop-worker-preserved : goal.loop-worker-preserved
loop-worker-preserved c =
    sweep_at (prune_turns c.loop-worker.worker c.loop-worker.invariant c.examine-front.ensures.slot {reason = c.in-Some.reason} {age = c.in-Some.age} (grind arith) c.loop-worker-test.true c.pop_front.ensures c.close_connection.ensures)

pub returns : goal.returns
unfolding remove_perished
returns c = pruned_all c.loop-worker.worker c.loop-worker.invariant (omega (arith, c.loop-worker-test.false))
