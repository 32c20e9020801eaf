use Rattle.std.specs.Prelude.{refl}
use Rattle.std.proofs.Common.{arith, rules}
use Rattle.slots.specs.View.{pool_in}
use Rattle.slots.specs.Parts.{worker_whole}
use Rattle.slots.specs.Slots.{close_front}
use Rattle.slots.specs.Sweep.{sweep_pops, sweep_at}
use Rattle.sweeps.specs.Sweeping.{front_start, front_closes, front_turns, closed_all}
use Rattle.sweeps.proofs.close_available.Goals as goal

pub loop-worker-init : goal.loop-worker-init
loop-worker-init c = front_start close_front (pool_in c.args.worker.now) (worker_whole c.args.worker.now (search rules)) c.requires

pub pop_front-requires : goal.pop_front-requires
pop_front-requires c = let r = sweep_pops c.loop-worker.invariant c.loop-worker-test.true in (r.1, r.2)

pub close_connection-requires : goal.close_connection-requires
close_connection-requires c =
    let r = front_closes c.loop-worker.worker c.loop-worker.invariant refl c.loop-worker-test.true c.pop_front.ensures in
    (r.1, r.2)

pub loop-worker-smaller : goal.loop-worker-smaller
loop-worker-smaller c =
    let turned = front_turns c.loop-worker.worker c.loop-worker.invariant refl c.loop-worker-test.true c.pop_front.ensures c.close_connection.ensures in
    omega (arith, c.loop-worker-test.true, turned.count)

pub loop-worker-preserved : goal.loop-worker-preserved
loop-worker-preserved c =
    sweep_at (front_turns c.loop-worker.worker c.loop-worker.invariant refl c.loop-worker-test.true c.pop_front.ensures c.close_connection.ensures)

pub returns : goal.returns
returns c = closed_all c.loop-worker.worker c.loop-worker.invariant (omega (arith, c.loop-worker-test.false))
