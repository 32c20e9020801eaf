use Rattle.std.proofs.Common.{arith, rules}
use Rattle.slots.specs.View.{pool_in}
use Rattle.slots.specs.Parts.{worker_whole}
use Rattle.sweeps.specs.Filling.{fill_never, fill_start, fill_creates, fill_turns, created_total, filled_enough, filled_busy}
use Rattle.sweeps.proofs.ensure_min_connections.Goals as goal

pub returns-then-not-is_ready : goal.returns-then-not-is_ready
returns-then-not-is_ready c = fill_never c.args.worker.now c.is_ready.ensures c.if-not-is_ready.true

pub loop-worker-init : goal.loop-worker-init
loop-worker-init c = fill_start c.args.worker.now c.is_ready.ensures c.if-not-is_ready.false (worker_whole c.args.worker.now (search rules)) c.requires

pub returns-then-options-worker : goal.returns-then-options-worker
returns-then-options-worker c = filled_busy c.loop-worker.worker c.loop-worker.invariant c.if-options-worker.true

pub create_pending_connection-requires : goal.create_pending_connection-requires
create_pending_connection-requires c = let r = fill_creates c.loop-worker.worker c.loop-worker.invariant c.loop-worker-test.true in (r.1, r.2)

pub loop-worker-smaller : goal.loop-worker-smaller
loop-worker-smaller c = omega (arith, c.loop-worker-test.true, created_total (pool_in c.loop-worker.worker) c.create_pending_connection.ensures)

pub loop-worker-preserved : goal.loop-worker-preserved
loop-worker-preserved c = fill_turns c.loop-worker.worker c.loop-worker.invariant c.loop-worker-test.true c.if-options-worker.false c.create_pending_connection.ensures

pub returns : goal.returns
returns c = filled_enough c.loop-worker.worker c.loop-worker.invariant c.loop-worker-test.false
