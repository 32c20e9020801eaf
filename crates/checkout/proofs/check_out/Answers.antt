use Rattle.slots.specs.View.{pool_in}
use Rattle.checkout.specs.Serving.{out_takes, out_warm, out_low, low_creates}
use Rattle.checkout.proofs.check_out.Goals as goal

pub returns-then-waiter-ne1 : goal.returns-then-waiter-ne1
returns-then-waiter-ne1 c = out_takes c.args.waiter c.args.worker.now c.if-waiter-ne1.true c.take_available.ensures

pub returns-then-worker : goal.returns-then-worker
returns-then-worker c = out_warm c.args.waiter c.args.worker.now c.if-waiter-ne1.false c.if-worker.true c.tell.ensures

pub establish-requires : goal.establish-requires
establish-requires c = low_creates (pool_in c.args.worker.now) c.args.records.now c.requires c.if-worker.false

pub returns-else-worker : goal.returns-else-worker
returns-else-worker c = out_low c.args.waiter c.args.worker.now c.if-waiter-ne1.false c.if-worker.false c.establish.ensures
