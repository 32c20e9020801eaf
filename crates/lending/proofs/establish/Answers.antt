use Rattle.slots.specs.View.{pool_in, waiter_of}
use Rattle.lending.specs.Lending.{created_tells, established}
use Rattle.lending.proofs.establish.Goals as goal

pub tell-requires : goal.tell-requires
tell-requires c = (created_tells 5 (pool_in c.args.worker.now) c.create_pending_connection.ensures c.requires.1).0

pub returns : goal.returns
returns c = established (waiter_of c.args.waiter) (pool_in c.args.worker.now) c.create_pending_connection.ensures c.tell.ensures
