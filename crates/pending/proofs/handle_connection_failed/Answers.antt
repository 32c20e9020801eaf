use Rattle.slots.specs.View.{pool_in}
use Rattle.pending.specs.Exits.{left_closes, failed_closed}
use Rattle.pending.proofs.handle_connection_failed.Goals as goal

pub close_connection-requires : goal.close_connection-requires
close_connection-requires c = (left_closes (pool_in c.args.worker.now) _ c.leave_pending.ensures c.args.i c.requires.0, c.requires.1)

pub returns : goal.returns
returns c = failed_closed c.args.worker.now c.leave_pending.new.worker c.leave_pending.ensures c.args.i c.close_connection.ensures
