use Rattle.std.specs.Prelude.{refl}
use Rattle.std.proofs.Common.{arith}
use Rattle.slots.specs.View.{pool_in}
use Rattle.pending.specs.Exits.{left_closes, left_shelves, left_closed, ready_shut, ready_kept}
use Rattle.pending.proofs.handle_connection_succeeded_for_pool.Goals as goal

pub close_connection-requires : goal.close_connection-requires
close_connection-requires c =
    let said = c.emit.ensures in
    (left_closes (pool_in c.args.worker.now) _ c.leave_pending.ensures c.args.i c.requires.0, (omega (arith, c.requires.1.0, said.count, said.kept.long), omega (arith, c.requires.1.1, said.count)))

pub returns-then-is_closed : goal.returns-then-is_closed
returns-then-is_closed c =
    let w = c.args.worker.now in
    ready_shut w c.leave_pending.new.worker c.leave_pending.ensures c.args.i refl c.emit.ensures c.args.opened
    (left_closed (pool_in w) _ c.leave_pending.ensures c.args.i c.requires.0 c.is_closed.ensures) c.if-is_closed.true c.close_connection.ensures

pub shelve-requires : goal.shelve-requires
shelve-requires c = left_shelves (pool_in c.args.worker.now) _ c.leave_pending.ensures c.args.i c.requires.0

pub returns-else-is_closed : goal.returns-else-is_closed
returns-else-is_closed c =
    let w = c.args.worker.now in
    ready_kept w c.leave_pending.new.worker c.leave_pending.ensures c.args.i refl c.emit.ensures c.args.opened
    (left_closed (pool_in w) _ c.leave_pending.ensures c.args.i c.requires.0 c.is_closed.ensures) c.if-is_closed.false _ c.shelve.ensures
