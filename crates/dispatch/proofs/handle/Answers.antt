use Rattle.std.proofs.Common.{rules}
use Rattle.dispatch.proofs.Handled.{asked}
use Rattle.dispatch.proofs.handle.Goals as goal

pub check_in-requires : goal.check_in-requires
check_in-requires c = search (rules, asked)

pub handle_connection_succeeded-requires : goal.handle_connection_succeeded-requires
handle_connection_succeeded-requires c = search (rules, asked)

pub handle_connection_succeeded_for_pool-requires : goal.handle_connection_succeeded_for_pool-requires
handle_connection_succeeded_for_pool-requires c = search (rules, asked)

pub handle_connection_failed-requires : goal.handle_connection_failed-requires
handle_connection_failed-requires c = search (rules, asked)
