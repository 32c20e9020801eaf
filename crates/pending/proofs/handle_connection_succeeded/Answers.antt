use Rattle.std.specs.Prelude.{refl}
use Rattle.pending.specs.Exits.{ready_lent}
use Rattle.pending.proofs.handle_connection_succeeded.Goals as goal

pub returns : goal.returns
returns c =
    let w = c.args.worker.now in
    ready_lent w c.leave_pending.new.worker c.leave_pending.ensures c.args.i refl c.emit.ensures _ c.set_state.ensures
