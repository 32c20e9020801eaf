use Rattle.std.specs.Prelude.{refl}
use Rattle.slots.specs.ActExits.{closed_did}
use Rattle.acts.proofs.close_connection.Goals as goal

pub returns : goal.returns
returns c = closed_did c.args.worker.now c.put_slot.new.worker _ c.args.i c.args.other c.args.reason c.emit.ensures c.put_slot.ensures refl
