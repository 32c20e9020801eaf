use Rattle.std.specs.Prelude.{refl}
use Rattle.std.proofs.Common.{arith, rules}
use Rattle.slots.specs.ActExits.{created_did}
use Rattle.acts.proofs.create_pending_connection.Goals as goal

pub put_slot-requires : goal.put_slot-requires
put_slot-requires c = omega (arith, c.find_vacant-i.ensures, c.requires.0.spot)

pub returns : goal.returns
returns c = rw (← c.from.ensures) (created_did c.args.worker.now c.put_slot.new.worker _ c.find_vacant-i.result _ c.find_vacant-i.ensures c.emit.ensures c.put_slot.ensures refl)
