use Rattle.slots.specs.Parts.{put_pool}
use Rattle.table.proofs.put_slot.Goals as goal

pub returns : goal.returns
returns c = put_pool c.args.worker.now c.args.i c.args.id c.args.generation c.args.time c.args.state
