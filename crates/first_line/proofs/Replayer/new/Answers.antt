use Rattle.std.proofs.Common.{ap}
use Rattle.std.specs.Prelude.{replicate}
use Rattle.definition.specs.Refusals.{enough_room}
use Rattle.slots.specs.View.{SlotPool}
use Rattle.first_line.specs.OnSlots.{begun}
use Rattle.first_line.proofs.Replayer.new.Goals as goal

pub returns : goal.returns
returns c = ap (λ (p : SlotPool). begun c.args.budget p (replicate enough_room 0)) c.fresh.ensures
