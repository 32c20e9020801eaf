use Rattle.std.specs.Prelude.{refl}
use Rattle.slots.specs.Slots.{leave_pending}
use Rattle.pending.proofs.leave_pending.Goals as goal

pub returns : goal.returns
unfolding leave_pending
returns c = refl
