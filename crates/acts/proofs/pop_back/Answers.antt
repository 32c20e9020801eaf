use Rattle.std.specs.Prelude.{refl}
use Rattle.slots.specs.Slots.{pop_back}
use Rattle.acts.proofs.pop_back.Goals as goal

pub returns : goal.returns
unfolding pop_back
returns c = refl
