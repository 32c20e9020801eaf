use Rattle.std.specs.Prelude.{refl}
use Rattle.slots.specs.Slots.{pop_front}
use Rattle.acts.proofs.pop_front.Goals as goal

pub shift_order-requires : goal.shift_order-requires
shift_order-requires c = (c.requires.1, c.requires.0.fits)

pub returns : goal.returns
unfolding pop_front
returns c = rw c.shift_order.ensures
