use Rattle.std.specs.Prelude.{◌+◌, set}
use Rattle.std.proofs.Common.{rules}
use Rattle.std.proofs.Math.Path.{ap}
use Rattle.slots.specs.Slots.{shelve}
use Rattle.slots.specs.View.{with_available}
use Rattle.slots.specs.Parts.{worker_whole, state_pool}
use Rattle.acts.proofs.shelve.Goals as goal

pub returns : goal.returns
unfolding shelve
returns c =
    let w = c.args.worker.now in
    let k = w.head.available_count in
    rw c.from.ensures (ap (λ p. with_available p (set w.available k c.args.i) (k + 1)) (state_pool w (worker_whole w (search rules)).slots c.args.i c.args.since 1 c.requires.slot))
