use Rattle.std.proofs.Common.{rules}
use Rattle.slots.specs.Slots.{set_state_at}
use Rattle.slots.specs.Parts.{worker_whole, state_pool}
use Rattle.acts.proofs.set_state.Goals as goal

pub returns : goal.returns
unfolding set_state_at
returns c =
    let w = c.args.worker.now in
    rw c.from.ensures (state_pool w (worker_whole w (search rules)).slots c.args.i _ _ c.requires)
