use Rattle.std.proofs.Common.{ap}
use Rattle.std.specs.Prelude.{ℕ, set}
use Rattle.slots.specs.View.{pool_in, with_waiters}
use Rattle.slots.specs.Slots.{abandon_at}
use Rattle.requests.proofs.abandon.Goals as goal

pub returns : goal.returns
unfolding abandon_at
returns c =
    let w = c.args.worker.now in
    ap (λ (x : ℕ). with_waiters (pool_in w) (set w.waiters c.args.k x) w.head.waiting_count) c.abandoned.ensures
