use Rattle.std.proofs.Common.{arith, rules, ap}
use Rattle.std.specs.Prelude.{List, ℕ, ◌-◌}
use Rattle.slots.specs.View.{SlotPool, pool_in, with_waiters}
use Rattle.slots.specs.Slots.{dequeue}
use Rattle.checkout.proofs.dequeue.Goals as goal

pub returns-clause-queue : goal.returns-clause-queue
unfolding dequeue
returns-clause-queue c =
    ap (λ (l : List ℕ). with_waiters (pool_in c.args.worker.now) l (c.args.worker.now.head.waiting_count - 1)) c.shift_waiters.ensures
