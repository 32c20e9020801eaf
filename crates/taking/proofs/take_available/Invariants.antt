use Rattle.slots.specs.View.{pool_in, waiter_of}
use Rattle.slots.specs.Slots.{take_from}
use Rattle.taking.specs.Taking.{Taking}
use Rattle.taking.proofs.take_available.Given as goal

abbrev pub invariant-loop-worker : goal.invariant-loop-worker
invariant-loop-worker l =
    Taking (waiter_of l.waiter) (take_from l.initial.worker.head.available_count (waiter_of l.waiter) (pool_in l.initial.worker)) l.initial.records
    l.worker.head.available_count (pool_in l.worker) l.records

abbrev pub decreases-loop-worker : goal.decreases-loop-worker
decreases-loop-worker l = l.worker.head.available_count
