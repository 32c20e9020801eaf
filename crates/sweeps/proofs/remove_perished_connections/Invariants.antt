use Rattle.slots.specs.View.{pool_in}
use Rattle.slots.specs.Slots.{prune}
use Rattle.slots.specs.Sweep.{Sweeping}
use Rattle.sweeps.proofs.remove_perished_connections.Given as goal

abbrev pub invariant-loop-worker : goal.invariant-loop-worker
invariant-loop-worker l =
    Sweeping prune 0 (prune l.initial.worker.head.available_count (pool_in l.initial.worker)) l.initial.records l.worker.head.available_count (pool_in l.worker) l.records

abbrev pub decreases-loop-worker : goal.decreases-loop-worker
decreases-loop-worker l = l.worker.head.available_count
