use Rattle.slots.specs.View.{pool_in}
use Rattle.slots.specs.Slots.{close_front}
use Rattle.slots.specs.Sweep.{Sweeping}
use Rattle.sweeps.proofs.close_available.Given as goal

abbrev pub invariant-loop-worker : goal.invariant-loop-worker
invariant-loop-worker l =
    Sweeping close_front 0 (close_front l.initial.worker.head.available_count (pool_in l.initial.worker)) l.initial.records l.worker.head.available_count (pool_in l.worker) l.records

abbrev pub decreases-loop-worker : goal.decreases-loop-worker
decreases-loop-worker l = l.worker.head.available_count
