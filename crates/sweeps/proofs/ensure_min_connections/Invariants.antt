use Rattle.std.specs.Prelude.{◌-◌}
use Rattle.slots.specs.View.{pool_in}
use Rattle.slots.specs.Slots.{ensure_min_connections}
use Rattle.sweeps.specs.Filling.{Filling}
use Rattle.sweeps.proofs.ensure_min_connections.Given as goal

abbrev pub invariant-loop-worker : goal.invariant-loop-worker
invariant-loop-worker l = Filling (ensure_min_connections (pool_in l.initial.worker)) l.initial.records l.options (pool_in l.worker) l.records

abbrev pub decreases-loop-worker : goal.decreases-loop-worker
decreases-loop-worker l = l.options.minimum - l.worker.head.total_connection_count
