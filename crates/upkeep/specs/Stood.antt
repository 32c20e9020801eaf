-- What these steps ask.
use Rattle.definition.specs.Pool.{Pool}
use Rattle.slots.specs.View.{SlotPool}
use Rattle.refinement.specs.Stands.{Stands}

-- the pool stands for one on lists
pub record Stood (p : SlotPool) : Type 0 where
  pub lists : Pool
  pub stands : Stands p lists
