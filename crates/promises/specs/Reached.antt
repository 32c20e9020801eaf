-- What every pool that is reached is: within its maximum, its queue not too long, and as its state says.
use Rattle.std.specs.Prelude.{◌≤◌, length}
use Rattle.definition.specs.Pool.{Pool, total, queue_length}
use Rattle.promises.specs.States.{Stated}

pub record Reached (p : Pool) : Type 0 where
  pub ordered : p.options.minimum ≤ p.options.maximum
  pub fits : total p ≤ p.options.maximum
  pub short : length p.waiting ≤ queue_length
  pub state : Stated p
