use Rattle.std.proofs.Common.{ap}
use Rattle.std.specs.declared.result.Result.TheVariants.{Ok}
use Rattle.definition.specs.Words.{when◌then◌else◌}
use Rattle.pool.specs.Making.{making}
use Rattle.pool.specs.declared.Pool.{Pool}
use Rattle.pool.proofs.Pool.new.Goals as goal

pub returns-then-not-in_range : goal.returns-then-not-in_range
unfolding making when◌then◌else◌
returns-then-not-in_range c = rw (← c.with_defaults-o.ensures, ← c.in_range.ensures, c.if-not-in_range.true) c.not_made.ensures

pub returns : goal.returns
unfolding making when◌then◌else◌
returns c =
    rw (← c.with_defaults-o.ensures, ← c.in_range.ensures, c.if-not-in_range.false)
    (ap (λ (p : Pool). record { outcome = Ok 0; pool = p }) c.fresh.ensures)
