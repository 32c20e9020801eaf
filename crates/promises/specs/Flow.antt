-- Requests: who was waiting, and then who arrived, is who was answered, and then who is waiting.
use Rattle.std.specs.Prelude.{◌≡◌, false, List, [], ◌++◌, ℕ}
use Rattle.definition.specs.Pool.{Pool, is_ready}
use Rattle.definition.specs.Steps.{Out}
use Rattle.definition.specs.Log.{answered, ids}

pub record Flow (arrived : List ℕ) (p : Pool) (o : Out Pool) : Type 0 where
  pub same : ids p.waiting ++ arrived ≡ answered o.records ++ ids o.pool.waiting

-- ── Steps ──────────────────────────────────────────────────────────────────────────────────────────────────────────────

-- a pool that is not ready has nobody waiting
unfoldable pub Calm : Pool → Type 0
Calm p = is_ready p.state ≡ false → p.waiting ≡ []

-- ── A pool that is not ready has nobody waiting, before and after ──────────────────────────────────────────────────────

pub record Calms (p : Pool) (o : Out Pool) : Type 0 where
  pub calms : Calm p → Calm o.pool
