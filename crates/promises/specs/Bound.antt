-- The pool never holds more connections than the maximum, nor more waiters than the queue's length.
use Rattle.std.specs.Prelude.{ℕ, ◌≤◌}
use Rattle.definition.specs.Pool.{Pool, total}
use Rattle.definition.specs.Steps.{Out}

-- ── An event's own stage ───────────────────────────────────────────────────────────────────────────────────────────────

abbrev pub Fits : ℕ → Out Pool → Type 0
Fits m o = total o.pool ≤ m
