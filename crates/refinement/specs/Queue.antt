-- The queue of waiters: told and emptied, joined at the back, left at the front, marked in the middle.
use Rattle.std.specs.Prelude.{Bool, not, ◌&&◌, ◌||◌, List, map, ℕ, take, drop}
use Rattle.definition.specs.Words.{◌=?◌}
use Rattle.definition.specs.Pool.{Waiter}
use Rattle.slots.specs.View.{waiter_of}

-- the mark that a waiter is abandoned
abbrev pub marked : ℕ → Waiter → Waiter
marked n w = record { id = w.id; warm = w.warm; abandoned = w.abandoned || w.id =? n }

-- the first k behind the front
abbrev pub others : List ℕ → ℕ → List Waiter
others waiters k = map waiter_of (take k (drop 1 waiters))

-- ── Whether a request waits ────────────────────────────────────────────────────────────────────────────────────────────

abbrev pub waits_for : ℕ → Waiter → Bool
waits_for n w = w.id =? n && not w.abandoned
