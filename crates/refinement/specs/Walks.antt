-- The steps that go on: pruning, filling up, closing all, and taking from the back until a healthy one.
use Rattle.std.specs.Prelude.{ℕ}
use Rattle.definition.specs.Pool.{Conn}
use Rattle.slots.specs.View.{SlotPool}
use Rattle.refinement.specs.Mirror.{conn_at}

-- ── The front and the back of the available list ───────────────────────────────────────────────────────────────────────

abbrev pub shown : SlotPool → ℕ → Conn
shown p i = conn_at p.ids p.slots i
