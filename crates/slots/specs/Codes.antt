-- Why an available connection is closed.
use Rattle.std.specs.Prelude.{◌≡◌, ℕ, ◌<◌, get_or, Some, None}
use Rattle.std.specs.declared.option.Option.{Option}
use Rattle.definition.specs.Words.{when◌then◌else◌}
use Rattle.definition.specs.declared.ClosedReason.{ClosedReason}
use Rattle.definition.specs.declared.ClosedReason.TheVariants.{Idle, Stale}
use Rattle.slots.specs.View.{SlotPool, stale_at, perished_at, age_told_at}

-- the connection in slot i: the reason where it has perished, and then the age that is told
abbrev pub why_at : SlotPool → ℕ → Option (ClosedReason × ℕ)
why_at p i = when perished_at p i then Some ((when stale_at p i then Stale else Idle), age_told_at p i) else None

-- of the available connection at place k: its slot, and why it is closed
pub record Examines (p : SlotPool) (k i : ℕ) (x : Option (ClosedReason × ℕ)) : Type 0 where
  pub slot : i ≡ get_or p.available k 0
  pub why : x ≡ why_at p i
