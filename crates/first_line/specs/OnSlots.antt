-- The state on slots that lines go on from, and what the options line makes of it, byte for byte.
use Rattle.std.specs.Prelude.{List, ℕ}
use Rattle.std.specs.Prelude.{Option, None as none, Some as some}
use Rattle.definition.specs.Words.{when◌then◌else◌}
use Rattle.definition.specs.Pool.{with_defaults, in_range}
use Rattle.definition.specs.Bytes.{line_of}
use Rattle.definition.specs.Day.{RefusedLine, entry_bytes}
use Rattle.definition.specs.declared.Options.{Options}
use Rattle.definition.specs.declared.Refusal.{Refusal}
use Rattle.definition.specs.declared.Refusal.TheVariants.{Malformed, OptionsOutOfRange}
use Rattle.slots.specs.View.{SlotPool}
use Rattle.refinement.specs.Alike.{fresh_slots}
use Rattle.first_line.specs.declared.Phase.{Phase}
use Rattle.first_line.specs.declared.Phase.TheVariants.{First, Going, Ended}
use Rattle.first_line.specs.Took.{Took, quiet}

-- the pool counts only while the run is going; the scratch is the buffer that events lay their records in
pub record Play : Type 0 where
  pub phase : Phase
  pub used : ℕ
  pub budget : ℕ
  pub pool : SlotPool
  pub scratch : List ℕ

-- before the options line, with something in the pool's place
abbrev pub begun : (budget : ℕ) → SlotPool → (scratch : List ℕ) → Play
begun budget p l = record { phase = First; used = 0; budget = budget; pool = p; scratch = l }

abbrev pub no_options : Options
no_options = record { maximum = 0; minimum = 0; connecting = 0; idle = 0 }

-- the log's line for a refused one
abbrev pub refused_line : Refusal → (line : ℕ) → List ℕ
refused_line r line = line_of (entry_bytes (RefusedLine r line))

module _ (s : Play) where
  abbrev pub badly : Refusal → Took Play ℕ
  badly r = record { state = record { phase = Ended; used = s.used; budget = s.budget; pool = s.pool; scratch = s.scratch }; out = refused_line r 1 }

  abbrev pub ready : Options → Took Play ℕ
  ready o = quiet (record { phase = Going; used = s.used; budget = s.budget; pool = fresh_slots o; scratch = s.scratch })

  abbrev pub made : Options → Took Play ℕ
  made o = when in_range o then ready o else badly OptionsOutOfRange

  abbrev pub options : Option Options → Took Play ℕ
  options none = badly Malformed
  options (some o) = made (with_defaults o)
