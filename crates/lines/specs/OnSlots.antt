-- The machine on slots: what the code does with a line, byte for byte.
use Rattle.std.specs.Prelude.{List, ℕ}
use Rattle.definition.specs.Words.{when◌then◌else◌, ◌<?◌}
use Rattle.definition.specs.Bytes.{frame_of_line, options_of_line}
use Rattle.definition.specs.declared.Refusal.TheVariants.{Malformed}
use Rattle.slots.specs.Call.{call}
use Rattle.first_line.specs.declared.Phase.{Phase}
use Rattle.first_line.specs.declared.Phase.TheVariants.{First, Going, Ended}
use Rattle.first_line.specs.Took.{Took, quiet}
use Rattle.first_line.specs.OnSlots.{Play, badly, options}
use Rattle.frame_lines.specs.OnSlots.{answered}
use Rattle.lines.specs.Machine.{Machine}

module _ (s : Play) where
  abbrev pub line_in : Phase → List ℕ → Took Play ℕ
  line_in First l = options s (options_of_line l)
  line_in Going l = when s.used <? s.budget then answered s (call s.pool s.scratch (frame_of_line l)) else quiet s
  line_in Ended l = quiet s

  abbrev pub last_in : Phase → Took Play ℕ
  last_in First = badly s Malformed
  last_in Going = quiet s
  last_in Ended = quiet s

unfoldable pub line_slots : Play → List ℕ → Took Play ℕ
line_slots s l = line_in s s.phase l

unfoldable pub last_slots : Play → Took Play ℕ
last_slots s = last_in s s.phase

abbrev pub on_slots : Machine Play ℕ
on_slots = record { line = line_slots; last = last_slots }
