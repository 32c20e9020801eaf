use Rattle.std.specs.Prelude.{◌≡◌, ◌+◌, drop}
use Rattle.newlines.specs.Newlines.{line_len}
use Rattle.newlines.proofs.line_end_from.Given as goal

abbrev pub invariant-loop-i : goal.invariant-loop-i
invariant-loop-i l = l.at + line_len (drop l.at l.text) ≡ l.i + line_len (drop l.i l.text)
