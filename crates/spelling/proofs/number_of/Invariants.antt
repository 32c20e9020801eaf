use Rattle.std.proofs.Common.{◌≡◌, ◌≤◌, drop}
use Rattle.spelling.specs.Spelling.{most, digits}
use Rattle.spelling.proofs.number_of.Given as goal

abbrev pub invariant-loop-c : goal.invariant-loop-c
invariant-loop-c l = (l.number ≤ most) × (digits 0 l.word ≡ digits l.number (drop l.c-index l.word))
