use Rattle.std.proofs.Common.{◌≡◌, drop}
use Rattle.spelling.specs.Spelling.{looked_up, entries}
use Rattle.spelling.proofs.look_up.Given as goal

abbrev pub invariant-loop-name : goal.invariant-loop-name
invariant-loop-name g l = looked_up (entries (drop l.name-index l.table)) l.word ≡ looked_up (entries l.table) l.word
