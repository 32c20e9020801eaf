use Rattle.writing.specs.Laws.{Looking}
use Rattle.writing.proofs.any_malformed.Given as goal

abbrev pub invariant-loop-i : goal.invariant-loop-i
invariant-loop-i l = Looking l.frames l.n l.i
