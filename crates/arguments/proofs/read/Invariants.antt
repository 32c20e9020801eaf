use Rattle.arguments.specs.Laws.{Saying}
use Rattle.arguments.proofs.read.Given as goal

abbrev pub invariant-loop-i : goal.invariant-loop-i
invariant-loop-i g l = Saying l.said l.i
