use Rattle.printing.proofs.Laws.{Encoding}
use Rattle.printing.proofs.encode.Given as goal

abbrev pub invariant-loop-i : goal.invariant-loop-i
invariant-loop-i l = Encoding l.s l.initial.o l.o l.i
