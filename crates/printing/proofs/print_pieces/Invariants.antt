use Rattle.printing.proofs.Turns.{Printing}
use Rattle.printing.proofs.print_pieces.Given as goal

abbrev pub invariant-loop-i : goal.invariant-loop-i
invariant-loop-i g l = Printing g.row.W l.s l.initial.o l.o l.i
