use Rattle.slot_rules.proofs.Laws.{Marking}
use Rattle.slot_rules.proofs.ids_distinct.Given as goal

abbrev pub invariant-loop-i : goal.invariant-loop-i
invariant-loop-i l = Marking l.ids l.i l.marks
