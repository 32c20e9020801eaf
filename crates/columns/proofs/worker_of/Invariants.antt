use Rattle.columns.proofs.Loops.{Taking}
use Rattle.columns.proofs.worker_of.Given as goal

abbrev pub invariant-loop-i : goal.invariant-loop-i
invariant-loop-i l = Taking l.slot-items l.i l.ids l.generations l.times l.states
