use Rattle.sweeps.specs.Telling.{Telling}
use Rattle.sweeps.proofs.tell_all.Given as goal

abbrev pub invariant-loop-k : goal.invariant-loop-k
invariant-loop-k l = Telling l.reply l.initial.records l.initial.worker l.k l.worker l.records
