use Rattle.columns.specs.View.{slot_values}
use Rattle.columns.proofs.Loops.{Column}
use Rattle.columns.proofs.pool_of.Given as goal

abbrev pub invariant-loop-i : goal.invariant-loop-i
invariant-loop-i l = Column (slot_values l.fn.worker) l.slot-items l.i
