use Rattle.list_rules.proofs.Laws.{Rising}
use Rattle.list_rules.proofs.queue_rises.Given as goal

abbrev pub invariant-loop-w : goal.invariant-loop-w
invariant-loop-w l = Rising l.waiters l.last l.w-index l.before l.ok
