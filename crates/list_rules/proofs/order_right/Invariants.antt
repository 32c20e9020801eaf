use Rattle.list_rules.proofs.Laws.{Ordering}
use Rattle.list_rules.proofs.order_right.Given as goal

abbrev pub invariant-loop-seat : goal.invariant-loop-seat
invariant-loop-seat l = Ordering l.available l.states l.seat-index l.met
