use Rattle.common_tests.specs.Exits.{common_causeless, common_back, common_taken, common_closed, common_spent, common_open}
use Rattle.common_tests.proofs.common_verdict.Goals as goal

pub returns-then-causeless : goal.returns-then-causeless
returns-then-causeless c =
    common_causeless c.args.clock c.args.next_id c.args.m c.args.time c.args.e c.causeless.ensures c.if-causeless.true

pub returns-then-time-clock : goal.returns-then-time-clock
returns-then-time-clock c =
    common_back c.args.clock c.args.next_id c.args.m c.args.time c.args.e c.causeless.ensures c.if-causeless.false c.if-time-clock.true

pub returns-then-taken_after_close : goal.returns-then-taken_after_close
returns-then-taken_after_close c =
    common_taken c.args.clock c.args.next_id c.args.m c.args.time c.args.e c.causeless.ensures c.if-causeless.false c.if-time-clock.false
    c.is_closed.ensures c.if-is_closed.true c.taken_after_close.ensures c.if-taken_after_close.true

pub returns-then-is_closed : goal.returns-then-is_closed
returns-then-is_closed c =
    common_closed c.args.clock c.args.next_id c.args.m c.args.time c.args.e c.causeless.ensures c.if-causeless.false c.if-time-clock.false
    c.is_closed.ensures c.if-is_closed.true c.taken_after_close.ensures c.if-taken_after_close.false

pub returns-then-numbers_spent : goal.returns-then-numbers_spent
returns-then-numbers_spent c =
    common_spent c.args.clock c.args.next_id c.args.m c.args.time c.args.e c.causeless.ensures c.if-causeless.false c.if-time-clock.false
    c.is_closed.ensures c.if-is_closed.false c.numbers_spent.ensures c.if-numbers_spent.true

pub returns : goal.returns
returns c =
    common_open c.args.clock c.args.next_id c.args.m c.args.time c.args.e c.causeless.ensures c.if-causeless.false c.if-time-clock.false
    c.is_closed.ensures c.if-is_closed.false c.numbers_spent.ensures c.if-numbers_spent.false
