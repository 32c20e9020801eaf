use Rattle.std.proofs.Common.{sym, arith}
use Rattle.slots.specs.CodeLaws.{idle_none, idle_early, idle_yes, idle_no}
use Rattle.conditions.proofs.idle_for.Goals as goal

pub returns-then-limit-eq0 : goal.returns-then-limit-eq0
returns-then-limit-eq0 c = sym (idle_none c.args.limit c.args.since c.args.clock c.if-limit-eq0.true)

pub returns-then-clock-since : goal.returns-then-clock-since
returns-then-clock-since c = sym (idle_early c.args.limit c.args.since c.args.clock c.if-clock-since.true)

pub returns-then-limit-age : goal.returns-then-limit-age
returns-then-limit-age c =
    sym (idle_yes c.args.limit c.args.since c.args.clock c.if-limit-eq0.false (omega (arith, c.if-limit-age.true)))

pub returns : goal.returns
returns c = sym (idle_no c.args.limit c.args.since c.args.clock (omega (arith, c.if-limit-age.false)))
