use Rattle.std.proofs.Common.{rules}
use Rattle.arguments.specs.Laws.{saying_none, saying_more, saying_wrong}
use Rattle.arguments.proofs.read.Goals as goal

pub loop-i-init : goal.loop-i-init
loop-i-init g c = saying_none

pub loop-i-preserved : goal.loop-i-preserved
loop-i-preserved g c = saying_more c.loop-i.said c.loop-i.i c.loop-i.invariant c.in_ok-said.said (search rules)

pub returns-in_err-said : goal.returns-in_err-said
returns-in_err-said g c =
    let h = saying_wrong c.loop-i.said c.loop-i.i c.loop-i.invariant c.in_err-said.field-0.0.why (search rules) in search rules
