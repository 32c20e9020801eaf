use Rattle.std.proofs.Common.{arith}
use Rattle.newlines.specs.Newlines.{len_stop, len_more, len_end}
use Rattle.newlines.proofs.line_end_from.Goals as goal

pub returns-then-text-i-eq10 : goal.returns-then-text-i-eq10
returns-then-text-i-eq10 c =
    let e = len_stop c.args.text.now c.loop-i.i c.loop-i-test.true c.if-text-i-eq10.true in
    (omega (arith, c.loop-i.invariant), omega arith)

pub loop-i-preserved : goal.loop-i-preserved
loop-i-preserved c =
    let e = len_more c.args.text.now c.loop-i.i c.loop-i-test.true c.if-text-i-eq10.false in omega (arith, c.loop-i.invariant)

pub returns : goal.returns
returns c =
    let e = len_end c.args.text.now c.loop-i.i c.loop-i-test.false in (omega (arith, c.loop-i.invariant), omega arith)
