use Rattle.std.proofs.Common.{arith}
use Rattle.digits.proofs.Laws.{pairing_more, pairing_end}
use Rattle.digits.proofs.paired.Goals as goal

pub loop-i-preserved : goal.loop-i-preserved
loop-i-preserved c = pairing_more c.args.numbers.now c.loop-i.b-items c.loop-i.i (omega arith) (omega arith) c.loop-i.invariant

pub returns : goal.returns
returns c =
    pairing_end c.args.numbers.now c.loop-i.b-items c.loop-i.i (omega arith) c.told-numbers c.loop-i-test.array_long c.loop-i.invariant
