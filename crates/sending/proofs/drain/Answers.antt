use Rattle.std.proofs.Common.{arith}
use Rattle.sending.proofs.Steps.{drains_more, left_over}
use Rattle.sending.proofs.drain.Goals as goal

pub loop-at-preserved : goal.loop-at-preserved
loop-at-preserved g c =
    let l = c.loop-at in
    let k = c.in_ok-part.ensures in (
      omega (arith, k.within, left_over c.args.text.now c.loop-at.at),
      omega arith,
      drains_more g.T.Taker.ready g.T.Taker.took g.met.T.Taker.laws c.args.taker.now c.args.before c.args.text.now l.taker l.sent l.at c.go_on.new.out c.in_ok-part.part
          c.go_on.new.self c.in_ok-sent.sent l.invariant.2 k c.in_ok-sent.ensures,
    )
