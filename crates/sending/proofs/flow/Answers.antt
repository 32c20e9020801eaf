use Rattle.std.specs.Prelude.{take}
use Rattle.std.proofs.Common.{arith, length-take}
use Rattle.sending.proofs.Steps.{going_more}
use Rattle.sending.proofs.flow.Goals as goal

pub loop-read-preserved : goal.loop-read-preserved
loop-read-preserved g c =
    let l = c.loop-read in (
      omega arith,
      omega arith,
      going_more g.T.Taker.ready g.T.Taker.took g.met.T.Taker.laws c.args.taker.now l.taker l.read l.sent (take c.in-Ok.n c.read.new.buf) c.in-Some.more c.drain.new.taker
          c.in_ok-sent.sent (omega (arith, length-take c.in-Ok.n c.read.new.buf, c.in-Ok.ensures.bound, c.in-Some.ensures)) l.invariant.2 c.in_ok-sent.ensures,
    )
