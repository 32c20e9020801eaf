use Rattle.std.proofs.Common.{arith}
use Rattle.stream.specs.Streams.{plays}
use Rattle.stream.proofs.play.Goals as goal

pub returns : goal.returns
returns g c =
    let f = c.in_ok-whole.ensures in
    plays c.args.budget c.begin.result f.text f.log f.last.session f.ends.rest _ _ _ c.begin.ensures f.took f.ends.ended (omega (arith, f.ends.read)) (omega (arith, f.ends.sent))
