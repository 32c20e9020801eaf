use Rattle.std.specs.Prelude.{not}
use Rattle.std.proofs.Math.Path.{ap}
use Rattle.frame_loop.specs.Formed.{starts_formed}
use Rattle.frame_loop.proofs.ConnectionPoolWorkerWay.begin.Goals as goal

pub returns : goal.returns
returns c = starts_formed _ _ _ c.fresh_head.ensures c.in_range.ensures (ap not c.if-not-in_range.false)
