use Rattle.std.proofs.Common.{arith, length-take}
use Rattle.writer_main.proofs.try_events.Goals as goal

pub slice_bounds-out-end-2 : goal.slice_bounds-out-end-2
slice_bounds-out-end-2 g c = simp length-take (omega arith)
