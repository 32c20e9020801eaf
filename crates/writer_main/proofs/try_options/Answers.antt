use Rattle.std.proofs.Common.{arith, length-take}
use Rattle.writer_main.proofs.try_options.Goals as goal

pub slice_bounds-try_rooms-end-3 : goal.slice_bounds-try_rooms-end-3
slice_bounds-try_rooms-end-3 g c = simp length-take (omega arith)
