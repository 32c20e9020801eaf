use Rattle.std.proofs.Common.{arith}
use Rattle.table.proofs.Laws.{shift_set}
use Rattle.table.proofs.shift.Goals as goal

pub returns : goal.returns
returns g c = shift_set c.args.cells.now c.args.blank c.copy_within.ensures.after (omega arith)
