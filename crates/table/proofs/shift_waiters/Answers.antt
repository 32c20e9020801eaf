use Rattle.std.specs.Prelude.{◌++◌, drop}
use Rattle.std.proofs.Common.{ap, ◌∙◌}
use Rattle.table.proofs.Laws.{shift_front}
use Rattle.table.proofs.shift_waiters.Goals as goal

pub returns : goal.returns
returns c = ap (λ l. l ++ drop c.args.n c.args.waiters.now) c.shift.ensures ∙ shift_front c.args.n c.args.waiters.now c.requires.0
