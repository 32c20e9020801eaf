use Rattle.std.proofs.Common.{◌∙◌, arith}
use borrow.Author.Tests.{ne_eqb}
use Rattle.slot_rules.proofs.Laws.{any_among}
use Rattle.slot_rules.proofs.clashes.Goals as goal

pub returns-then-x-ne0 : goal.returns-then-x-ne0
returns-then-x-ne0 c =
    rw (c.if-x-ne0.true.0, ne_eqb _ _ c.if-x-ne0.true.1) (c.contains.ensures.value ∙ any_among c.args.x c.args.n c.args.ids.now (omega arith))
