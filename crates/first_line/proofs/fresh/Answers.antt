use Rattle.std.proofs.Common.{ap, ◌∙◌}
use Rattle.refinement.proofs.Formed.{over_blank, fresh_parts}
use Rattle.first_line.proofs.fresh.Goals as goal

pub returns : goal.returns
returns c = ap over_blank c.fresh_head.ensures ∙ fresh_parts c.args.o
