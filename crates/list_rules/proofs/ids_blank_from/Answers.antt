use Rattle.std.proofs.Common.{◌∙◌, arith}
use Rattle.definition.specs.Pool.{slot_count}
use Rattle.list_rules.proofs.Laws.{blank_column}
use Rattle.list_rules.proofs.ids_blank_from.Goals as goal

pub returns : goal.returns
returns c = c.blank_from.ensures ∙ blank_column slot_count c.args.n c.args.ids.now (omega arith)
