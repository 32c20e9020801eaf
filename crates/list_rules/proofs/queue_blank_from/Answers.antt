use Rattle.std.proofs.Common.{◌∙◌, arith}
use Rattle.definition.specs.Pool.{queue_length}
use Rattle.list_rules.proofs.Laws.{blank_column}
use Rattle.list_rules.proofs.queue_blank_from.Goals as goal

pub returns : goal.returns
returns c = c.blank_from.ensures ∙ blank_column queue_length c.args.n c.args.waiters.now (omega arith)
