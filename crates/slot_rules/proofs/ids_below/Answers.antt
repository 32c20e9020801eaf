use Rattle.std.specs.Prelude.{get_or}
use Rattle.std.proofs.Common.{rules}
use Rattle.definition.specs.Words.{◌<?◌}
use Rattle.slot_rules.specs.Tests.{ids_below}
use Rattle.slot_rules.proofs.ids_below.Goals as goal

pub returns : goal.returns
unfolding ids_below
returns c = c.every.ensures (λ i. get_or c.args.ids.now i 0 <? c.args.next) (λ i b h p. search rules)
