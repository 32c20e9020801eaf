use Rattle.std.proofs.Common.{rules}
use Rattle.slot_rules.specs.Tests.{dated_at, slots_dated}
use Rattle.slot_rules.proofs.slots_dated.Goals as goal

pub returns : goal.returns
unfolding slots_dated
returns c = c.every.ensures (dated_at c.args.generations.now c.args.times.now c.args.generation c.args.time) (λ i b h p. search rules)
