use Rattle.std.proofs.Common.{rules}
use Rattle.slot_rules.specs.Tests.{slot_fits_at, slots_fit}
use Rattle.slot_rules.proofs.slots_fit.Goals as goal

pub returns : goal.returns
unfolding slots_fit
returns c = let w = c.args.worker.now in c.every.ensures (slot_fits_at w.ids w.generations w.times w.states) (λ i b h p. search rules)
