use Rattle.definition.specs.Words.{when◌then◌else◌}
use Rattle.slots.specs.DoneLaws.{did_emit, did_nothing}
use Rattle.slots.specs.Slots.{interrupted}
use Rattle.refinement.proofs.Needs.{counts}
use Rattle.upkeep.proofs.interrupt.Goals as goal

pub lent-requires : goal.lent-requires
lent-requires c = (counts c.requires.0.stands).0

pub returns-then-timeout : goal.returns-then-timeout
unfolding interrupted when◌then◌else◌
returns-then-timeout c = rw (c.if-timeout.true, ← c.lent.ensures) (did_emit c.args.worker.now c.emit.ensures)

pub returns-else-timeout : goal.returns-else-timeout
unfolding interrupted when◌then◌else◌
returns-else-timeout c = rw c.if-timeout.false (did_nothing c.args.worker.now)
