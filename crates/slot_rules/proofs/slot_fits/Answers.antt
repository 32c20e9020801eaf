use Rattle.std.specs.Prelude.{refl}
use Rattle.std.proofs.Math.Bool.{and_assoc}
use borrow.Author.Tests.{eq-eqb, ne_eqb}
use Rattle.definition.specs.Words.{when◌then◌else◌, ◌=?◌}
use Rattle.slot_rules.specs.Tests.{slot_fits}
use Rattle.slot_rules.proofs.slot_fits.Goals as goal

pub returns-then-id-eq0 : goal.returns-then-id-eq0
unfolding slot_fits when◌then◌else◌
returns-then-id-eq0 c = rw (eq-eqb _ _ c.if-id-eq0.true) (and_assoc (c.args.state =? 0) (c.args.generation =? 0) (c.args.time =? 0))

pub returns-else-id-eq0 : goal.returns-else-id-eq0
unfolding slot_fits when◌then◌else◌
returns-else-id-eq0 c = rw (ne_eqb _ _ c.if-id-eq0.false) refl
