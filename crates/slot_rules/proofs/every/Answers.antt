use Rattle.std.specs.Prelude.{◌≡◌, refl}
use Rattle.std.proofs.Common.{ap, ◌∙◌, arith}
use Rattle.definition.specs.Pool.{slot_count}
use Rattle.slot_rules.specs.Tests.{every}
use Rattle.slot_rules.proofs.Laws.{every_none, every_more}
use Rattle.slot_rules.proofs.every.Goals as goal

pub loop-i-init : goal.loop-i-init
loop-i-init g c = λ t h. every_none t

pub loop-i-preserved : goal.loop-i-preserved
loop-i-preserved g c = λ t h.
    every_more c.loop-i.i t c.loop-i.ok c.test-ok.result _ (c.loop-i.invariant t h) (h c.loop-i.i c.test-ok.result c.loop-i-test.true c.test-ok.ensures) refl

pub returns : goal.returns
returns g c = λ t h. let e : c.loop-i.i ≡ slot_count = omega arith in c.loop-i.invariant t h ∙ ap (λ i. every i t) e
