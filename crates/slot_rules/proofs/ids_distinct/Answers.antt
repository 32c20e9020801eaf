use Rattle.std.specs.Prelude.{◌≡◌, get_or, refl}
use Rattle.std.proofs.Common.{ap, ◌∙◌, arith, rules}
use Rattle.definition.specs.Pool.{slot_count}
use Rattle.slot_rules.specs.Tests.{every, new_id, ids_distinct}
use Rattle.slot_rules.proofs.Laws.{marking_start, marking_clash, marking_more}
use Rattle.slot_rules.proofs.ids_distinct.Goals as goal

pub loop-i-init : goal.loop-i-init
loop-i-init c = marking_start c.args.ids.now _ refl

pub returns-then-clashes : goal.returns-then-clashes
returns-then-clashes c =
    let ids = c.args.ids.now in
    let i = c.loop-i.i in
    marking_clash ids i c.loop-i.marks c.loop-i.invariant (omega arith) c.clashes.result c.clashes.ensures c.if-clashes.true

pub loop-i-preserved : goal.loop-i-preserved
loop-i-preserved c =
    let ids = c.args.ids.now in
    let i = c.loop-i.i in
    marking_more ids i c.loop-i.marks c.loop-i.invariant (omega arith) c.clashes.result c.clashes.ensures (search rules) c.if-clashes.false

pub returns : goal.returns
unfolding ids_distinct
returns c =
    let e : c.loop-i.i ≡ slot_count = omega arith in
    c.loop-i.invariant.so_far ∙ ap (λ i. every i (new_id c.args.ids.now)) e
