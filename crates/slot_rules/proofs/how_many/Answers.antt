use Rattle.std.specs.Prelude.{◌≡◌, get_or}
use Rattle.std.proofs.Common.{ap, ◌∙◌, arith, rules}
use Rattle.definition.specs.Pool.{slot_count}
use Rattle.slot_rules.specs.Tests.{tally}
use Rattle.slot_rules.proofs.Laws.{tally_none, tally_more, byte_small}
use Rattle.slot_rules.proofs.how_many.Goals as goal

pub loop-state-init : goal.loop-state-init
loop-state-init g c = (omega arith, λ t h. tally_none _)

pub overflow_add-n : goal.overflow_add-n
overflow_add-n g c = omega (arith, c.from-n.ensures, byte_small c.test.result)

pub loop-state-preserved : goal.loop-state-preserved
loop-state-preserved g c =
    let ss = c.args.states.now in
    let i = c.loop-state.state-index in (
      omega (arith, c.from-n.ensures, byte_small c.test.result),
      λ t h. rw c.from-n.ensures (tally_more i _ c.loop-state.n c.test.result (c.loop-state.invariant.1 t h) (h (get_or ss i 0) c.test.result c.test.ensures)),
    )

pub returns : goal.returns
returns g c = λ t h.
    let ss = c.args.states.now in
    let e : c.loop-state.state-index ≡ slot_count = omega arith in
    c.loop-state.invariant.1 t h ∙ ap (λ i. tally i (λ j. t (get_or ss j 0))) e
