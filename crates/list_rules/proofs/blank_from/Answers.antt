use Rattle.list_rules.proofs.Laws.{blank_start, blank_item, blank_end}
use Rattle.list_rules.proofs.blank_from.Goals as goal

pub loop-x-init : goal.loop-x-init
loop-x-init g c = blank_start (λ x. g.T.PartialEq.eq x c.args.blank) c.args.n c.args.cells.now c.args.blank c.min-from.result c.min-from.ensures

pub loop-x-preserved : goal.loop-x-preserved
loop-x-preserved g c =
    rw c.eq-ok.ensures (blank_item (λ x. g.T.PartialEq.eq x c.args.blank) c.args.n c.args.cells.now c.args.blank c.min-from.result c.min-from.ensures
    c.loop-x.x-index c.loop-x.ok c.loop-x.invariant c.x-item.result c.loop-x-test.true c.x-item.is)

pub returns : goal.returns
returns g c =
    blank_end (λ x. g.T.PartialEq.eq x c.args.blank) c.args.n c.args.cells.now c.args.blank c.min-from.result c.min-from.ensures
    c.loop-x.x-index c.loop-x.ok c.loop-x.invariant c.loop-x-test.false c.loop-x.auto.x-index-end
