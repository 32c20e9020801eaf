use Rattle.std.proofs.Common.{arith}
use Rattle.list_rules.proofs.Laws.{ordering_start, order_long, order_high, order_unshelved, order_met, ordering_more, ordering_end}
use Rattle.list_rules.proofs.order_right.Goals as goal
use Rattle.list_rules.proofs.order_right.Goals.{then-e-ge-SLOTS-via-then-e-ge-SLOTS, then-e-ge-SLOTS-via-else-e-ge-SLOTS+then-states-e-ne1, then-e-ge-SLOTS-via-else-e-ge-SLOTS+else-states-e-ne1+then-met-e}

pub returns-then-n-gt-SLOTS : goal.returns-then-n-gt-SLOTS
returns-then-n-gt-SLOTS c = order_long c.args.available.now c.args.states.now c.args.n c.if-n-gt-SLOTS.true

pub loop-seat-init : goal.loop-seat-init
loop-seat-init c = ordering_start c.args.available.now c.args.states.now

pub returns-then-e-ge-SLOTS : goal.returns-then-e-ge-SLOTS
returns-then-e-ge-SLOTS c =
    let a = c.args.available.now in
    let s = c.args.states.now in
    let n = c.args.n in
    let t = c.loop-seat in
    elim c.then-e-ge-SLOTS.branch [
      | then-e-ge-SLOTS-via-then-e-ge-SLOTS w ↦
          order_high a s n t.seat-index t.met t.invariant c.if-n-gt-SLOTS.false c.loop-seat-test.true c.from-e.result c.from-e.ensures
          w.if-e-ge-SLOTS.true
      | then-e-ge-SLOTS-via-else-e-ge-SLOTS+then-states-e-ne1 w ↦
          order_unshelved a s n t.seat-index t.met t.invariant c.if-n-gt-SLOTS.false c.loop-seat-test.true c.from-e.result c.from-e.ensures
          w.if-e-ge-SLOTS.false w.if-states-e-ne1.true
      | then-e-ge-SLOTS-via-else-e-ge-SLOTS+else-states-e-ne1+then-met-e w ↦
          order_met a s n t.seat-index t.met t.invariant c.if-n-gt-SLOTS.false c.loop-seat-test.true c.from-e.result c.from-e.ensures
          w.if-e-ge-SLOTS.false w.if-states-e-ne1.false w.if-met-e.true
    ]

pub loop-seat-preserved : goal.loop-seat-preserved
loop-seat-preserved c =
    ordering_more c.args.available.now c.args.states.now c.args.n c.loop-seat.seat-index c.loop-seat.met c.loop-seat.invariant c.if-n-gt-SLOTS.false
    c.loop-seat-test.true c.from-e.result c.from-e.ensures c.if-e-ge-SLOTS.false c.if-states-e-ne1.false c.if-met-e.false

pub returns : goal.returns
returns c =
    ordering_end c.args.available.now c.args.states.now c.args.n c.loop-seat.seat-index c.loop-seat.met c.loop-seat.invariant c.if-n-gt-SLOTS.false
    (omega arith) c.loop-seat-test.false c.loop-seat.auto.seat-index-end
