use Rattle.std.proofs.Common.{sym, ◌∙◌, arith}
use Rattle.draft.specs.Laws.{going_start, going_length, going_mistake, going_again}
use Rattle.draft.proofs.go_on.Goals as goal

pub loop-at-init : goal.loop-at-init
loop-at-init c = going_start c.args.d c.args.text.now c.args.out.now

pub overflow_add-at : goal.overflow_add-at
overflow_add-at c =
    let n =
    going_length c.args.d c.args.text.now c.args.out.now c.loop-at.out c.loop-at.draft c.loop-at.at c.loop-at.w c.loop-at.invariant c.take_line-s.result.read c.take_line-s.ensures.read c.loop-at-test.true in
    record { fits = omega (arith, n.1) }

pub returns-then-is_mistake : goal.returns-then-is_mistake
returns-then-is_mistake c =
    going_mistake c.args.d c.args.text.now c.args.out.now c.loop-at.out c.loop-at.draft c.loop-at.at c.loop-at.w c.loop-at.invariant c.take_line-s.result c.take_line-s.new.out c.loop-at-test.true
    c.if-out-w-lt-LINE_ROOM.false c.take_line-s.ensures

pub loop-at-smaller : goal.loop-at-smaller
loop-at-smaller c =
    let n =
    going_length c.args.d c.args.text.now c.args.out.now c.loop-at.out c.loop-at.draft c.loop-at.at c.loop-at.w c.loop-at.invariant c.take_line-s.result.read c.take_line-s.ensures.read c.loop-at-test.true in
    omega (arith, n.0, n.1)

pub loop-at-preserved : goal.loop-at-preserved
loop-at-preserved c =
    going_again c.args.d c.args.text.now c.args.out.now c.loop-at.out c.loop-at.draft c.loop-at.at c.loop-at.w c.loop-at.invariant c.take_line-s.result c.take_line-s.new.out c.loop-at-test.true
    c.if-out-w-lt-LINE_ROOM.false c.take_line-s.ensures c.take_line-s.auto.out (sym c.if-is_mistake.false ∙ c.is_mistake.ensures)
