use Rattle.std.specs.Prelude.{◌-◌, length}
use Rattle.std.proofs.Common.{arith, le-leb, length-take, length-drop}
use Rattle.std.proofs.lemmas.Bool.{lt-leb}
use Rattle.first_line.specs.Took.{line_room}
use Rattle.pieces.specs.Code.{view_of}
use Rattle.runs.specs.Code.{view_in}
use Rattle.runs.specs.Reading.{next, doing_step, doing_short, doing_all}
use Rattle.runs.proofs.replay_some.Goals as goal

pub take_piece-n-requires : goal.take_piece-n-requires
take_piece-n-requires c =
    let a = c.loop-at in
    let x =
    next c.args.text.now a.out a.at a.w c.line_end-e.result c.loop-at-test.true (le-leb line_room (length a.out - a.w) c.if-out-w-ge-ROOM_LINES.true) c.line_end-e.ensures.0 c.line_end-e.ensures.1 in (
      a.invariant.able,
      simp (length-take, length-drop) (omega (arith, x.further, x.within)),
      simp (length-take, length-drop) (omega (arith, x.room)),
    )

pub loop-at-smaller : goal.loop-at-smaller
loop-at-smaller c =
    let a = c.loop-at in
    let x =
    next c.args.text.now a.out a.at a.w c.line_end-e.result c.loop-at-test.true (le-leb line_room (length a.out - a.w) c.if-out-w-ge-ROOM_LINES.true) c.line_end-e.ensures.0 c.line_end-e.ensures.1 in
    omega (arith, x.further, x.within)

pub loop-at-preserved : goal.loop-at-preserved
loop-at-preserved c =
    let g = c.args in
    let a = c.loop-at in
    let k = c.take_piece-n in
    let x =
    next g.text.now a.out a.at a.w c.line_end-e.result c.loop-at-test.true (le-leb line_room (length a.out - a.w) c.if-out-w-ge-ROOM_LINES.true) c.line_end-e.ensures.0 c.line_end-e.ensures.1 in
    doing_step g.text.now g.out.now (view_in g.session.now) (view_in a.session) a.at a.w a.out a.invariant c.line_end-e.result x k.new.out
    (view_of k.new.r k.new.held) k.result k.ensures

pub returns-else-out-w-ge-ROOM_LINES : goal.returns-else-out-w-ge-ROOM_LINES
returns-else-out-w-ge-ROOM_LINES c =
    let g = c.args in
    let a = c.loop-at in
    doing_short g.text.now g.out.now (view_in g.session.now) a.session a.at a.w a.out a.invariant (lt-leb line_room (length a.out - a.w) c.if-out-w-ge-ROOM_LINES.false)

pub returns-after-loop-at : goal.returns-after-loop-at
returns-after-loop-at c =
    let g = c.args in
    let a = c.loop-at in
    doing_all g.text.now g.out.now (view_in g.session.now) a.session a.at a.w a.out a.invariant c.loop-at-test.false
