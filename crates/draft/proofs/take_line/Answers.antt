use Rattle.std.proofs.Common.{arith, length-take}
use Rattle.draft.specs.Laws.{line_some, line_taken, part_taken}
use Rattle.draft.proofs.take_line.Goals as goal

pub overflow_sub-e : goal.overflow_sub-e
overflow_sub-e c = (line_some c.args.text.now c.line_end-e.result c.line_end-e.ensures.0 c.requires.0).1

pub slice_bounds-read_bytes-count : goal.slice_bounds-read_bytes-count
slice_bounds-read_bytes-count c =
    (line_some c.args.text.now c.line_end-e.result c.line_end-e.ensures.0 c.requires.0).1

pub slice_bounds-read_bytes-length : goal.slice_bounds-read_bytes-length
slice_bounds-read_bytes-length c =
    simp length-take (omega (arith, c.line_end-e.ensures.1))

pub returns-then-text-e-eq10 : goal.returns-then-text-e-eq10
returns-then-text-e-eq10 c =
    let n = line_some c.args.text.now c.line_end-e.result c.line_end-e.ensures.0 c.requires.0 in
    line_taken c.args.d c.args.text.now c.args.out.now c.end_line.new.out c.line_end-e.result n.0 c.read_bytes-line.result c.end_line.result n.1 c.if-text-e-eq10.true
    c.read_bytes-line.ensures c.end_line.ensures

pub slice_bounds-read_bytes-end : goal.slice_bounds-read_bytes-end
slice_bounds-read_bytes-end c =
    simp length-take (omega (arith, c.line_end-e.ensures.1))

pub returns : goal.returns
returns c =
    let n = line_some c.args.text.now c.line_end-e.result c.line_end-e.ensures.0 c.requires.0 in
    part_taken c.args.d c.args.text.now c.args.out.now c.args.out.now c.line_end-e.result n.0 c.read_bytes-line-2.result c.if-text-e-eq10.false c.read_bytes-line-2.ensures c.paused.result
    c.paused.ensures
