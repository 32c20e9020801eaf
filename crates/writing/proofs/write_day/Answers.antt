use Rattle.std.proofs.Common.{arith, length-take, length-drop, rules}
use Rattle.std.specs.Prelude.{length}
use Rattle.writing.specs.Laws.{count_whole, part_malformed, day_short, day_malformed, day_any_malformed, day_laid}
use Rattle.writing.proofs.write_day.Goals as goal

pub returns-then-out-frames_count : goal.returns-then-out-frames_count
returns-then-out-frames_count c =
    day_short c.args.o c.args.frames.now c.args.out.now c.frames_count.result c.frames_count.ensures (omega (arith, c.if-out-frames_count.true))

pub returns-then-frames-ne0 : goal.returns-then-frames-ne0
returns-then-frames-ne0 c =
    day_malformed c.args.o c.args.frames.now c.args.out.now c.frames_count.result c.frames_count.ensures c.if-out-frames_count.false
    (part_malformed c.args.frames.now c.if-frames-ne0.true)

pub returns-then-any_malformed : goal.returns-then-any_malformed
returns-then-any_malformed c =
    day_any_malformed c.args.o c.args.frames.now c.args.out.now c.frames_count.result c.frames_count.ensures c.if-out-frames_count.false c.if-frames-ne0.false
    c.any_malformed.result c.any_malformed.ensures c.if-any_malformed.true

pub print_pieces-requires : goal.print_pieces-requires
print_pieces-requires c =
    (search rules, simp (length-take, length-drop) (omega (arith, c.frames_count.ensures, count_whole (length c.args.frames.now) c.if-frames-ne0.false, c.if-out-frames_count.false)))

pub overflow_mul-result : goal.overflow_mul-result
overflow_mul-result c =
    omega (arith, c.frames_count.ensures, count_whole (length c.args.frames.now) c.if-frames-ne0.false, c.if-out-frames_count.false)

pub returns : goal.returns
returns c =
    day_laid c.args.o c.args.frames.now c.args.out.now c.frames_count.result c.frames_count.ensures c.if-out-frames_count.false c.if-frames-ne0.false
    c.any_malformed.result c.options_bytes-b.result c.print_line.new.o c.print_pieces.new.o
    c.any_malformed.ensures c.if-any_malformed.false (λ i. (c.shared_slice_known-1.given i).fits)
    c.options_bytes-b.ensures c.print_line.ensures c.print_pieces.ensures
