use Rattle.draft.specs.Laws.{end_left, end_small, finished}
use Rattle.draft.proofs.finish.Goals as goal

pub slice_bounds-lay_first-count : goal.slice_bounds-lay_first-count
slice_bounds-lay_first-count c =
    (end_left c.args.d c.args.out.now c.end_line-s.result c.end_line-s.new.out c.end_line-s.ensures c.requires).0

pub lay_first-m-requires : goal.lay_first-m-requires
lay_first-m-requires c =
    (end_left c.args.d c.args.out.now c.end_line-s.result c.end_line-s.new.out c.end_line-s.ensures c.requires).1

pub returns : goal.returns
returns c =
    finished c.args.d c.args.out.now c.end_line-s.result c.end_line-s.new.out c.lay_first-m.new.out c.lay_first-m.result c.end_line-s.ensures c.lay_first-m.ensures

pub overflow_add-result : goal.overflow_add-result
overflow_add-result c =
    record { fits = end_small c.args.d c.args.out.now c.end_line-s.result _ c.end_line-s.result.draft.heading _ _ c.lay_first-m.result c.end_line-s.ensures c.lay_first-m.ensures }
