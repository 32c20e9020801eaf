use Rattle.draft.specs.Laws.{line_ends}
use Rattle.draft.proofs.end_line.Goals as goal

pub returns : goal.returns
returns c =
    line_ends c.args.d c.end-ended.result c.begin.result c.says.result c.hear-heard.result c.lay-written.result c.args.read c.next_line.result c.args.out.now c.lay-written.new.out
    c.end-ended.ensures c.says.ensures c.hear-heard.ensures c.lay-written.ensures c.begin.ensures c.next_line.ensures
