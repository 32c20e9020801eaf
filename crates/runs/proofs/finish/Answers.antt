use Rattle.std.proofs.Common.{◌∙◌, sym}
use Rattle.first_line.specs.Code.{play_in}
use Rattle.runs.specs.Finish.{end_none, end_line}
use Rattle.runs.proofs.finish.Goals as goal

pub returns-then-is_empty-clause-lined : goal.returns-then-is_empty-clause-lined
returns-then-is_empty-clause-lined c =
    let s = c.args.session.now in
    end_none (play_in s.replayer) s.held c.args.out.now c.take_end.new.out (play_in c.take_end.new.r) c.take_end.result
    (sym c.is_empty.ensures ∙ c.if-is_empty.true) (c.take_end.ensures.1 c.requires.0)

pub returns-clause-lined : goal.returns-clause-lined
returns-clause-lined c =
    let s = c.args.session.now in
    end_line (play_in s.replayer) s.held c.args.out.now c.take_line.new.out (play_in c.take_line.new.r) c.take_line.result c.as_slice.result.now
    (sym c.is_empty.ensures ∙ c.if-is_empty.false) c.as_slice.ensures c.take_line.ensures
