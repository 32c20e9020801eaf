use Rattle.first_line.specs.Code.{play_in}
use Rattle.lines.specs.Exits.{end_first, end_after, told_first, told_after}
use Rattle.lines.proofs.take_end.Goals as goal

pub returns-in-First : goal.returns-in-First
returns-in-First c =
    let s = play_in c.args.r.now in
    let b = c.args.out.now in (
      told_first s b c.bad_options.new.out (play_in c.bad_options.new.r) c.bad_options.result c.in-First.is c.bad_options.ensures,
      λ k. end_first s b c.bad_options.new.out (play_in c.bad_options.new.r) c.bad_options.result c.in-First.is c.bad_options.ensures,
    )

pub returns-in-Going : goal.returns-in-Going
returns-in-Going c = (told_after (play_in c.args.r.now) c.args.out.now c.in-Going.is, λ k. end_after (play_in c.args.r.now) c.args.out.now c.in-Going.is k)
