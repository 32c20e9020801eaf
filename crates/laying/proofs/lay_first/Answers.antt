use Rattle.laying.specs.Laws.{first_none, first_laid}
use Rattle.laying.proofs.lay_first.Goals as goal

pub returns-then-h : goal.returns-then-h
returns-then-h c = first_none c.args.h c.args.out.now c.if-h.true

pub returns : goal.returns
returns c =
    first_laid c.args.h c.args.out.now c.options.result c.write_options.result c.write_options.new.out c.count.result c.if-h.false c.options.ensures c.requires
    c.write_options.ensures c.count.ensures
