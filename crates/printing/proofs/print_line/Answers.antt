use Rattle.printing.proofs.Laws.{line_end}
use Rattle.printing.proofs.print_line.Goals as goal

pub returns : goal.returns
returns c =
    line_end c.args.s.now c.args.o.now c.encode.new.o c.requires c.encode.ensures
