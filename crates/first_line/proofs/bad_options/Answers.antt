use Rattle.definition.specs.Day.{entry_bytes}
use Rattle.first_line.specs.Code.{play_in}
use Rattle.first_line.specs.Exits.{lined_bad}
use Rattle.first_line.proofs.bad_options.Goals as goal

pub returns : goal.returns
unfolding entry_bytes
returns c = lined_bad (play_in c.args.r.now) c.args.out.now c.print_refusal.new.o c.args.refusal c.print_refusal.ensures
