use Rattle.std.proofs.Common.{subst}
use Rattle.slots.specs.View.{pool_in}
use Rattle.first_line.specs.declared.Phase.{Phase}
use Rattle.first_line.specs.Code.{play_in, Able}
use Rattle.lines.specs.Exits.{line_first, line_going_lem, line_spent, line_ended_lem}
use Rattle.lines.proofs.take_line.Goals as goal

pub take_frame-requires : goal.take_frame-requires
take_frame-requires c = (c.if-r.true, subst (λ (g : Phase). Able g (pool_in c.args.r.now.worker)) c.in-Going.is c.requires.0, c.requires.1)

pub returns-in-First : goal.returns-in-First
returns-in-First c = line_first (play_in c.args.r.now) c.args.out.now c.args.line.now c.take_first.new.out (play_in c.take_first.new.r) c.take_first.result c.in-First.is c.take_first.ensures

pub returns-then-r : goal.returns-then-r
returns-then-r c = line_going_lem (play_in c.args.r.now) c.args.out.now c.args.line.now c.take_frame.new.out (play_in c.take_frame.new.r) c.take_frame.result c.in-Going.is c.if-r.true c.take_frame.ensures

pub returns-else-r : goal.returns-else-r
returns-else-r c = line_spent (play_in c.args.r.now) c.args.out.now c.args.line.now c.in-Going.is c.if-r.false c.requires.0

pub returns-in-Ended : goal.returns-in-Ended
returns-in-Ended c = line_ended_lem (play_in c.args.r.now) c.args.out.now c.args.line.now c.in-Ended.is c.requires.0
