use Rattle.first_line.specs.Code.{play_in}
use Rattle.lines.specs.OnSlots.{on_slots}
use Rattle.pieces.specs.Feed.{finish}
use Rattle.session.specs.Exits.{finishes}
use Rattle.session.proofs.finish.Goals as goal

pub returns : goal.returns
returns c =
    let s = c.args.session in
    finishes (finish on_slots (play_in s.replayer) s.held) c.args.out.now c.finish-written.new.out (play_in c.finish-written.new.session.replayer)
    c.finish-written.result c.finish-written.ensures.lined
