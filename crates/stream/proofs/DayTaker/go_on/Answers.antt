use Rattle.std.specs.Prelude.{[]}
use Rattle.std.proofs.Common.{arith}
use Rattle.lines.specs.OnSlots.{on_slots}
use Rattle.replay.specs.Calls.{feed_nil}
use Rattle.replay.specs.Sessions.{fed_more}
use Rattle.runs.specs.Code.{view_in}
use Rattle.stream.proofs.DayTaker.go_on.Goals as goal

pub returns : goal.returns
returns c =
    let s = c.args.self.now.session in
    let k = c.go_on-part in
    let e = k.ensures in
    record {
      within = e.within;
      moves = e.moves c.requires.room;
      fits = omega (arith, e.fits, k.auto.out);
      ready = e.ready;
      took =
          fed_more (view_in s) [] [] s c.args.text.now c.args.out.now k.new.out k.new.session k.result.read k.result.written (feed_nil on_slots (view_in s)) e;
    }
