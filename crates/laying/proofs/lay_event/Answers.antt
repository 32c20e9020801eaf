use Rattle.laying.specs.Laws.{event_laid}
use Rattle.laying.proofs.lay_event.Goals as goal

pub returns : goal.returns
returns c =
    event_laid c.args.e c.args.time c.frame_bytes-frame.result c.args.out.now c.write_event.result c.write_event.new.out c.count.result
    c.frame_bytes-frame.ensures c.requires c.write_event.ensures c.count.ensures
