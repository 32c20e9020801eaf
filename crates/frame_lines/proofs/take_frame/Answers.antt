use Rattle.std.proofs.Common.{arith, rules}
use Rattle.definition.specs.Bytes.{frame_of_line}
use Rattle.slots.specs.View.{pool_in}
use Rattle.first_line.specs.Code.{play_in}
use Rattle.frame_lines.proofs.Exits.{call_fits, frame_said}
use Rattle.frame_lines.proofs.take_frame.Goals as goal

pub say-n-requires : goal.say-n-requires
say-n-requires c =
    let k = c.call-answer in
    (call_fits (play_in c.args.r.now) (pool_in k.new.worker) k.new.out c.line_frame-frame.result k.result k.ensures c.requires.1, search rules, c.requires.2)

pub returns : goal.returns
returns c =
    let k = c.call-answer in
    frame_said (play_in c.args.r.now) (pool_in k.new.worker) k.new.out c.line_frame-frame.result k.result k.ensures c.requires.1
    (frame_of_line c.args.line.now) c.args.out.now c.say-n.new.out c.say-n.result c.line_frame-frame.ensures c.say-n.ensures
