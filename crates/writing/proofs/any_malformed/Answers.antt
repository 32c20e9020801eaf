use Prim.Native.Nat.{◌+◌, ◌-◌, ◌*◌}
use Rattle.std.proofs.Common.{arith}
use Rattle.writing.specs.Laws.{looking_start, looking_found, looking_more, looking_end}
use Rattle.writing.proofs.any_malformed.Goals as goal

pub loop-i-init : goal.loop-i-init
loop-i-init c = looking_start c.args.frames.now c.args.n

pub returns-then-malformed : goal.returns-then-malformed
returns-then-malformed c =
    looking_found c.args.frames.now c.args.n c.loop-i.i c.loop-i.invariant c.malformed.result ((c.loop-i.i + 1) * 24 - c.loop-i.i * 24) c.frame_of.result
    (omega arith) (omega arith) c.frame_of.ensures c.malformed.ensures c.if-malformed.true

pub loop-i-preserved : goal.loop-i-preserved
loop-i-preserved c =
    looking_more c.args.frames.now c.args.n c.loop-i.i c.loop-i.invariant c.malformed.result ((c.loop-i.i + 1) * 24 - c.loop-i.i * 24) c.frame_of.result
    (omega arith) (omega arith) c.frame_of.ensures c.malformed.ensures c.if-malformed.false

pub returns : goal.returns
returns c =
    looking_end c.args.frames.now c.args.n c.loop-i.i c.loop-i.invariant (omega arith)
