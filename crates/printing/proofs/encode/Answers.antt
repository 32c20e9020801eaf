use Rattle.std.specs.Prelude.{refl}
use Rattle.definition.specs.Bytes.{hex_of}
use Rattle.printing.proofs.Laws.{encoding_more}
use Rattle.printing.proofs.encode.Goals as goal

pub loop-i-init : goal.loop-i-init
unfolding hex_of
loop-i-init c = refl

pub loop-i-preserved : goal.loop-i-preserved
loop-i-preserved c =
    encoding_more c.args.s.now c.args.o.now c.loop-i.o c.loop-i.i c.digit_of.result c.digit_of-in-loop-i.result c.loop-i-test.true c.requires
    c.digit_of.ensures c.digit_of-in-loop-i.ensures c.loop-i.invariant
