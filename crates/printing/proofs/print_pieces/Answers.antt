use Prim.Native.Nat.{◌+◌, ◌-◌, ◌*◌}
use Rattle.std.proofs.Common.{arith}
use Rattle.printing.proofs.Turns.{printing_start, printing_more, one_more}
use Rattle.printing.proofs.print_pieces.Goals as goal

pub loop-i-init : goal.loop-i-init
loop-i-init g c = printing_start g.row.W c.args.s.now c.args.o.now

pub loop-i-preserved : goal.loop-i-preserved
loop-i-preserved g c =
    let w = g.row.W in
    let i = c.loop-i.i in
    printing_more w c.args.n c.args.s.now c.args.o.now c.loop-i.o c.print_line.new.o i ((i + 1) * w - i * w) _
    c.loop-i-test.true c.requires.0 (omega (arith, one_more w i, one_more w i)) (omega arith) c.loop-i.invariant c.print_line.ensures
