use Rattle.frame_loop.proofs.all.Given as goal

abbrev pub invariant-loop-frame : goal.invariant-loop-frame
invariant-loop-frame g l = g.W.Way.ready l.way

abbrev pub invariant-loop : goal.invariant-loop
invariant-loop g l = g.W.Way.ready l.way
