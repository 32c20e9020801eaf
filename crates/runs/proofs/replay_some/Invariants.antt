use Rattle.std.specs.Prelude.{◌-◌, length}
use Rattle.runs.specs.Code.{view_in}
use Rattle.runs.specs.Reading.{Doing}
use Rattle.runs.proofs.replay_some.Given as goal

abbrev pub invariant-loop-at : goal.invariant-loop-at
invariant-loop-at l = Doing l.text l.initial.out (view_in l.initial.session) (view_in l.session) l.at l.w l.out

abbrev pub decreases-loop-at : goal.decreases-loop-at
decreases-loop-at l = length l.text - l.at
