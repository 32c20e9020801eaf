use Prim.Native.Nat.{◌-◌}
use Rattle.std.specs.Prelude.{length}
use Rattle.draft.specs.Laws.{Going}
use Rattle.draft.proofs.go_on.Given as goal

abbrev pub invariant-loop-at : goal.invariant-loop-at
invariant-loop-at l = Going l.initial.draft l.text l.initial.out l.out l.draft l.at l.w

abbrev pub decreases-loop-at : goal.decreases-loop-at
decreases-loop-at l = length l.text - l.at
