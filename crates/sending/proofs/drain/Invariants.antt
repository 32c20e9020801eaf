use Rattle.std.proofs.Common.{length, take, ◌-◌, ◌≤◌}
use Rattle.sending.specs.Flow.{Drains}
use Rattle.sending.proofs.drain.Given as goal

abbrev pub invariant-loop-at : goal.invariant-loop-at
invariant-loop-at g l =
    (l.at ≤ length l.text) × (g.T.Taker.room ≤ length l.out)
    × Drains g.T.Taker.ready g.T.Taker.took l.initial.taker l.initial.sent (take l.at l.text) l.taker l.sent

abbrev pub decreases-loop-at : goal.decreases-loop-at
decreases-loop-at g l = length l.text - l.at
