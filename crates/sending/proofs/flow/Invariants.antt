use Rattle.std.proofs.Common.{length, ◌-◌, ◌≡◌}
use Rattle.sending.specs.Flow.{Going}
use Rattle.sending.proofs.flow.Given as goal

abbrev pub invariant-loop-read : goal.invariant-loop-read
invariant-loop-read g l =
    (length l.buf ≡ 65536) × (length l.out ≡ 65536) × Going g.T.Taker.ready g.T.Taker.took l.initial.taker l.taker l.read l.sent

abbrev pub decreases-loop-read : goal.decreases-loop-read
decreases-loop-read g l = 18446744073709551615 - l.read
