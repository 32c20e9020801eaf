use Rattle.verdict.proofs.abandon_verdict.Goals.{else-k-waiting-via-then-k-waiting+else-waiters-k-lt2, else-k-waiting-via-else-k-waiting}
use Rattle.verdict.specs.Exits.{still_waits, was_abandoned, never_waits}
use Rattle.verdict.proofs.abandon_verdict.Goals as goal

pub returns-then-waiters-k-lt2 : goal.returns-then-waiters-k-lt2
returns-then-waiters-k-lt2 c = still_waits c.args.waiters.now c.args.waiting c.args.id c.find_waiter-k.ensures c.if-k-waiting.true c.if-waiters-k-lt2.true

pub returns : goal.returns
returns c =
    elim c.else-k-waiting.branch [
      | else-k-waiting-via-then-k-waiting+else-waiters-k-lt2 w ↦ was_abandoned c.args.waiters.now c.args.waiting c.args.id c.find_waiter-k.ensures w.if-k-waiting.true w.if-waiters-k-lt2.false
      | else-k-waiting-via-else-k-waiting w ↦ never_waits c.args.waiters.now c.args.waiting c.args.id c.find_waiter-k.ensures w.if-k-waiting.false
    ]
