use Prim.Native.Nat.{◌≤◌, ◌<◌}
use Rattle.std.proofs.Common.{arith, le-leb}
use Rattle.std.proofs.lemmas.Bool.{lt-leb}
use Rattle.definition.specs.Pool.{queue_length}
use Rattle.definition.specs.Words.{when◌then◌else◌}
use Rattle.definition.specs.Refusals.{first}
use Rattle.verdict.proofs.request_verdict.Goals as goal

pub returns-then-id-last_request : goal.returns-then-id-last_request
unfolding first when◌then◌else◌
returns-then-id-last_request c = rw (le-leb c.args.id c.args.last_request c.if-id-last_request.true)

pub returns-then-waiting-ge-QUEUE : goal.returns-then-waiting-ge-QUEUE
unfolding first when◌then◌else◌
returns-then-waiting-ge-QUEUE c =
    let full : queue_length ≤ c.args.waiting = omega (arith, c.if-waiting-ge-QUEUE.true) in
    rw (lt-leb c.args.id c.args.last_request c.if-id-last_request.false, le-leb queue_length c.args.waiting full)

pub returns : goal.returns
unfolding first when◌then◌else◌
returns c =
    let room : c.args.waiting < queue_length = omega (arith, c.if-waiting-ge-QUEUE.false) in
    rw (lt-leb c.args.id c.args.last_request c.if-id-last_request.false, lt-leb queue_length c.args.waiting room)
