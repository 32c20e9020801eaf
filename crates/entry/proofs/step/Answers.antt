use Rattle.std.proofs.Common.{sym, arith, rules}
use Rattle.rules.specs.Exact.{accepted_formed}
use Rattle.entry.specs.Tested.{Typed, entry_short, step_broken, step_done}
use Rattle.entry.proofs.step.Goals as goal

pub returns-then-out-lt-ROOM : goal.returns-then-out-lt-ROOM
returns-then-out-lt-ROOM c = sym (entry_short c.args.pool c.args.frame.now c.args.out.now (omega arith))

pub returns-then-not-keeps_rules : goal.returns-then-not-keeps_rules
returns-then-not-keeps_rules c =
    let t : Typed c.args.pool = record { slots = search rules; available = search rules; waiters = search rules; serial = omega arith } in
    step_broken c.args.pool t c.worker_of-worker.ensures c.keeps_rules.ensures c.args.frame.now c.args.out.now (omega arith) (search rules)

pub call-outcome-requires : goal.call-outcome-requires
call-outcome-requires c = accepted_formed c.keeps_rules.ensures (search rules)

pub returns : goal.returns
returns c =
    let t : Typed c.args.pool = record { slots = search rules; available = search rules; waiters = search rules; serial = omega arith } in
    step_done c.args.pool t c.worker_of-worker.ensures c.keeps_rules.ensures c.args.frame.now c.args.out.now (omega arith) (search rules)
    c.frame_of.ensures c.call-outcome.ensures c.pool_of.ensures
