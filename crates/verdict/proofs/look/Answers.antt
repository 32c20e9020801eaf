use Rattle.std.proofs.Common.{rules}
use Rattle.slots.specs.Parts.{worker_whole}
use Rattle.verdict.specs.Exits.{look_found, look_missed}
use Rattle.verdict.proofs.look.Goals as goal

pub returns-then-i-lt-SLOTS : goal.returns-then-i-lt-SLOTS
returns-then-i-lt-SLOTS c =
    let w = c.args.worker.now in
    look_found w.ids w.generations w.times w.states c.args.id (worker_whole w (search rules)).slots c.find-i.ensures c.if-i-lt-SLOTS.true

pub returns : goal.returns
returns c =
    let w = c.args.worker.now in
    look_missed w.ids w.generations w.times w.states c.args.id (worker_whole w (search rules)).slots c.find-i.ensures c.if-i-lt-SLOTS.false
