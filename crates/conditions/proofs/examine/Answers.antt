use Rattle.std.specs.Prelude.{refl}
use Rattle.std.proofs.Common.{rules}
use Rattle.slots.specs.Parts.{worker_whole}
use Rattle.slots.specs.ActLaws.{examined_stale, examined_current}
use Rattle.conditions.proofs.examine.Goals as goal

pub returns-then-is_stale : goal.returns-then-is_stale
returns-then-is_stale c =
    let w = c.args.worker.now in
    examined_stale w (worker_whole w (search rules)).slots c.args.k _ refl c.requires.1 c.is_stale.ensures c.if-is_stale.true

pub returns : goal.returns
returns c =
    let w = c.args.worker.now in
    examined_current w (worker_whole w (search rules)).slots c.args.k _ refl c.requires.1 c.is_stale.ensures c.if-is_stale.false c.idle_for-age.ensures c.idle_reason.ensures
