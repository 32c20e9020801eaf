use Rattle.std.proofs.Common.{sym, ◌∙◌}
use Rattle.definition.specs.Words.{when◌then◌else◌}
use Rattle.definition.specs.declared.Record.TheVariants.{PoolCleared}
use Rattle.definition.specs.declared.Reply.TheVariants.{Cleared}
use Rattle.definition.specs.Steps.{emit}
use Rattle.slots.specs.DoneLaws.{did_then, did_emit, did_nothing}
use Rattle.slots.specs.Slots.{cleared_ready, tell_all}
use Rattle.upkeep.proofs.clear_ready.Goals as goal

pub returns-then-is_ready : goal.returns-then-is_ready
unfolding cleared_ready when◌then◌else◌
returns-then-is_ready c =
    let a = c.args in
    rw (sym c.is_ready.ensures ∙ c.if-is_ready.true)
    (did_then (emit (PoolCleared a.timeout a.cause _)) (tell_all (Cleared a.cause)) _ (did_emit a.worker.now c.emit.ensures) c.tell_all.ensures)

pub returns-else-is_ready : goal.returns-else-is_ready
unfolding cleared_ready when◌then◌else◌
returns-else-is_ready c = rw (sym c.is_ready.ensures ∙ c.if-is_ready.false) (did_nothing c.args.worker.now)
