use Rattle.std.specs.Prelude.{refl}
use Rattle.std.proofs.Common.{sym, ◌∙◌}
use Rattle.definition.specs.declared.PoolState.TheVariants.{Ready}
use Rattle.definition.specs.declared.Record.TheVariants.{PoolReady}
use Rattle.definition.specs.Steps.{emit}
use Rattle.slots.specs.DoneLaws.{did_then, did_emit, did_quiet, did_nothing, did_as}
use Rattle.slots.specs.Slots.{enter}
use Rattle.slots.specs.StepLaws.{ready_already, ready_now}
use Rattle.upkeep.proofs.mark_as_ready.Goals as goal

pub returns-then-is_ready : goal.returns-then-is_ready
returns-then-is_ready c = did_as (ready_already _ (sym c.is_ready.ensures ∙ c.if-is_ready.true)) (did_nothing c.args.worker.now)

pub returns : goal.returns
unfolding enter
returns c =
    did_as (ready_now _ (sym c.is_ready.ensures ∙ c.if-is_ready.false))
    (did_then (emit PoolReady) (enter Ready _) _ (did_emit c.args.worker.now c.emit.ensures) (did_quiet _ refl refl))
