use Rattle.std.proofs.Common.{sym, ◌∙◌}
use Rattle.definition.specs.Steps.{nothing, serviced}
use Rattle.definition.specs.Words.{when◌then◌else◌}
use Rattle.slots.specs.DoneLaws.{did_then, did_nothing}
use Rattle.slots.specs.Slots.{handle, event, service}
use Rattle.slots.specs.View.{pool_in}
use Rattle.performing.specs.Laws.{asks, serves}
use Rattle.performing.proofs.event.Goals as goal

pub handle-requires : goal.handle-requires
handle-requires c =
    let r = c.requires in
    (asks (pool_in c.args.worker.now) c.args.e c.args.time r.0 r.1 c.args.i r.2, r.3, r.4)

pub service-requires : goal.service-requires
service-requires c =
    let r = c.requires in
    let s = serves (pool_in c.args.worker.now) c.args.e c.args.time r.0 r.1 c.args.i r.2 c.handle.ensures r.4 r.3 in
    (s.1, s.2)

pub returns-then-is_serviced : goal.returns-then-is_serviced
unfolding event when◌then◌else◌
returns-then-is_serviced c =
    let a = c.args in
    did_then (handle a.e a.i) (when serviced a.e then service else nothing) _ c.handle.ensures
    (rw (sym c.is_serviced.ensures ∙ c.if-is_serviced.true) c.service.ensures)

pub returns-else-is_serviced : goal.returns-else-is_serviced
unfolding event when◌then◌else◌
returns-else-is_serviced c =
    let a = c.args in
    did_then (handle a.e a.i) (when serviced a.e then service else nothing) _ c.handle.ensures
    (rw (sym c.is_serviced.ensures ∙ c.if-is_serviced.false) (did_nothing c.handle.new.worker))
