use Rattle.std.specs.Prelude.{refl}
use Rattle.std.proofs.Common.{arith, ap, ◌∙◌}
use Rattle.definition.specs.Steps.{emit, ◌>>◌}
use Rattle.definition.specs.declared.PoolState.TheVariants.{Closed}
use Rattle.definition.specs.declared.Record.TheVariants.{PoolShut}
use Rattle.definition.specs.declared.Reply.TheVariants.{Gone}
use Rattle.slots.specs.DoneLaws.{did_then, did_emit, did_quiet}
use Rattle.slots.specs.Slots.{close_front, tell_all, enter, shut}
use Rattle.slots.specs.View.{SlotPool, pool_in}
use Rattle.refinement.proofs.Needs.{can_prune}
use Rattle.refinement.specs.Sites.{close_front_generation, told_generation}
use Rattle.upkeep.specs.Exits.{tell_asks, last_asks}
use Rattle.upkeep.proofs.shut.Goals as goal

pub close_available-requires : goal.close_available-requires
close_available-requires c =
    let st = c.requires.0.stands in
    (can_prune st, (omega (arith, st.table.fits), omega (arith, st.table.fits)))

pub tell_all-requires : goal.tell_all-requires
tell_all-requires c =
    let r = c.requires in
    let z = tell_asks r.0.stands r.2 r.1 c.close_available.ensures in
    (z.0, (omega (arith, z), omega (arith, z)))

pub emit-requires : goal.emit-requires
emit-requires c =
    let r = c.requires in
    (last_asks r.0.stands r.2 r.1 c.close_available.ensures Gone c.tell_all.ensures).0

pub returns : goal.returns
unfolding shut enter
returns c =
    let p = pool_in c.args.worker.now in
    let q = pool_in c.close_available.new.worker in
    let r = pool_in c.tell_all.new.worker in
    let stop = enter Closed p.generation in
    let same = ap (λ (x : SlotPool). x.generation) c.tell_all.ensures.done.pool ∙ told_generation Gone q ∙ ap (λ (x : SlotPool). x.generation) c.close_available.ensures.done.pool ∙ close_front_generation p.availables p in
    did_then (close_front p.availables) (tell_all Gone >> emit PoolShut >> stop) p c.close_available.ensures
    (did_then (tell_all Gone) (emit PoolShut >> stop) q c.tell_all.ensures
    (did_then (emit PoolShut) stop r (did_emit c.tell_all.new.worker c.emit.ensures) (did_quiet _ refl (rw same))))
