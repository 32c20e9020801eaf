use Rattle.std.proofs.Common.{arith}
use Rattle.slots.specs.DoneLaws.{did_then}
use Rattle.slots.specs.Slots.{maintenance, remove_perished, ensure_min_connections}
use Rattle.refinement.proofs.Needs.{can_prune}
use Rattle.upkeep.specs.Exits.{fill_asks}
use Rattle.upkeep.proofs.perform_maintenance.Goals as goal

pub remove_perished_connections-requires : goal.remove_perished_connections-requires
remove_perished_connections-requires c =
    let st = c.requires.0.stands in
    (can_prune st, (omega (arith, st.table.fits), omega (arith, st.table.fits)))

pub ensure_min_connections-requires : goal.ensure_min_connections-requires
ensure_min_connections-requires c =
    let r = c.requires in
    fill_asks r.0.stands r.3 r.2 r.1 c.remove_perished_connections.ensures

pub returns : goal.returns
unfolding maintenance
returns c = did_then remove_perished ensure_min_connections _ c.remove_perished_connections.ensures c.ensure_min_connections.ensures
