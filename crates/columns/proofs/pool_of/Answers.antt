use Rattle.std.specs.Prelude.{refl}
use Rattle.std.proofs.Common.{arith, rules, take-append-drop}
use Rattle.slots.specs.Parts.{worker_whole}
use Rattle.columns.proofs.Loops.{putting_more, putting_end}
use Rattle.columns.proofs.pool_of.Goals as goal

pub loop-i-init : goal.loop-i-init
loop-i-init c = record { long = refl; front = refl }

pub loop-i-preserved : goal.loop-i-preserved
loop-i-preserved c =
    let w = c.args.worker.now in
    putting_more w (worker_whole w (search rules)) c.loop-i.i c.loop-i.slot-items c.loop-i.invariant c.slot_of.result (omega arith) c.slot_of.ensures

-- the available list is the worker's, however the code copies it
pub returns : goal.returns
returns c =
    let w = c.args.worker.now in
    putting_end w (worker_whole w (search rules)) c.loop-i.i c.loop-i.slot-items c.loop-i.invariant (omega arith) (search (rules, take-append-drop))
