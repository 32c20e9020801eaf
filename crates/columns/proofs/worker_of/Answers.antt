use Rattle.std.specs.Prelude.{◌≡◌, length, refl}
use Rattle.std.proofs.Common.{arith, rules}
use Rattle.definition.specs.Pool.{slot_count}
use Rattle.columns.proofs.Loops.{taking_more, taking_end}
use Rattle.columns.proofs.worker_of.Goals as goal

pub loop-i-init : goal.loop-i-init
loop-i-init c = record {
  some = omega arith;
  ids = record { long = refl; front = refl };
  generations = record { long = refl; front = refl };
  times = record { long = refl; front = refl };
  states = record { long = refl; front = refl };
}

pub loop-i-preserved : goal.loop-i-preserved
loop-i-preserved c =
    let ls : length c.args.pool.now.slots ≡ slot_count = search rules in
    taking_more c.args.pool.now.slots c.loop-i.i c.loop-i.ids c.loop-i.generations c.loop-i.times c.loop-i.states ls c.loop-i.invariant _ _ c.from.result
    (omega arith) refl c.from.ensures

pub returns : goal.returns
returns c =
    let ls : length c.args.pool.now.slots ≡ slot_count = search rules in
    taking_end c.args.pool.now.slots c.loop-i.i c.loop-i.ids c.loop-i.generations c.loop-i.times c.loop-i.states ls c.loop-i.invariant (omega arith) _ _ _
