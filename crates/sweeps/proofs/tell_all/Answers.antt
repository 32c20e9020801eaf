use Rattle.std.specs.Prelude.{refl}
use Rattle.std.proofs.Common.{arith, rules}
use Rattle.slots.specs.Parts.{worker_whole}
use Rattle.sweeps.specs.Telling.{tell_start, tell_turns, told_all}
use Rattle.sweeps.proofs.tell_all.Goals as goal

pub loop-k-init : goal.loop-k-init
loop-k-init c = tell_start c.args.reply c.args.worker.now c.requires.1

pub loop-k-preserved : goal.loop-k-preserved
loop-k-preserved c =
    let whole = worker_whole c.args.worker.now (search rules) in
    tell_turns c.args.reply c.loop-k.invariant c.loop-k-test.true (omega (arith, c.requires.0.fits, whole.waiters)) c.tell.ensures

pub returns : goal.returns
returns c = told_all c.args.reply c.loop-k.invariant c.loop-k-test.false _ refl
