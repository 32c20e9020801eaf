use Rattle.std.specs.Prelude.{refl}
use Rattle.lending.specs.Lending.{lent_gone, lent_heard}
use Rattle.lending.proofs.lend.Goals as goal

pub returns-then-waiter-ge2 : goal.returns-then-waiter-ge2
returns-then-waiter-ge2 c =
    let w = c.args.worker.now in
    lent_gone c.args.waiter c.args.i w refl c.tell.ensures _ c.if-waiter-ge2.true c.shelve.ensures

pub returns-else-waiter-ge2 : goal.returns-else-waiter-ge2
returns-else-waiter-ge2 c =
    let w = c.args.worker.now in
    lent_heard c.args.waiter c.args.i w refl c.tell.ensures _ c.if-waiter-ge2.false c.set_state.ensures
