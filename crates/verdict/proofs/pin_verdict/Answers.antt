use Rattle.std.proofs.Common.{arith}
use Rattle.slots.specs.View.{pool_in}
use Rattle.verdict.specs.Exits.{pin_right, pin_again, pin_other}
use Rattle.verdict.proofs.pin_verdict.Goals as goal

pub returns-in-2 : goal.returns-in-2
returns-in-2 c = pin_right (pool_in c.args.worker.now) c.args.id c.look-f.ensures c.in-2.is

pub returns-in-3 : goal.returns-in-3
returns-in-3 c = pin_again (pool_in c.args.worker.now) c.args.id c.look-f.ensures (omega arith) (omega arith)

pub returns-in_default : goal.returns-in_default
returns-in_default c = pin_other (pool_in c.args.worker.now) c.args.id c.look-f.ensures (λ a b. omega (arith, a, b))

pub returns-in_default-2 : goal.returns-in_default-2
returns-in_default-2 c = pin_other (pool_in c.args.worker.now) c.args.id c.look-f.ensures (λ a b. omega (arith, a, b))
