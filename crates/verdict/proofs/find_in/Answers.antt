use Rattle.std.proofs.Common.{arith}
use Rattle.std.proofs.lemmas.Bool.Decides.{nat_tests}
use Rattle.slots.specs.View.{pool_in}
use Rattle.verdict.specs.Exits.{in_found, in_other}
use Rattle.verdict.proofs.find_in.Goals as goal

pub returns-then-not-contains : goal.returns-then-not-contains
returns-then-not-contains c =
    in_other (pool_in c.args.worker.now) c.args.id c.args.low c.args.high c.look-f.ensures (λ a b. grind (arith, nat_tests, a, b))

pub returns : goal.returns
returns c =
    in_found (pool_in c.args.worker.now) c.args.id c.args.low c.args.high c.look-f.ensures (grind (arith, nat_tests)) (grind (arith, nat_tests))
