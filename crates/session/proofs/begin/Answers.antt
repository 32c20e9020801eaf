use Rattle.session.specs.Exits.{begins}
use Rattle.session.proofs.begin.Goals as goal

pub returns : goal.returns
returns c = begins c.args.budget _ c.new.ensures c.new-2.ensures
