use Rattle.draft.specs.Laws.{counted}
use Rattle.draft.proofs.next_line.Goals as goal

pub returns : goal.returns
returns c = counted c.args.n c.saturating_add.result c.ranges.n.fits c.saturating_add.ensures
