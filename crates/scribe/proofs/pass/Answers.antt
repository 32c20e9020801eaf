use Rattle.scribe.specs.Passing.{passes}
use Rattle.scribe.proofs.pass.Goals as goal

pub returns : goal.returns
returns g c =
    let f = c.in_ok-whole.ensures in
    passes c.begin.result f.text f.log f.last.draft f.last.mistakes f.ends.rest _ _ _ c.begin.ensures f.took f.ends.ended f.ends.read f.ends.sent
