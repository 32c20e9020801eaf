use Rattle.session.specs.Exits.{went}
use Rattle.session.proofs.go_on.Goals as goal

pub returns : goal.returns
returns c = went c.args.session.now c.args.text.now c.args.out.now c.replay_some.new.out c.replay_some.new.session c.replay_some.result.read c.replay_some.result.written c.replay_some.ensures
