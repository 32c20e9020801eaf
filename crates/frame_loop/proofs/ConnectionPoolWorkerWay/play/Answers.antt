use Rattle.slots.specs.View.{pool_in}
use Rattle.frame_loop.specs.Formed.{kept_formed}
use Rattle.frame_loop.proofs.ConnectionPoolWorkerWay.play.Goals as goal

pub returns-clause-formed : goal.returns-clause-formed
returns-clause-formed c = kept_formed (pool_in c.args.self.now) (pool_in c.call.new.worker) _ _ _ _ c.call.ensures c.requires
