use Rattle.std.specs.Prelude.{refl}
use Rattle.slots.specs.View.{pool_in}
use Rattle.requests.specs.Exits.{asked_new, asked_paused, asked_ready, asked_closed}
use Rattle.requests.proofs.request.Goals as goal

pub returns-in-New : goal.returns-in-New
returns-in-New c = asked_new (pool_in c.args.worker.now) c.args.id c.args.warm _ c.in-New.is refl c.emit.ensures

pub returns-in-Paused : goal.returns-in-Paused
returns-in-Paused c = asked_paused (pool_in c.args.worker.now) c.args.id c.args.warm _ _ c.in-Paused.is refl c.emit-in-Paused.ensures

pub returns-in-Ready : goal.returns-in-Ready
returns-in-Ready c = asked_ready (pool_in c.args.worker.now) c.args.id c.args.warm _ c.in-Ready.is refl

pub returns-in-Closed : goal.returns-in-Closed
returns-in-Closed c = asked_closed (pool_in c.args.worker.now) c.args.id c.args.warm _ c.in-Closed.is refl
