use Rattle.verdict.specs.Look.{kind_verdict}
use Rattle.slots.specs.View.{pool_in}
use Rattle.verdict.specs.Exits.{of_request, of_no_target}
use Rattle.verdict.specs.Laws.{one_state}
use Rattle.verdict.proofs.kind_verdict.Goals as goal

pub returns-in-Abandon : goal.returns-in-Abandon
unfolding kind_verdict
returns-in-Abandon c = rw (c.in-Abandon.is) c.abandon_verdict.ensures

pub returns-in-CheckIn : goal.returns-in-CheckIn
unfolding kind_verdict
returns-in-CheckIn c = rw (c.in-CheckIn.is) c.time_verdict.ensures

pub returns-in-Succeeded : goal.returns-in-Succeeded
unfolding kind_verdict
returns-in-Succeeded c = rw (c.in-Succeeded.is, one_state) c.state_verdict.ensures

pub returns-in-SucceededForPool : goal.returns-in-SucceededForPool
unfolding kind_verdict
returns-in-SucceededForPool c = rw (c.in-SucceededForPool.is, one_state) c.time_verdict-in-SucceededForPool.ensures

pub returns-in-Failed : goal.returns-in-Failed
unfolding kind_verdict
returns-in-Failed c = rw (c.in-Failed.is) c.state_verdict-in-Failed.ensures

pub returns-in-Pin : goal.returns-in-Pin
unfolding kind_verdict
returns-in-Pin c = rw (c.in-Pin.is) c.pin_verdict.ensures

pub returns-in-ReturnToPinner : goal.returns-in-ReturnToPinner
unfolding kind_verdict
returns-in-ReturnToPinner c = rw (c.in-ReturnToPinner.is, one_state) c.state_verdict-in-ReturnToPinner.ensures

pub returns-in-TakeFromPinner : goal.returns-in-TakeFromPinner
unfolding kind_verdict
returns-in-TakeFromPinner c = rw (c.in-TakeFromPinner.is) c.state_verdict-in-TakeFromPinner.ensures

pub returns-in-Clear : goal.returns-in-Clear
returns-in-Clear c = of_no_target (pool_in c.args.worker.now) c.args.e c.args.time c.in-Clear.is

pub returns-in-CheckOut : goal.returns-in-CheckOut
returns-in-CheckOut c = of_request (pool_in c.args.worker.now) c.args.e c.args.time c.in-CheckOut.is c.request_verdict.ensures
