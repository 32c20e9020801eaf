use Rattle.std.proofs.Common.{arith, rules}
use Rattle.checkout.specs.Serving.{service_shut, service_none, serve_checks, served}
use Rattle.checkout.proofs.service.Goals as goal

pub returns-then-not-can_service_connection_request : goal.returns-then-not-can_service_connection_request
returns-then-not-can_service_connection_request c = service_shut c.args.worker.now c.can_service_connection_request.ensures c.if-not-can_service_connection_request.true

pub returns-then-worker-eq0 : goal.returns-then-worker-eq0
returns-then-worker-eq0 c = service_none c.args.worker.now c.can_service_connection_request.ensures c.if-not-can_service_connection_request.false c.if-worker-eq0.true

pub check_out-requires : goal.check_out-requires
check_out-requires c =
    serve_checks c.args.worker.now c.can_service_connection_request.ensures c.if-not-can_service_connection_request.false c.if-worker-eq0.false _ c.dequeue-waiter.ensures.queue c.args.records.now c.requires

pub returns : goal.returns
returns c =
    served c.args.worker.now c.can_service_connection_request.ensures c.if-not-can_service_connection_request.false c.if-worker-eq0.false c.dequeue-waiter.new.worker c.dequeue-waiter.ensures.queue c.dequeue-waiter.ensures.waiter c.check_out.ensures
