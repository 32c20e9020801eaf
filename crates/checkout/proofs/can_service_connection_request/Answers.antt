use Rattle.slots.specs.Slots.{can_service_at}
use Rattle.checkout.proofs.can_service_connection_request.Goals as goal

pub returns : goal.returns
unfolding can_service_at
returns c = rw c.is_ready.ensures
