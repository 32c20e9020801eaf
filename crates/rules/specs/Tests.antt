-- The structure test, whole: every rule is kept.
use Rattle.std.specs.Prelude.{Bool, ◌&&◌}
use Rattle.promises.specs.States.{state_fits}
use Rattle.definition.specs.Words.{◌≤?◌}
use Rattle.definition.specs.Pool.{queue_length, slot_count, in_range}
use Rattle.definition.specs.Refusals.{most_next_id}
use Rattle.slots.specs.declared.ConnectionPoolWorker.{ConnectionPoolWorker}
use Rattle.slot_rules.specs.Tests.{ids_below, ids_distinct, slots_fit, slots_dated, counts_right}
use Rattle.list_rules.specs.Tests.{order_right, blank_from, queue_rises}

-- what the head, the slots, the list and the queue say of each other
unfoldable pub hangs_together : ConnectionPoolWorker → Bool
hangs_together w =
    let h = w.head in
    ((in_range h.options && h.next_connection_id ≤? most_next_id)
    && (ids_below w.ids h.next_connection_id && (ids_distinct w.ids && slots_fit w.ids w.generations w.times w.states)))
    && ((counts_right w.states h.total_connection_count h.pending_connection_count h.available_count
    && (order_right w.available w.states h.available_count && blank_from slot_count h.available_count w.available))
    && (queue_rises w.waiters h.waiting_count h.last_request && blank_from queue_length h.waiting_count w.waiters))

-- what a reached pool has besides
unfoldable pub is_settled : ConnectionPoolWorker → Bool
is_settled w =
    let h = w.head in
    (h.total_connection_count ≤? h.options.maximum
    && state_fits h.status.state h.status.generation h.next_connection_id h.total_connection_count h.available_count h.waiting_count)
    && (slots_dated w.generations w.times h.status.generation h.clock && blank_from slot_count h.options.maximum w.ids)

unfoldable pub keeps_rules : ConnectionPoolWorker → Bool
keeps_rules w = hangs_together w && is_settled w
