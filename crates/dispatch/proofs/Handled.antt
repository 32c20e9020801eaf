-- An event's own step is done where the step of its kind is.
use Rattle.std.specs.Prelude.{◌≡◌, ℕ, List, [], refl}
use Rattle.definition.specs.declared.Event.{Event}
use Rattle.records.specs.declared.Records.{Records}
use Rattle.slots.specs.Done.{Did}
use Rattle.slots.specs.DoneLaws.{did_quiet}
use Rattle.slots.specs.Slots.{handle}
use Rattle.slots.specs.View.{SlotPool, pool_in}
use Rattle.slots.specs.declared.ConnectionPoolWorker.{ConnectionPoolWorker}
use Rattle.dispatch.specs.Asks.{asks_stood, asks_check_out, asks_warm_pool, asks_abandon, asks_close, asks_shelve, asks_clear, asks_succeeded, asks_succeeded_for_pool, asks_failed, asks_maintenance, asks_pin, asks_return, asks_take}

pub did_handle : {e x : Event} (i : ℕ) (p : SlotPool) {w : ConnectionPoolWorker} {o o' : Records} → e ≡ x → Did (handle x i p) w o o' → Did (handle e i p) w o o'
did_handle i p h d = rw h d

pub did_still : {e x : Event} (i : ℕ) (p : SlotPool) {w : ConnectionPoolWorker} {o : Records} → e ≡ x → (handle x i p).records ≡ [] → pool_in w ≡ (handle x i p).pool → Did (handle e i p) w o o
did_still i p {w} h r q = rw h (did_quiet w r q)

pub ruleset asked = (asks_stood, asks_check_out, asks_warm_pool, asks_abandon, asks_close, asks_shelve, asks_clear, asks_succeeded, asks_succeeded_for_pool, asks_failed, asks_maintenance, asks_pin, asks_return, asks_take, did_handle, did_still)
