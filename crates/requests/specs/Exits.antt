-- One law for each exit of a request: what the code knows there gives the step's outcome.
use Rattle.std.specs.Prelude.{◌≡◌, refl, Bool, true, false, ℕ, ◌+◌, ◌*◌, set}
use Rattle.std.proofs.Common.{sym, ap, ◌∙◌}
use mir.Val.{bool_byte}
use Rattle.definition.specs.Words.{when◌then◌else◌}
use Rattle.definition.specs.Events.{bit}
use Rattle.definition.specs.Steps.{emit}
use Rattle.definition.specs.declared.Record.TheVariants.{Replied}
use Rattle.definition.specs.declared.Reply.TheVariants.{Cleared}
use Rattle.definition.specs.declared.PoolState.TheVariants.{New, Paused, Ready, Closed}
use Rattle.records.specs.Output.{Emits}
use Rattle.records.specs.declared.Records.{Records}
use Rattle.slots.specs.View.{SlotPool, pool_in, with_last_request, with_waiters}
use Rattle.slots.specs.Done.{Did}
use Rattle.slots.specs.DoneLaws.{did_emit, did_quiet, did_as}
use Rattle.slots.specs.StepLaws.{request_new, request_paused, request_ready, request_closed}
use Rattle.slots.specs.Slots.{request}
use Rattle.slots.specs.declared.ConnectionPoolWorker.{ConnectionPoolWorker}

-- the mark of a warm waiter
mark : (b : Bool) → bool_byte b ≡ bit 1 b
unfolding when◌then◌else◌
mark true = refl
mark false = refl

module _ (p : SlotPool) (id : ℕ) (warm : Bool) (v : ConnectionPoolWorker) {o : Records} where
  answered : {o' : Records} (cause : ℕ) → request id warm p ≡ emit (Replied id (Cleared cause)) (with_last_request p id) → pool_in v ≡ with_last_request p id → Emits (Replied id (Cleared cause)) o o' → Did (request id warm p) v o o'
  answered cause h e s = did_as (h ∙ ap (emit (Replied id (Cleared cause))) (sym e)) (did_emit v s)

  pub asked_new : {o' : Records} → p.state ≡ New → pool_in v ≡ with_last_request p id → Emits (Replied id (Cleared 0)) o o' → Did (request id warm p) v o o'
  asked_new h e s = answered 0 (request_new p id warm h) e s

  pub asked_paused : {o' : Records} (cause : ℕ) → p.state ≡ Paused cause → pool_in v ≡ with_last_request p id → Emits (Replied id (Cleared cause)) o o' → Did (request id warm p) v o o'
  asked_paused cause h e s = answered cause (request_paused p id warm cause h) e s

  pub asked_ready : p.state ≡ Ready → pool_in v ≡ with_waiters (with_last_request p id) (set p.waiters p.waitings (4 * id + bool_byte warm)) (p.waitings + 1) → Did (request id warm p) v o o
  asked_ready h e = did_as (request_ready p id warm h) (did_quiet v refl (e ∙ ap (λ (m : ℕ). with_waiters (with_last_request p id) (set p.waiters p.waitings (4 * id + m)) (p.waitings + 1)) (mark warm)))

  pub asked_closed : p.state ≡ Closed → pool_in v ≡ with_last_request p id → Did (request id warm p) v o o
  asked_closed h e = did_as (request_closed p id warm h) (did_quiet v refl e)
