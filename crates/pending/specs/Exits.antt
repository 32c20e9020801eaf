-- One law for each exit of what becomes of a pending connection: what the code knows there gives the step's outcome.
use Rattle.std.specs.Prelude.{◌≡◌, refl, Bool, true, false, ℕ}
use Rattle.std.proofs.Common.{sym, ◌∙◌}
use Rattle.definition.specs.Pool.{is_closed}
use Rattle.definition.specs.Steps.{emit, ◌>>◌}
use Rattle.definition.specs.declared.Record.TheVariants.{ConnectionReady}
use Rattle.definition.specs.declared.ClosedReason.TheVariants.{Error, PoolClosed}
use Rattle.records.specs.Output.{Emits}
use Rattle.records.specs.declared.Records.{Records}
use Rattle.slots.specs.View.{SlotPool, pool_in, id_at}
use Rattle.slots.specs.Done.{Did}
use Rattle.slots.specs.DoneLaws.{did_then, did_emit, did_quiet, did_as}
use Rattle.slots.specs.Needs.{CanClose, CanShelve, CanLeave}
use Rattle.slots.specs.StepLaws.{opened_closed, opened_kept}
use Rattle.slots.specs.Slots.{close_at, shelve, set_state_at, leave_pending, succeeded_at, succeeded_for_pool_at, failed_at, checked_out_no}
use Rattle.slots.specs.declared.ConnectionPoolWorker.{ConnectionPoolWorker}

-- w₁ is the worker in which it is not pending any more
module _ (w w₁ : ConnectionPoolWorker) (left : pool_in w₁ ≡ (leave_pending (pool_in w)).pool) (i : ℕ) where
  abbrev p : SlotPool
  p = pool_in w

  leave : {o : Records} → Did (leave_pending p) w₁ o o
  unfolding leave_pending
  leave = did_quiet w₁ refl left

  module _ {x : ℕ} {o o₁ : Records} (id : x ≡ id_at p i) (e : Emits (ConnectionReady x) o o₁) where
    said : Did (emit (ConnectionReady (id_at p i)) p) w o o₁
    said = did_emit w (rw (← id) e)

    pub ready_lent : (v : ConnectionPoolWorker) → pool_in v ≡ (set_state_at checked_out_no i (pool_in w₁)).pool → Did (succeeded_at i p) v o o₁
    unfolding succeeded_at set_state_at
    ready_lent v f = did_then (emit _) (leave_pending >> set_state_at checked_out_no i) p {v = w} said (did_then leave_pending (set_state_at checked_out_no i) p {v = w₁} leave (did_quiet v refl f))

    module _ (opened : ℕ) {b : Bool} (f : b ≡ is_closed p.state) where
      pub ready_shut : b ≡ true → {v : ConnectionPoolWorker} {o' : Records} → Did (close_at PoolClosed i 0 (pool_in w₁)) v o₁ o' → Did (succeeded_for_pool_at i opened p) v o o'
      ready_shut g d = did_as (opened_closed p i opened (sym f ∙ g)) (did_then (emit _) (leave_pending >> close_at PoolClosed i 0) p {v = w} said (did_then leave_pending (close_at PoolClosed i 0) p {v = w₁} leave d))

      pub ready_kept : b ≡ false → (v : ConnectionPoolWorker) → pool_in v ≡ (shelve i opened (pool_in w₁)).pool → Did (succeeded_for_pool_at i opened p) v o o₁
      unfolding shelve
      ready_kept g v h = did_as (opened_kept p i opened (sym f ∙ g)) (did_then (emit _) (leave_pending >> shelve i opened) p {v = w} said (did_then leave_pending (shelve i opened) p {v = w₁} leave (did_quiet v refl h)))

  pub failed_closed : {v : ConnectionPoolWorker} {o o' : Records} → Did (close_at Error i 0 (pool_in w₁)) v o o' → Did (failed_at i p) v o o'
  unfolding failed_at
  failed_closed d = did_then leave_pending (close_at Error i 0) p {v = w₁} leave d

-- what the step asks once it is not pending any more
module _ (p q : SlotPool) (left : q ≡ (leave_pending p).pool) (i : ℕ) (c : CanLeave p i) where
  pub left_closes : CanClose q i
  unfolding leave_pending
  left_closes = rw left (record { slot = c.slot; some = c.some })

  pub left_shelves : CanShelve q i
  unfolding leave_pending
  left_shelves = rw left (record { slot = c.slot; spot = c.spot })

  -- and its state is what it was
  pub left_closed : {b : Bool} → b ≡ is_closed q.state → b ≡ is_closed p.state
  unfolding leave_pending
  left_closed e = rw left at e
