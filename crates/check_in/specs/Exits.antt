-- One law for each exit of a check-in: what the code knows there gives the step's outcome.
use Rattle.std.specs.Prelude.{◌≡◌, refl, Bool, true, false, ℕ}
use Rattle.std.proofs.Common.{sym, ◌∙◌}
use Rattle.definition.specs.Pool.{is_closed, stale_in}
use Rattle.definition.specs.Steps.{emit}
use Rattle.definition.specs.declared.Record.TheVariants.{ConnectionCheckedIn}
use Rattle.definition.specs.declared.ClosedReason.TheVariants.{Stale, Error, Dropped, PoolClosed}
use Rattle.records.specs.Output.{Emits}
use Rattle.records.specs.declared.Records.{Records}
use Rattle.slots.specs.View.{SlotPool, pool_in, id_at, slot_at}
use Rattle.slots.specs.Done.{Did}
use Rattle.slots.specs.DoneLaws.{did_then, did_emit, did_quiet, did_as}
use Rattle.slots.specs.StepLaws.{check_in_closed, check_in_errored, check_in_stale, check_in_executing, check_in_kept}
use Rattle.slots.specs.Slots.{close_at, shelve, check_in_at}
use Rattle.slots.specs.declared.ConnectionPoolWorker.{ConnectionPoolWorker}

-- what the code knows once the record of the check-in is written
pub record CheckedIn (w : ConnectionPoolWorker) (i : ℕ) (o o₁ : Records) : Type 0 where
  pub unshut : is_closed (pool_in w).state ≡ false
  pub said : Did (emit (ConnectionCheckedIn (id_at (pool_in w) i)) (pool_in w)) w o o₁

module _ (w : ConnectionPoolWorker) (i : ℕ) where
  abbrev p : SlotPool
  p = pool_in w

  pub checked_in : {x : ℕ} {b : Bool} {o o₁ : Records} → b ≡ is_closed p.state → b ≡ false → x ≡ id_at p i → Emits (ConnectionCheckedIn x) o o₁ → CheckedIn w i o o₁
  checked_in e f id s = record { unshut = sym e ∙ f; said = did_emit w (rw (← id) s) }

  -- what it read as the connection's generation, and the answer whether that is stale
  pub tested : {g : ℕ} {b c : Bool} → b ≡ stale_in p.generation g → g ≡ (slot_at p i).generation → b ≡ c → stale_in p.generation (slot_at p i).generation ≡ c
  tested e f h = rw (← f) (sym e ∙ h)

  module _ (errored executing : Bool) (t : ℕ) {v : ConnectionPoolWorker} {o o' : Records} where
    pub in_closed : {b : Bool} → b ≡ is_closed p.state → b ≡ true → Did (close_at PoolClosed i 0 p) v o o' → Did (check_in_at i errored executing t p) v o o'
    in_closed e f d = did_as (check_in_closed p i errored executing t (sym e ∙ f)) d

    module _ {o₁ : Records} (c : CheckedIn w i o o₁) where
      pub in_errored : errored ≡ true → Did (close_at Error i 0 p) v o₁ o' → Did (check_in_at i errored executing t p) v o o'
      in_errored e d = did_as (check_in_errored p i errored executing t c.unshut e) (did_then (emit _) (close_at Error i 0) p {v = w} c.said d)

      module _ (e : errored ≡ false) where
        pub in_stale : stale_in p.generation (slot_at p i).generation ≡ true → Did (close_at Stale i 0 p) v o₁ o' → Did (check_in_at i errored executing t p) v o o'
        in_stale h d = did_as (check_in_stale p i errored executing t c.unshut e h) (did_then (emit _) (close_at Stale i 0) p {v = w} c.said d)

        pub in_executing : stale_in p.generation (slot_at p i).generation ≡ false → executing ≡ true → Did (close_at Dropped i 0 p) v o₁ o' → Did (check_in_at i errored executing t p) v o o'
        in_executing h x d = did_as (check_in_executing p i errored executing t c.unshut e h x) (did_then (emit _) (close_at Dropped i 0) p {v = w} c.said d)

  pub in_kept : (errored executing : Bool) (t : ℕ) {v : ConnectionPoolWorker} {o o₁ : Records} → CheckedIn w i o o₁ → errored ≡ false → stale_in p.generation (slot_at p i).generation ≡ false → executing ≡ false
      → pool_in v ≡ (shelve i t p).pool → Did (check_in_at i errored executing t p) v o o₁
  unfolding shelve
  in_kept errored executing t {v} c e h x d = did_as (check_in_kept p i errored executing t c.unshut e h x) (did_then (emit _) (shelve i t) p {v = w} c.said (did_quiet v refl d))
