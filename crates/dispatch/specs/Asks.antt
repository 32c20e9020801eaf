-- What an event's own step asks of the pool, its clock being the event's.
use Rattle.std.specs.Prelude.{◌≡◌, Bool, List, ℕ, ◌%◌, ◌≤◌, ◌<◌, length, get_or}
use Rattle.std.proofs.Common.{ap, subst, arith}
use Rattle.definition.specs.Pool.{Pool, queue_length, slot_count}
use Rattle.definition.specs.Steps.{kind_no}
use Rattle.definition.specs.Refusals.{enough_room, last_next_id, last_generation}
use Rattle.definition.specs.declared.Event.{Event}
use Rattle.definition.specs.declared.Event.TheVariants.{CheckOut, WarmPool, Abandon, CheckIn, Clear, Succeeded, SucceededForPool, Failed, Maintenance, Pin, ReturnToPinner, TakeFromPinner}
use Rattle.records.specs.Output.{Room}
use Rattle.slots.specs.View.{SlotPool, Whole}
use Rattle.slots.specs.Needs.{CanClose, CanShelve, CanLeave, CanQueue}
use Rattle.refinement.specs.Mirror.{is_lent, is_pending}
use Rattle.refinement.specs.Stands.{Stands}
use Rattle.refinement.specs.Events.{Holds, New, Fit}
use Rattle.refinement.proofs.Needs.{whole, can_queue, can_close, can_shelve, can_leave}
use Rattle.upkeep.specs.Stood.{Stood}

pub record Asks (e : Event) (i : ℕ) (p : SlotPool) : Type 0 where
  pub lists : Pool
  pub stands : Stands p lists
  pub fit : Fit e p i
  -- maintenance has ids left, and a clear a generation
  pub ids : kind_no e ≡ 10 → p.next_id ≤ last_next_id
  pub generation : kind_no e ≡ 5 → p.generation ≡ last_generation → ⊥

-- ── What each step asks is a part of it ────────────────────────────────────────────────────────────────────────────────

module _ {e : Event} {i : ℕ} {p : SlotPool} (a : Asks e i p) where
  pub asks_stood : Stood p
  asks_stood = record { lists = a.lists; stands = a.stands }

  pub asks_whole : Whole p
  asks_whole = whole a.stands

  -- before any record is written there is room for those that a step of one connection says
  pub asks_few : (l : List ℕ) → enough_room ≤ length l → (k : ℕ) → k ≤ 2 → Room k 0 l
  asks_few l room k h = (omega (arith, room, h), omega (arith, h))

  fits : {x : Event} → e ≡ x → Fit x p i
  fits h = subst (λ (y : Event). Fit y p i) h a.fit

  pub asks_check_out : {n : ℕ} → e ≡ CheckOut n → CanQueue p
  asks_check_out h = can_queue a.stands (fits h).room

  pub asks_warm_pool : {n : ℕ} → e ≡ WarmPool n → CanQueue p
  asks_warm_pool h = can_queue a.stands (fits h).room

  pub asks_abandon : {n : ℕ} → e ≡ Abandon n → (i < queue_length) × (get_or p.waiters i 0 % 4 < 2)
  asks_abandon h = let f = fits h in (omega (arith, f.place, a.stands.alike.queue.fits), f.heard)

  pub asks_close : {n t : ℕ} {errored executing : Bool} → e ≡ CheckIn n errored executing t → CanClose p i
  asks_close h = can_close a.stands (fits h)

  pub asks_shelve : {n t : ℕ} {errored executing : Bool} → e ≡ CheckIn n errored executing t → CanShelve p i
  asks_shelve h = can_shelve a.stands (fits h)

  pub asks_clear : {timeout : Bool} {cause : ℕ} → e ≡ Clear timeout cause → p.generation ≡ last_generation → ⊥
  asks_clear h = a.generation (ap kind_no h)

  pub asks_succeeded : {n : ℕ} → e ≡ Succeeded n → CanLeave p i
  asks_succeeded h = can_leave a.stands (fits h)

  pub asks_succeeded_for_pool : {n t : ℕ} → e ≡ SucceededForPool n t → CanLeave p i
  asks_succeeded_for_pool h = can_leave a.stands (fits h)

  pub asks_failed : {n : ℕ} → e ≡ Failed n → CanLeave p i
  asks_failed h = can_leave a.stands (fits h)

  pub asks_maintenance : e ≡ Maintenance → p.next_id ≤ last_next_id
  asks_maintenance h = a.ids (ap kind_no h)

  pub asks_pin : {n : ℕ} → e ≡ Pin n → i < slot_count
  asks_pin h = (fits h).slot

  pub asks_return : {n : ℕ} → e ≡ ReturnToPinner n → i < slot_count
  asks_return h = (fits h).slot

  pub asks_take : {n : ℕ} → e ≡ TakeFromPinner n → i < slot_count
  asks_take h = (fits h).slot
