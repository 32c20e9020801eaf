-- A whole event: what it does to the slot, or to the waiter, that it names, and the service stage.
use Rattle.std.specs.Prelude.{refl, true, false, ℕ}
use Rattle.std.proofs.Common.{subst}
use Rattle.definition.specs.Pool.{Pool}
use Rattle.definition.specs.Steps as D
use Rattle.definition.specs.Steps.{Out}
use Rattle.definition.specs.declared.Event.{Event}
use Rattle.definition.specs.declared.Event.TheVariants.{CheckOut, WarmPool, Abandon, CheckIn, Clear, MarkAsReady, Succeeded, SucceededForPool, Failed, Maintenance, FillPool, Pin, ReturnToPinner, TakeFromPinner, Close}
use Rattle.definition.specs.declared.ConnectionState.TheVariants.{Pinned}
use Rattle.definition.specs.declared.PinnedState.TheVariants.{InUse, Returned}
use Rattle.slots.specs.View.{SlotPool}
use Rattle.slots.specs.View as View
use Rattle.slots.specs.Slots as S
use Rattle.refinement.specs.Agree.{Class}
use Rattle.refinement.specs.Stands.{Stands, Same}
use Rattle.refinement.proofs.Acts.{same_nothing, same_then, same_if, repin_same}
use Rattle.refinement.proofs.Handle.{request_same, abandon_same, clear_same, mark_as_ready_same, check_in_same, succeeded_same, succeeded_for_pool_same, failed_same}
use Rattle.refinement.proofs.Walks.{maintenance_same, shut_same}
use Rattle.refinement.proofs.Service.{service_same}
use Rattle.refinement.specs.Events.{Holds, New, Fit}

-- the step of a slot, said of the id that the event names
by_id : {p : SlotPool} {t : Class} {n i : ℕ} {o : Out SlotPool} {m : Pool} (a : ℕ → D.Act Pool) → Holds t n p i → Same o (a (View.id_at p i) m) → Same o (a n m)
by_id {o = o} {m = m} a at h = subst (λ (x : ℕ). Same o (a x m)) at.id h

pub handle_same : (e : Event) (i : ℕ) (p : SlotPool) (m : Pool) → Stands p m → Fit e p i → Same (S.handle e i p) (D.handle e m)
unfolding S.handle D.handle
handle_same (CheckOut n) i p m st f = request_same n false p m st f.later f.room
handle_same (WarmPool n) i p m st f = request_same n true p m st f.later f.room
handle_same (Abandon n) i p m st f = abandon_same i n p m st f.place f.id f.heard
handle_same (CheckIn n errored executing let_go) i p m st f = by_id (λ x. D.check_in x errored executing let_go) f (check_in_same i p m st f.slot errored executing let_go f.state)
handle_same (Clear timeout cause) i p m st f = clear_same timeout cause p m st
handle_same MarkAsReady i p m st f = mark_as_ready_same p m st
handle_same (Succeeded n) i p m st f = by_id D.succeeded f (succeeded_same i p m st f.slot f.state)
handle_same (SucceededForPool n opened) i p m st f = by_id (λ x. D.succeeded_for_pool x opened) f (succeeded_for_pool_same i p m st f.slot f.state opened)
handle_same (Failed n) i p m st f = by_id D.failed f (failed_same i p m st f.slot f.state)
handle_same Maintenance i p m st f = maintenance_same p m st
handle_same FillPool i p m st f = same_nothing st
handle_same (Pin n) i p m st f = by_id (D.repin (Pinned InUse)) f (repin_same st i f.slot f.state (Pinned InUse) refl)
handle_same (ReturnToPinner n) i p m st f = by_id (D.repin (Pinned Returned)) f (repin_same st i f.slot f.state (Pinned Returned) refl)
handle_same (TakeFromPinner n) i p m st f = by_id (D.repin (Pinned InUse)) f (repin_same st i f.slot f.state (Pinned InUse) refl)
handle_same Close i p m st f = shut_same p m st

pub event_same : (e : Event) (i : ℕ) (p : SlotPool) (m : Pool) → Stands p m → Fit e p i → Same (S.event e i p) (D.event e m)
unfolding S.event D.event
event_same e i p m st f =
    let o = handle_same e i p m st f in
    same_then (S.handle e i) _ (D.handle e) _ p m o
    (same_if _ _ _ _ _ _ refl (λ _. service_same _ _ o.stands) (λ _. same_nothing o.stands))

-- the clock does not matter to it
module _ (now : ℕ) (p : SlotPool) (i : ℕ) where
  at_clock : {t : Class} {n : ℕ} → Holds t n p i → Holds t n (View.with_clock p now) i
  at_clock f = record { slot = f.slot; id = f.id; state = f.state }

  new_clock : {n : ℕ} → New n p → New n (View.with_clock p now)
  new_clock f = record { later = f.later; room = f.room }

  pub fit_clock : (e : Event) → Fit e p i → Fit e (View.with_clock p now) i
  fit_clock (CheckOut n) f = new_clock f
  fit_clock (WarmPool n) f = new_clock f
  fit_clock (Abandon n) f = record { place = f.place; id = f.id; heard = f.heard }
  fit_clock (CheckIn n errored executing let_go) f = at_clock f
  fit_clock (Clear timeout cause) f = tt
  fit_clock MarkAsReady f = tt
  fit_clock (Succeeded n) f = at_clock f
  fit_clock (SucceededForPool n opened) f = at_clock f
  fit_clock (Failed n) f = at_clock f
  fit_clock Maintenance f = tt
  fit_clock FillPool f = tt
  fit_clock (Pin n) f = at_clock f
  fit_clock (ReturnToPinner n) f = at_clock f
  fit_clock (TakeFromPinner n) f = at_clock f
  fit_clock Close f = tt
