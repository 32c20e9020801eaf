-- What an event leaves alone: the options, and the serial until its end; and how many ids it takes.
use Rattle.std.specs.Prelude.{◌≡◌, Bool, List}
use Rattle.std.proofs.Math.Path.{refl}
use Rattle.std.proofs.Common.{ap, subst, ◌∙◌, arith}
use Rattle.std.proofs.Math.Bool.{true, false}
use Rattle.std.proofs.lemmas.Bool.{false≢true}
use Prim.Native.Nat.{ℕ, zero, suc, ◌+◌, ◌≤◌}
use Rattle.definition.specs.Words.{when◌then◌else◌}
use Rattle.definition.specs.Pool.{Waiter, is_ready, is_closed}
use Rattle.definition.specs.declared.Record.{Record}
use Rattle.definition.specs.Steps.{Out, Act, nothing, emit, become, ◌>>◌}
use Rattle.definition.specs.Refusals.{taken_after_close}
use Rattle.definition.specs.declared.ClosedReason.{ClosedReason}
use Rattle.definition.specs.declared.Event.{Event}
use Rattle.definition.specs.declared.Event.TheVariants.{CheckOut, WarmPool, Abandon, CheckIn, Clear, MarkAsReady, Succeeded, SucceededForPool, Failed, Maintenance, FillPool, Pin, ReturnToPinner, TakeFromPinner, Close}
use Rattle.definition.specs.declared.Options.{Options}
use Rattle.definition.specs.declared.PoolState.{PoolState}
use Rattle.definition.specs.declared.PoolState.TheVariants.{New, Paused, Ready, Closed}
use Rattle.slots.specs.View.{SlotPool}
use Rattle.slots.specs.View as View
use Rattle.slots.specs.Slots as S

-- at most k ids are taken; the state is left alone, if s says so
pub record Leaves (s : Bool) (k : ℕ) (p : SlotPool) (o : Out SlotPool) : Type 0 where
  pub options : o.pool.options ≡ p.options
  pub serial : o.pool.serial ≡ p.serial
  pub more : p.next_id ≤ o.pool.next_id
  pub next : o.pool.next_id ≤ p.next_id + k
  pub state : s ≡ true → o.pool.state ≡ p.state

pub serial_left : {k : ℕ} (p q : SlotPool) {o : Out SlotPool} → q ≡ o.pool → Leaves false k p o → q.serial ≡ p.serial
serial_left p q e l = ap (λ (x : SlotPool). x.serial) e ∙ l.serial

module _ {s : Bool} where
  -- an act that changes neither
  pub leaves_all : (k : ℕ) (p : SlotPool) {r : List Record} → Leaves s k p (record { pool = p; records = r })
  leaves_all k p = record { options = refl; serial = refl; more = omega arith; next = omega arith; state = λ _. refl }

  leaves_then : {k j : ℕ} (a b : Act SlotPool) (p : SlotPool) → Leaves s k p (a p) → Leaves s j (a p).pool (b (a p).pool) → Leaves s (k + j) p ((a >> b) p)
  unfolding ◌>>◌
  leaves_then a b p f g = record { options = g.options ∙ f.options; serial = g.serial ∙ f.serial; more = omega (arith, f.more, g.more); next = omega (arith, f.next, g.next); state = λ h. g.state h ∙ f.state h }

  pub leaves_if : {k : ℕ} (b : Bool) (x y : Act SlotPool) (p : SlotPool) → (b ≡ true → Leaves s k p (x p)) → (b ≡ false → Leaves s k p (y p)) → Leaves s k p ((when b then x else y) p)
  unfolding when◌then◌else◌
  leaves_if true x y p f g = f refl
  leaves_if false x y p f g = g refl

  leaves_less : {k j : ℕ} {p : SlotPool} {o : Out SlotPool} → k ≤ j → Leaves s k p o → Leaves s j p o
  leaves_less h f = record { options = f.options; serial = f.serial; more = f.more; next = omega (arith, f.next); state = f.state }

  -- ── Parts ──────────────────────────────────────────────────────────────────────────────────────────────────────────────

  close_at_leaves : (r : ClosedReason) (i other : ℕ) (p : SlotPool) → Leaves s 0 p (S.close_at r i other p)
  unfolding S.close_at ◌>>◌
  close_at_leaves r i other p = record { options = refl; serial = refl; more = omega arith; next = omega arith; state = λ _. refl }

  shelve_leaves : (i t : ℕ) (p : SlotPool) → Leaves s 0 p (S.shelve i t p)
  unfolding S.shelve
  shelve_leaves i t p = record { options = refl; serial = refl; more = omega arith; next = omega arith; state = λ _. refl }

  set_state_at_leaves : (k i : ℕ) (p : SlotPool) → Leaves s 0 p (S.set_state_at k i p)
  unfolding S.set_state_at
  set_state_at_leaves k i p = record { options = refl; serial = refl; more = omega arith; next = omega arith; state = λ _. refl }

  leave_pending_leaves : (p : SlotPool) → Leaves s 0 p (S.leave_pending p)
  unfolding S.leave_pending
  leave_pending_leaves p = record { options = refl; serial = refl; more = omega arith; next = omega arith; state = λ _. refl }

  pop_front_leaves : (p : SlotPool) → Leaves s 0 p (S.pop_front p)
  unfolding S.pop_front
  pop_front_leaves p = record { options = refl; serial = refl; more = omega arith; next = omega arith; state = λ _. refl }

  pop_back_leaves : (p : SlotPool) → Leaves s 0 p (S.pop_back p)
  unfolding S.pop_back
  pop_back_leaves p = record { options = refl; serial = refl; more = omega arith; next = omega arith; state = λ _. refl }

  create_leaves : (k : ℕ) (p : SlotPool) → Leaves s 1 p (S.create_pending_connection k p)
  unfolding S.create_pending_connection ◌>>◌
  create_leaves k p = record { options = refl; serial = refl; more = omega arith; next = omega arith; state = λ _. refl }

  close_perished_leaves : (i : ℕ) (p : SlotPool) → Leaves s 0 p (S.close_perished_at i p)
  unfolding S.close_perished_at
  close_perished_leaves i p = close_at_leaves _ i _ p

  pub tell_all_leaves : (r : _) (p : SlotPool) → Leaves s 0 p (S.tell_all r p)
  unfolding S.tell_all ◌>>◌
  tell_all_leaves r p = record { options = refl; serial = refl; more = omega arith; next = omega arith; state = λ _. refl }

  -- ── Steps ──────────────────────────────────────────────────────────────────────────────────────────────────────────────

  request_leaves : (n : ℕ) (warm : Bool) (p : SlotPool) → Leaves s 0 p (S.request n warm p)
  unfolding S.request S.queue ◌>>◌
  request_leaves n warm p = go p.state
    where
      go : (q : PoolState) → Leaves s 0 p ((become (View.with_last_request p n) >> S.queue n warm q) p)
      go New = record { options = refl; serial = refl; more = omega arith; next = omega arith; state = λ _. refl }
      go (Paused cause) = record { options = refl; serial = refl; more = omega arith; next = omega arith; state = λ _. refl }
      go Ready = record { options = refl; serial = refl; more = omega arith; next = omega arith; state = λ _. refl }
      go Closed = record { options = refl; serial = refl; more = omega arith; next = omega arith; state = λ _. refl }

  abandon_at_leaves : (k : ℕ) (p : SlotPool) → Leaves s 0 p (S.abandon_at k p)
  unfolding S.abandon_at
  abandon_at_leaves k p = record { options = refl; serial = refl; more = omega arith; next = omega arith; state = λ _. refl }

  check_in_at_leaves : (i : ℕ) (errored executing : Bool) (t : ℕ) (p : SlotPool) → Leaves s 0 p (S.check_in_at i errored executing t p)
  unfolding S.check_in_at
  check_in_at_leaves i errored executing t p =
      leaves_if _ _ _ p (λ _. close_at_leaves _ i _ p)
      (λ _. leaves_then (emit _) _ p (leaves_all 0 p)
      (leaves_if _ _ _ p (λ _. close_at_leaves _ i _ p)
      (λ _. leaves_if _ _ _ p (λ _. close_at_leaves _ i _ p)
      (λ _. leaves_if _ _ _ p (λ _. close_at_leaves _ i _ p) (λ _. shelve_leaves i t p)))))

  succeeded_at_leaves : (i : ℕ) (p : SlotPool) → Leaves s 0 p (S.succeeded_at i p)
  unfolding S.succeeded_at
  succeeded_at_leaves i p = leaves_then (emit _) _ p (leaves_all 0 p) (leaves_then S.leave_pending _ p (leave_pending_leaves p) (set_state_at_leaves 2 i _))

  succeeded_for_pool_at_leaves : (i opened : ℕ) (p : SlotPool) → Leaves s 0 p (S.succeeded_for_pool_at i opened p)
  unfolding S.succeeded_for_pool_at
  succeeded_for_pool_at_leaves i opened p =
      leaves_then (emit _) _ p (leaves_all 0 p) (leaves_then S.leave_pending _ p (leave_pending_leaves p) (leaves_if _ _ _ _ (λ _. close_at_leaves _ i _ _) (λ _. shelve_leaves i opened _)))

  failed_at_leaves : (i : ℕ) (p : SlotPool) → Leaves s 0 p (S.failed_at i p)
  unfolding S.failed_at
  failed_at_leaves i p = leaves_then S.leave_pending _ p (leave_pending_leaves p) (close_at_leaves _ i _ _)

  pub prune_leaves : (k : ℕ) (p : SlotPool) → Leaves s 0 p (S.prune k p)
  unfolding S.prune
  prune_leaves zero p = leaves_all 0 p
  prune_leaves (suc k) p =
      leaves_if _ _ _ p
      (λ _. leaves_then S.pop_front _ p (pop_front_leaves p) (leaves_then (S.close_perished_at _) (S.prune k) _ (close_perished_leaves _ _) (prune_leaves k _)))
      (λ _. leaves_all 0 p)

  fill_up_leaves : (k : ℕ) (p : SlotPool) → Leaves s k p (S.fill_up k p)
  unfolding S.fill_up
  fill_up_leaves zero p = leaves_all 0 p
  fill_up_leaves (suc k) p =
      leaves_if _ _ _ p
      (λ _. leaves_less (omega arith) (leaves_then (S.create_pending_connection S.background_no) (S.fill_up k) p (create_leaves S.background_no p) (fill_up_leaves k _)))
      (λ _. leaves_all (suc k) p)

  pub close_front_leaves : (k : ℕ) (p : SlotPool) → Leaves s 0 p (S.close_front k p)
  unfolding S.close_front
  close_front_leaves zero p = leaves_all 0 p
  close_front_leaves (suc k) p = leaves_then S.pop_front _ p (pop_front_leaves p) (leaves_then (S.close_at _ _ _) (S.close_front k) _ (close_at_leaves _ _ _ _) (close_front_leaves k _))

  establish_leaves : (w : Waiter) (p : SlotPool) → Leaves s 1 p (S.establish w p)
  unfolding S.establish
  establish_leaves w p = leaves_then (S.create_pending_connection S.request_no) _ p (create_leaves S.request_no p) (leaves_all 0 _)

  lend_leaves : (w : Waiter) (i : ℕ) (p : SlotPool) → Leaves s 1 p (S.lend w i p)
  unfolding S.lend
  lend_leaves w i p = leaves_less (omega arith) (leaves_then (emit _) _ p (leaves_all 0 p) (leaves_if _ _ _ p (λ _. shelve_leaves i _ p) (λ _. set_state_at_leaves 2 i p)))

  take_from_leaves : (k : ℕ) (w : Waiter) (p : SlotPool) → Leaves s 1 p (S.take_from k w p)
  unfolding S.take_from
  take_from_leaves zero w p = establish_leaves w p
  take_from_leaves (suc k) w p =
      leaves_then S.pop_back _ p (pop_back_leaves p)
      (leaves_if _ _ _ _ (λ _. leaves_then (S.close_perished_at _) (S.take_from k w) _ (close_perished_leaves _ _) (take_from_leaves k w _)) (λ _. lend_leaves w _ _))

  check_out_leaves : (w : Waiter) (p : SlotPool) → Leaves s 1 p (S.check_out w p)
  unfolding S.check_out
  check_out_leaves w p = leaves_if _ _ _ p (λ _. leaves_if _ _ _ p (λ _. leaves_all 1 p) (λ _. establish_leaves w p)) (λ _. take_from_leaves _ w p)

  dequeue_leaves : (p : SlotPool) → Leaves s 0 p (S.dequeue p)
  unfolding S.dequeue
  dequeue_leaves p = record { options = refl; serial = refl; more = omega arith; next = omega arith; state = λ _. refl }

  pub service_leaves : (p : SlotPool) → Leaves s 1 p (S.service p)
  unfolding S.service S.serve_front
  service_leaves p =
      leaves_if _ _ _ p (λ _. leaves_if _ _ _ p (λ _. leaves_all 1 p) (λ _. leaves_then S.dequeue _ p (dequeue_leaves p) (check_out_leaves _ _))) (λ _. leaves_all 1 p)

enter_leaves : (q : PoolState) (g : ℕ) (p : SlotPool) → Leaves false 0 p (S.enter q g p)
unfolding S.enter
enter_leaves q g p = record { options = refl; serial = refl; more = omega arith; next = omega arith; state = λ h. absurd (false≢true h) }

clear_leaves : (timeout : Bool) (cause : ℕ) (p : SlotPool) → Leaves false 0 p (S.clear timeout cause p)
unfolding S.clear S.interrupted S.cleared_ready
clear_leaves timeout cause p =
    leaves_then (S.interrupted timeout) _ p (leaves_if _ _ _ p (λ _. leaves_all 0 p) (λ _. leaves_all 0 p))
    (leaves_then (S.cleared_ready timeout cause) _ _ (leaves_if _ _ _ _ (λ _. leaves_then (emit _) (S.tell_all _) _ (leaves_all 0 _) (tell_all_leaves _ _)) (λ _. leaves_all 0 _)) (enter_leaves _ _ _))

mark_as_ready_leaves : (p : SlotPool) → Leaves false 0 p (S.mark_as_ready p)
unfolding S.mark_as_ready
mark_as_ready_leaves p = leaves_if _ _ _ p (λ _. leaves_all 0 p) (λ _. leaves_then (emit _) (S.enter _ _) p (leaves_all 0 p) (enter_leaves _ _ _))

shut_leaves : (p : SlotPool) → Leaves false 0 p (S.shut p)
unfolding S.shut
shut_leaves p =
    leaves_then (S.close_front p.availables) _ p (close_front_leaves p.availables p)
    (leaves_then (S.tell_all _) _ _ (tell_all_leaves _ _) (leaves_then (emit _) (S.enter _ _) _ (leaves_all 0 _) (enter_leaves _ _ _)))

maintenance_leaves : (p : SlotPool) → Leaves false p.options.minimum p (S.maintenance p)
unfolding S.maintenance S.remove_perished S.ensure_min_connections
maintenance_leaves p =
    let r : Leaves false 0 p (S.prune p.availables p) = prune_leaves p.availables p in
    leaves_less (omega arith) (leaves_then S.remove_perished S.ensure_min_connections p r
    (subst (λ (o : Options). Leaves false o.minimum (S.prune p.availables p).pool (S.ensure_min_connections (S.prune p.availables p).pool)) r.options
    (leaves_if _ _ _ _ (λ _. fill_up_leaves _ _) (λ _. leaves_all _ _))))

-- ── Events ─────────────────────────────────────────────────────────────────────────────────────────────────────────────

-- how many ids an event takes at most before the service stage
abbrev pub news : Event → SlotPool → ℕ
news (CheckOut n) p = 0
news (WarmPool n) p = 0
news (Abandon n) p = 0
news (CheckIn n errored executing let_go) p = 0
news (Clear timeout cause) p = 0
news MarkAsReady p = 0
news (Succeeded n) p = 0
news (SucceededForPool n opened) p = 0
news (Failed n) p = 0
news Maintenance p = p.options.minimum
news FillPool p = 0
news (Pin n) p = 0
news (ReturnToPinner n) p = 0
news (TakeFromPinner n) p = 0
news Close p = 0

pub news_most : (e : Event) (p : SlotPool) → news e p ≤ p.options.minimum
news_most (CheckOut n) p = omega arith
news_most (WarmPool n) p = omega arith
news_most (Abandon n) p = omega arith
news_most (CheckIn n errored executing let_go) p = omega arith
news_most (Clear timeout cause) p = omega arith
news_most MarkAsReady p = omega arith
news_most (Succeeded n) p = omega arith
news_most (SucceededForPool n opened) p = omega arith
news_most (Failed n) p = omega arith
news_most Maintenance p = omega arith
news_most FillPool p = omega arith
news_most (Pin n) p = omega arith
news_most (ReturnToPinner n) p = omega arith
news_most (TakeFromPinner n) p = omega arith
news_most Close p = omega arith

-- an event that a closed pool takes leaves its state alone
pub handle_leaves : (e : Event) (i : ℕ) (p : SlotPool) → Leaves (taken_after_close e) (news e p) p (S.handle e i p)
unfolding S.handle
handle_leaves (CheckOut n) i p = request_leaves n false p
handle_leaves (WarmPool n) i p = request_leaves n true p
handle_leaves (Abandon n) i p = abandon_at_leaves i p
handle_leaves (CheckIn n errored executing let_go) i p = check_in_at_leaves i errored executing let_go p
handle_leaves (Clear timeout cause) i p = clear_leaves timeout cause p
handle_leaves MarkAsReady i p = mark_as_ready_leaves p
handle_leaves (Succeeded n) i p = succeeded_at_leaves i p
handle_leaves (SucceededForPool n opened) i p = succeeded_for_pool_at_leaves i opened p
handle_leaves (Failed n) i p = failed_at_leaves i p
handle_leaves Maintenance i p = maintenance_leaves p
handle_leaves FillPool i p = leaves_all 0 p
handle_leaves (Pin n) i p = set_state_at_leaves S.in_use_no i p
handle_leaves (ReturnToPinner n) i p = set_state_at_leaves S.returned_no i p
handle_leaves (TakeFromPinner n) i p = set_state_at_leaves S.in_use_no i p
handle_leaves Close i p = shut_leaves p

leaves_weak : {s : Bool} {k : ℕ} {p : SlotPool} {o : Out SlotPool} → Leaves s k p o → Leaves false k p o
leaves_weak f = record { options = f.options; serial = f.serial; more = f.more; next = f.next; state = λ h. absurd (false≢true h) }

-- the service stage takes one more
pub event_leaves : (e : Event) (i : ℕ) (p : SlotPool) → Leaves false (news e p + 1) p (S.event e i p)
unfolding S.event
event_leaves e i p = leaves_then (S.handle e i) _ p (leaves_weak (handle_leaves e i p)) (leaves_if _ _ _ _ (λ _. service_leaves _) (λ _. leaves_all 1 _))

closed_not_ready : (q : PoolState) → is_closed q ≡ true → is_ready q ≡ false
closed_not_ready New h = refl
closed_not_ready (Paused cause) h = refl
closed_not_ready Ready h = absurd (false≢true h)
closed_not_ready Closed h = refl

idle_leaves : (p : SlotPool) → is_ready p.state ≡ false → Leaves false 0 p (S.service p)
unfolding S.service S.can_service_at
idle_leaves p h = rw h (leaves_if false _ _ p (λ e. absurd (false≢true e)) (λ _. leaves_all 0 p))

none_new : (e : Event) (p : SlotPool) → taken_after_close e ≡ true → news e p ≡ 0
none_new (CheckOut n) p h = refl
none_new (WarmPool n) p h = refl
none_new (Abandon n) p h = refl
none_new (CheckIn n errored executing let_go) p h = refl
none_new (Clear timeout cause) p h = refl
none_new MarkAsReady p h = refl
none_new (Succeeded n) p h = refl
none_new (SucceededForPool n opened) p h = refl
none_new (Failed n) p h = refl
none_new Maintenance p h = absurd (false≢true h)
none_new FillPool p h = refl
none_new (Pin n) p h = refl
none_new (ReturnToPinner n) p h = refl
none_new (TakeFromPinner n) p h = refl
none_new Close p h = refl

-- a closed pool makes no connection, and closing makes none
pub closed_leaves : (e : Event) (i : ℕ) (p : SlotPool) → is_closed p.state ≡ true → taken_after_close e ≡ true → Leaves false 0 p (S.event e i p)
unfolding S.event
closed_leaves e i p c h =
    let o = handle_leaves e i p in
    let z : news e p ≡ 0 = none_new e p h in
    let own0 : Leaves false 0 p (S.handle e i p) = leaves_less (omega arith) (leaves_weak o) in
    let still : is_ready (S.handle e i p).pool.state ≡ false = ap is_ready (o.state h) ∙ closed_not_ready p.state c in
    leaves_then (S.handle e i) _ p own0 (leaves_if _ _ _ _ (λ _. idle_leaves _ still) (λ _. leaves_all 0 _))

pub close_leaves : (i : ℕ) (p : SlotPool) → Leaves false 0 p (S.event Close i p)
unfolding S.event S.handle when◌then◌else◌
close_leaves i p = leaves_then (S.handle Close i) nothing p (shut_leaves p) (leaves_all 0 _)
