-- Where connections stand among the slots, and what the slots say of time: no slot at or past the maximum is taken, and none is of a
-- later generation or time than the pool. Every event keeps it so.
use Rattle.std.specs.Prelude.{◌≡◌, Bool, List, length, get_or, set}
use Rattle.std.proofs.Math.Path.{refl, ap}
use Rattle.std.proofs.Common.{sym, subst, ◌∙◌, length-set, get_or-set_same, get_or-set_other}
use Rattle.std.proofs.Math.Bool.{true, false}
use Prim.Native.Nat.{ℕ, zero, suc, ◌+◌, ◌≤◌, ◌<◌}
use native.Mathlib.Omega.{arith}
use Rattle.std.proofs.Math.ListN.{get_or-eq_default}
use Rattle.std.proofs.Math.Seq.{set_out}
use Rattle.definition.specs.Booleans.{by_eq, by_lt}
use Rattle.definition.specs.Words.{when◌then◌else◌}
use Rattle.definition.specs.Pool.{slot_count, Waiter, is_ready}
use Rattle.definition.specs.declared.Record.{Record}
use Rattle.definition.specs.declared.Record.TheVariants.{PoolCleared}
use Rattle.definition.specs.declared.Reply.{Reply}
use Rattle.definition.specs.declared.Reply.TheVariants.{Cleared}
use Rattle.definition.specs.Steps.{Out, Act, nothing, emit, become, ◌>>◌}
use Rattle.definition.specs.declared.ClosedReason.{ClosedReason}
use Rattle.definition.specs.declared.Event.{Event}
use Rattle.definition.specs.declared.Event.TheVariants.{CheckOut, WarmPool, Abandon, CheckIn, Clear, MarkAsReady, Succeeded, SucceededForPool, Failed, Maintenance, FillPool, Pin, ReturnToPinner, TakeFromPinner, Close}
use Rattle.definition.specs.declared.PoolState.{PoolState}
use Rattle.definition.specs.declared.PoolState.TheVariants.{New, Paused, Ready, Closed}
use Rattle.slots.specs.Finding.{vacant_at, vacant_below}
use Rattle.slots.specs.Needs.{taken}
use Rattle.slots.specs.Order.{vacant_slot}
use Rattle.slots.specs.View.{SlotPool, Slot, vacant}
use Rattle.slots.specs.View as View
use Rattle.slots.specs.Slots as S
use Rattle.refinement.specs.Table.{one, one_pos, one_zero, taken_put}

-- ── What is kept ───────────────────────────────────────────────────────────────────────────────────────────────────────

-- no slot at or past the maximum is taken
abbrev pub Spare : (maximum : ℕ) → List ℕ → Type 0
Spare m ids = (j : ℕ) → m ≤ j → get_or ids j 0 ≡ 0

-- not of a later generation, nor of a later time
abbrev pub Dated : (generation clock : ℕ) → Slot → Type 0
Dated g t s = (s.generation ≤ g) × (s.time ≤ t)

abbrev pub AllDated : SlotPool → Type 0
AllDated p = (j : ℕ) → Dated p.generation p.clock (View.slot_at p j)

pub record Sited (p : SlotPool) : Type 0 where
  pub spare : Spare p.options.maximum p.ids
  pub dated : AllDated p

-- an event's second time is not one to come
abbrev pub Timely : Event → (now : ℕ) → Type 0
Timely (CheckOut n) now = Unit {0}
Timely (WarmPool n) now = Unit {0}
Timely (Abandon n) now = Unit {0}
Timely (CheckIn n errored executing let_go) now = let_go ≤ now
Timely (Clear timeout cause) now = Unit {0}
Timely MarkAsReady now = Unit {0}
Timely (Succeeded n) now = Unit {0}
Timely (SucceededForPool n opened) now = opened ≤ now
Timely (Failed n) now = Unit {0}
Timely Maintenance now = Unit {0}
Timely FillPool now = Unit {0}
Timely (Pin n) now = Unit {0}
Timely (ReturnToPinner n) now = Unit {0}
Timely (TakeFromPinner n) now = Unit {0}
Timely Close now = Unit {0}

-- ── An act of it ───────────────────────────────────────────────────────────────────────────────────────────────────────

-- what is known of the ids: that the slots past m are spare, or only that they are if no more than m are taken. Acts that make nothing
-- keep the first; those that make something keep the second; and at the end of a stage no more than m are taken.
abbrev pub Spared : (sure : Bool) → ℕ → List ℕ → Type 0
Spared true m ids = Spare m ids
Spared false m ids = length ids ≡ slot_count → taken ids ≤ m → Spare m ids

unsure : (a : Bool) (m : ℕ) (ids : List ℕ) → Spared a m ids → Spared false m ids
unsure true m ids h = λ l t. h
unsure false m ids h = h

-- one slot is dated anew
put_dated : (g t : ℕ) (ss : List Slot) (i : ℕ) (s : Slot) → Dated g t s → ((j : ℕ) → Dated g t (get_or ss j vacant)) → (j : ℕ) → Dated g t (get_or (set ss i s) j vacant)
put_dated g t ss i s d h j =
    by_eq j i
    (λ e. by_lt i (length ss)
    (λ low. subst (Dated g t) (sym (ap (λ (k : ℕ). get_or (set ss i s) k vacant) e ∙ get_or-set_same ss i s vacant low)) d)
    (λ high. subst (Dated g t) (sym (get_or-eq_default (set ss i s) vacant (rw length-set (omega arith)))) (omega arith, omega arith)))
    (λ n. subst (Dated g t) (sym (get_or-set_other ss i j s vacant n)) (h j))

freed_spare : (m : ℕ) (ids : List ℕ) (i : ℕ) → Spare m ids → Spare m (set ids i 0)
freed_spare m ids i h j k =
    by_eq j i
    (λ e. by_lt i (length ids)
    (λ low. ap (λ (x : ℕ). get_or (set ids i 0) x 0) e ∙ get_or-set_same ids i 0 0 low)
    (λ high. get_or-eq_default (set ids i 0) 0 (rw length-set (omega arith))))
    (λ n. get_or-set_other ids i j 0 0 n ∙ h j k)

-- a new one goes to a slot below m, where no more than m are taken with it
made_spare : (m : ℕ) (ids : List ℕ) (next : ℕ) → Spared false m ids → Spared false m (set ids (vacant_slot ids) next)
made_spare m ids next h l t =
    let i = vacant_slot ids in
    let long : length ids ≡ slot_count = rw length-set at l in
    by_lt i (length ids)
    (λ low j k.
    let same = taken_put ids i next low in
    let was : one (get_or ids i 0) ≡ 0 = ap one (vacant_at ids (omega (arith, long))) ∙ one_zero in
    by_eq j i
    (λ e. by_eq next 0
    (λ z. ap (λ (x : ℕ). get_or (set ids i next) x 0) e ∙ get_or-set_same ids i next 0 low ∙ z)
    (λ some. let below : i < m = vacant_below ids m (omega (arith, same, was, one_pos next (omega (arith, some)), t)) in absurd (omega arith)))
    (λ n. get_or-set_other ids i j next 0 n ∙ h long (omega (arith, same, was, t)) j k))
    (λ high. subst (Spare m) (sym (set_out ids i next high)) (h long (rw (set_out ids i next high) at t)))

pub record Sites (m : ℕ) (a b : Bool) (p : SlotPool) (o : Out SlotPool) : Type 0 where
  pub dates : AllDated p → AllDated o.pool
  pub spares : Spared a m p.ids → Spared b m o.pool.ids

-- what comes before a pool is paused or closed leaves its generation alone
interrupted_same : (timeout : Bool) (p : SlotPool) → (S.interrupted timeout p).pool ≡ p
unfolding S.interrupted when◌then◌else◌
interrupted_same true p = refl
interrupted_same false p = refl

pub cleared_generation : (timeout : Bool) (cause : ℕ) (p : SlotPool) → (S.cleared_ready timeout cause p).pool.generation ≡ p.generation
unfolding S.cleared_ready S.tell_all when◌then◌else◌ ◌>>◌
cleared_generation timeout cause p = go (is_ready p.state)
  where
    go : (b : Bool) → ((when b then emit (PoolCleared timeout cause (p.generation + 1)) >> S.tell_all (Cleared cause) else nothing) p).pool.generation ≡ p.generation
    go true = refl
    go false = refl

pub told_generation : (r : Reply) (p : SlotPool) → (S.tell_all r p).pool.generation ≡ p.generation
unfolding S.tell_all ◌>>◌
told_generation r p = refl

pub close_front_generation : (k : ℕ) (p : SlotPool) → (S.close_front k p).pool.generation ≡ p.generation
unfolding S.close_front S.pop_front S.close_at ◌>>◌
close_front_generation zero p = refl
close_front_generation (suc k) p = close_front_generation k _

not_later : (a b : ℕ) → a ≡ b → a ≤ b
not_later a b e = omega arith

module _ {m : ℕ} where
  sites_then : {a b c : Bool} (x y : Act SlotPool) (p : SlotPool) → Sites m a b p (x p) → Sites m b c (x p).pool (y (x p).pool) → Sites m a c p ((x >> y) p)
  unfolding ◌>>◌
  sites_then x y p f g = record { dates = λ h. g.dates (f.dates h); spares = λ h. g.spares (f.spares h) }

  sites_if : {a b : Bool} (c : Bool) (x y : Act SlotPool) (p : SlotPool) → (c ≡ true → Sites m a b p (x p)) → (c ≡ false → Sites m a b p (y p)) → Sites m a b p ((when c then x else y) p)
  unfolding when◌then◌else◌
  sites_if true x y p f g = f refl
  sites_if false x y p f g = g refl

  -- the slots are left alone
  sites_all : {a : Bool} (p : SlotPool) {r : List Record} → Sites m a a p (record { pool = p; records = r })
  sites_all p = record { dates = λ h. h; spares = λ h. h }

  sites_weak : {a b : Bool} {p : SlotPool} {o : Out SlotPool} → Sites m a b p o → Sites m a false p o
  sites_weak {b = b} {o = o} f = record { dates = f.dates; spares = λ h. unsure b m o.pool.ids (f.spares h) }

  -- ── Parts ──────────────────────────────────────────────────────────────────────────────────────────────────────────────

  close_at_sites : (r : ClosedReason) (i other : ℕ) (p : SlotPool) → Sites m true true p (S.close_at r i other p)
  unfolding S.close_at ◌>>◌
  close_at_sites r i other p = record {
    dates = put_dated p.generation p.clock p.slots i vacant (omega arith, omega arith);
    spares = freed_spare m p.ids i;
  }

  shelve_sites : {a : Bool} (i t : ℕ) (p : SlotPool) → t ≤ p.clock → Sites m a a p (S.shelve i t p)
  unfolding S.shelve
  shelve_sites i t p h = record { dates = λ d. put_dated p.generation p.clock p.slots i _ ((d i).0, h) d; spares = λ k. k }

  set_state_at_sites : {a : Bool} (k i : ℕ) (p : SlotPool) → Sites m a a p (S.set_state_at k i p)
  unfolding S.set_state_at
  set_state_at_sites k i p = record { dates = λ d. put_dated p.generation p.clock p.slots i _ ((d i).0, omega arith) d; spares = λ k. k }

  leave_pending_sites : {a : Bool} (p : SlotPool) → Sites m a a p (S.leave_pending p)
  unfolding S.leave_pending
  leave_pending_sites p = record { dates = λ d. d; spares = λ k. k }

  pop_front_sites : {a : Bool} (p : SlotPool) → Sites m a a p (S.pop_front p)
  unfolding S.pop_front
  pop_front_sites p = record { dates = λ d. d; spares = λ k. k }

  pop_back_sites : {a : Bool} (p : SlotPool) → Sites m a a p (S.pop_back p)
  unfolding S.pop_back
  pop_back_sites p = record { dates = λ d. d; spares = λ k. k }

  dequeue_sites : {a : Bool} (p : SlotPool) → Sites m a a p (S.dequeue p)
  unfolding S.dequeue
  dequeue_sites p = record { dates = λ d. d; spares = λ k. k }

  tell_all_sites : {a : Bool} (r : Reply) (p : SlotPool) → Sites m a a p (S.tell_all r p)
  unfolding S.tell_all ◌>>◌
  tell_all_sites r p = record { dates = λ d. d; spares = λ k. k }

  create_sites : (k : ℕ) (p : SlotPool) → Sites m false false p (S.create_pending_connection k p)
  unfolding S.create_pending_connection ◌>>◌
  create_sites k p = record {
    dates = put_dated p.generation p.clock p.slots (vacant_slot p.ids) (View.new_slot p k) (omega arith, omega arith);
    spares = made_spare m p.ids p.next_id;
  }

  close_perished_sites : (i : ℕ) (p : SlotPool) → Sites m true true p (S.close_perished_at i p)
  unfolding S.close_perished_at
  close_perished_sites i p = close_at_sites _ i _ p

  enter_sites : {a : Bool} (s : PoolState) (g : ℕ) (p : SlotPool) → p.generation ≤ g → Sites m a a p (S.enter s g p)
  unfolding S.enter
  enter_sites s g p h = record { dates = λ d j. (omega (arith, (d j).0), (d j).1); spares = λ k. k }

  -- ── Steps ──────────────────────────────────────────────────────────────────────────────────────────────────────────────

  request_sites : {a : Bool} (n : ℕ) (warm : Bool) (p : SlotPool) → Sites m a a p (S.request n warm p)
  unfolding S.request S.queue ◌>>◌
  request_sites {a} n warm p = go p.state
    where
      go : (q : PoolState) → Sites m a a p ((become (View.with_last_request p n) >> S.queue n warm q) p)
      go New = record { dates = λ d. d; spares = λ k. k }
      go (Paused cause) = record { dates = λ d. d; spares = λ k. k }
      go Ready = record { dates = λ d. d; spares = λ k. k }
      go Closed = record { dates = λ d. d; spares = λ k. k }

  abandon_at_sites : {a : Bool} (k : ℕ) (p : SlotPool) → Sites m a a p (S.abandon_at k p)
  unfolding S.abandon_at
  abandon_at_sites k p = record { dates = λ d. d; spares = λ k. k }

  check_in_at_sites : (i : ℕ) (errored executing : Bool) (t : ℕ) (p : SlotPool) → t ≤ p.clock → Sites m true true p (S.check_in_at i errored executing t p)
  unfolding S.check_in_at
  check_in_at_sites i errored executing t p h =
      sites_if _ _ _ p (λ _. close_at_sites _ i _ p)
      (λ _. sites_then (emit _) _ p (sites_all p)
      (sites_if _ _ _ p (λ _. close_at_sites _ i _ p)
      (λ _. sites_if _ _ _ p (λ _. close_at_sites _ i _ p)
      (λ _. sites_if _ _ _ p (λ _. close_at_sites _ i _ p) (λ _. shelve_sites i t p h)))))

  interrupted_sites : {a : Bool} (timeout : Bool) (p : SlotPool) → Sites m a a p (S.interrupted timeout p)
  unfolding S.interrupted
  interrupted_sites timeout p = sites_if _ _ _ p (λ _. sites_all p) (λ _. sites_all p)

  cleared_ready_sites : {a : Bool} (timeout : Bool) (cause : ℕ) (p : SlotPool) → Sites m a a p (S.cleared_ready timeout cause p)
  unfolding S.cleared_ready
  cleared_ready_sites timeout cause p = sites_if _ _ _ p (λ _. sites_then (emit _) (S.tell_all _) p (sites_all p) (tell_all_sites _ p)) (λ _. sites_all p)

  clear_sites : {a : Bool} (timeout : Bool) (cause : ℕ) (p : SlotPool) → Sites m a a p (S.clear timeout cause p)
  unfolding S.clear
  clear_sites {a} timeout cause p =
      let q = (S.interrupted timeout p).pool in
      sites_then (S.interrupted timeout) _ p (interrupted_sites timeout p)
      (sites_then (S.cleared_ready timeout cause) _ q (cleared_ready_sites timeout cause q)
      (enter_sites _ _ _ (omega (arith, cleared_generation timeout cause q, ap (λ (x : SlotPool). x.generation) (interrupted_same timeout p)))))

  mark_as_ready_sites : {a : Bool} (p : SlotPool) → Sites m a a p (S.mark_as_ready p)
  unfolding S.mark_as_ready
  mark_as_ready_sites p = sites_if _ _ _ p (λ _. sites_all p) (λ _. sites_then (emit _) (S.enter _ _) p (sites_all p) (enter_sites _ _ p (omega arith)))

  succeeded_at_sites : {a : Bool} (i : ℕ) (p : SlotPool) → Sites m a a p (S.succeeded_at i p)
  unfolding S.succeeded_at
  succeeded_at_sites i p = sites_then (emit _) _ p (sites_all p) (sites_then S.leave_pending _ p (leave_pending_sites p) (set_state_at_sites 2 i _))

  succeeded_for_pool_at_sites : (i opened : ℕ) (p : SlotPool) → opened ≤ p.clock → Sites m true true p (S.succeeded_for_pool_at i opened p)
  unfolding S.succeeded_for_pool_at S.leave_pending
  succeeded_for_pool_at_sites i opened p h =
      sites_then (emit _) _ p (sites_all p) (sites_then S.leave_pending _ p (leave_pending_sites p) (sites_if _ _ _ _ (λ _. close_at_sites _ i _ _) (λ _. shelve_sites i opened _ h)))

  failed_at_sites : (i : ℕ) (p : SlotPool) → Sites m true true p (S.failed_at i p)
  unfolding S.failed_at
  failed_at_sites i p = sites_then S.leave_pending _ p (leave_pending_sites p) (close_at_sites _ i _ _)

  prune_sites : (k : ℕ) (p : SlotPool) → Sites m true true p (S.prune k p)
  unfolding S.prune
  prune_sites zero p = sites_all p
  prune_sites (suc k) p =
      sites_if _ _ _ p
      (λ _. sites_then S.pop_front _ p (pop_front_sites p) (sites_then (S.close_perished_at _) (S.prune k) _ (close_perished_sites _ _) (prune_sites k _)))
      (λ _. sites_all p)

  fill_up_sites : (k : ℕ) (p : SlotPool) → Sites m false false p (S.fill_up k p)
  unfolding S.fill_up
  fill_up_sites zero p = sites_all p
  fill_up_sites (suc k) p =
      sites_if _ _ _ p
      (λ _. sites_then (S.create_pending_connection S.background_no) (S.fill_up k) p (create_sites S.background_no p) (fill_up_sites k _))
      (λ _. sites_all p)

  maintenance_sites : (p : SlotPool) → Sites m true false p (S.maintenance p)
  unfolding S.maintenance S.remove_perished S.ensure_min_connections
  maintenance_sites p =
      sites_then S.remove_perished S.ensure_min_connections p (sites_weak (prune_sites p.availables p))
      (sites_if _ _ _ _ (λ _. fill_up_sites _ _) (λ _. sites_all _))

  close_front_sites : (k : ℕ) (p : SlotPool) → Sites m true true p (S.close_front k p)
  unfolding S.close_front
  close_front_sites zero p = sites_all p
  close_front_sites (suc k) p =
      sites_then S.pop_front _ p (pop_front_sites p) (sites_then (S.close_at _ _ _) (S.close_front k) _ (close_at_sites _ _ _ _) (close_front_sites k _))

  shut_sites : (p : SlotPool) → Sites m true true p (S.shut p)
  unfolding S.shut
  shut_sites p =
      sites_then (S.close_front p.availables) _ p (close_front_sites p.availables p)
      (sites_then (S.tell_all _) _ _ (tell_all_sites _ _)
      (sites_then (emit _) (S.enter _ _) _ (sites_all _) (enter_sites _ _ _ (not_later _ _ (told_generation _ _ ∙ close_front_generation p.availables p)))))

  -- ── Stages ─────────────────────────────────────────────────────────────────────────────────────────────────────────────

  pub handle_sites : (e : Event) (i : ℕ) (p : SlotPool) → Timely e p.clock → Sites m true false p (S.handle e i p)
  unfolding S.handle
  handle_sites (CheckOut n) i p h = sites_weak (request_sites n false p)
  handle_sites (WarmPool n) i p h = sites_weak (request_sites n true p)
  handle_sites (Abandon n) i p h = sites_weak (abandon_at_sites i p)
  handle_sites (CheckIn n errored executing let_go) i p h = sites_weak (check_in_at_sites i errored executing let_go p h)
  handle_sites (Clear timeout cause) i p h = sites_weak (clear_sites timeout cause p)
  handle_sites MarkAsReady i p h = sites_weak (mark_as_ready_sites p)
  handle_sites (Succeeded n) i p h = sites_weak (succeeded_at_sites i p)
  handle_sites (SucceededForPool n opened) i p h = sites_weak (succeeded_for_pool_at_sites i opened p h)
  handle_sites (Failed n) i p h = sites_weak (failed_at_sites i p)
  handle_sites Maintenance i p h = maintenance_sites p
  handle_sites FillPool i p h = sites_weak (sites_all p)
  handle_sites (Pin n) i p h = sites_weak (set_state_at_sites S.in_use_no i p)
  handle_sites (ReturnToPinner n) i p h = sites_weak (set_state_at_sites S.returned_no i p)
  handle_sites (TakeFromPinner n) i p h = sites_weak (set_state_at_sites S.in_use_no i p)
  handle_sites Close i p h = sites_weak (shut_sites p)

  establish_sites : (w : Waiter) (p : SlotPool) → Sites m false false p (S.establish w p)
  unfolding S.establish
  establish_sites w p = sites_then (S.create_pending_connection S.request_no) _ p (create_sites S.request_no p) (sites_all _)

  lend_sites : (w : Waiter) (i : ℕ) (p : SlotPool) → Sites m true false p (S.lend w i p)
  unfolding S.lend
  lend_sites w i p = sites_weak (sites_then (emit _) _ p (sites_all p) (sites_if _ _ _ p (λ _. shelve_sites i _ p (omega arith)) (λ _. set_state_at_sites 2 i p)))

  sites_unsure : {b : Bool} {p : SlotPool} {o : Out SlotPool} → Sites m false b p o → Sites m true b p o
  sites_unsure {p = p} f = record { dates = f.dates; spares = λ h. f.spares (unsure true m p.ids h) }

  take_from_sites : (k : ℕ) (w : Waiter) (p : SlotPool) → Sites m true false p (S.take_from k w p)
  unfolding S.take_from
  take_from_sites zero w p = sites_unsure (establish_sites w p)
  take_from_sites (suc k) w p =
      sites_then S.pop_back _ p (pop_back_sites p)
      (sites_if _ _ _ _ (λ _. sites_then (S.close_perished_at _) (S.take_from k w) _ (close_perished_sites _ _) (take_from_sites k w _)) (λ _. lend_sites w _ _))

  check_out_sites : (w : Waiter) (p : SlotPool) → Sites m true false p (S.check_out w p)
  unfolding S.check_out
  check_out_sites w p =
      sites_if _ _ _ p (λ _. sites_if _ _ _ p (λ _. sites_weak (sites_all p)) (λ _. sites_unsure (establish_sites w p))) (λ _. take_from_sites _ w p)

  service_sites : (p : SlotPool) → Sites m true false p (S.service p)
  unfolding S.service S.serve_front
  service_sites p =
      sites_if _ _ _ p
      (λ _. sites_if _ _ _ p (λ _. sites_weak (sites_all p)) (λ _. sites_then S.dequeue _ p (dequeue_sites p) (check_out_sites _ _)))
      (λ _. sites_weak (sites_all p))

  pub serviced_sites : (b : Bool) (p : SlotPool) → Sites m true false p ((when b then S.service else nothing) p)
  serviced_sites b p = sites_if b S.service nothing p (λ _. service_sites p) (λ _. sites_weak (sites_all p))
