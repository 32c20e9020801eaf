-- The steps that name one connection or one waiter, and those that name none.
use Rattle.std.specs.Prelude.{◌≡◌, Bool, true, false, List, [], ◌∷◌, ◌++◌, map, ℕ, ◌+◌, ◌/◌, ◌%◌, ◌<◌, length, get_or}
use Rattle.std.proofs.Math.Path.{refl}
use Rattle.std.proofs.Common.{ap, subst, arith}
use Rattle.definition.specs.Words.{when◌then◌else◌}
use Rattle.definition.specs.Pool as P
use Rattle.definition.specs.Pool.{queue_length, slot_count, Pool, Waiter, is_ready, is_closed, find}
use Rattle.definition.specs.Records.{told}
use Rattle.definition.specs.declared.Record.TheVariants.{ConnectionReady, ConnectionCheckedIn, PoolReady, PoolCleared, Interrupt}
use Rattle.definition.specs.declared.Reply.{Reply}
use Rattle.definition.specs.declared.Reply.TheVariants.{Cleared}
use Rattle.definition.specs.Steps as D
use Rattle.definition.specs.Steps.{nothing, emit, become, ◌>>◌}
use Rattle.definition.specs.declared.ClosedReason.TheVariants.{Stale, Error, Dropped, PoolClosed}
use Rattle.definition.specs.declared.PoolState.{PoolState}
use Rattle.definition.specs.declared.PoolState.TheVariants.{New, Paused, Ready, Closed}
use Rattle.slots.specs.View.{SlotPool}
use Rattle.slots.specs.View as View
use Rattle.slots.specs.Slots as S
use Rattle.refinement.specs.Mirror.{is_lent, is_pending}
use Rattle.refinement.proofs.Alike.{alike_status, alike_queue, alike_request}
use Rattle.refinement.specs.Stands.{Stands, Same}
use Rattle.refinement.proofs.Transit.{counted}
use Rattle.refinement.proofs.Queue.{queue_emptied, queue_joined, queue_later, queue_marked}
use Rattle.refinement.specs.Acts.{Transit}
use Rattle.refinement.proofs.Acts.{same_nothing, same_emit, same_then, same_said, same_silent, same_if, is_stale, close_at_same, shelve_same, lend_out_same, lent_transit, lent_is, pending_transit, pending_is}

-- ── The queue and the mode change ──────────────────────────────────────────────────────────────────────────────────────

pub enter_same : (s : PoolState) (g g' : ℕ) (p : SlotPool) (m : Pool) → g ≡ g' → Stands p m → Same (S.enter s g p) (D.enter s g' m)
unfolding S.enter D.enter
enter_same s g g' p m e st = record { records = refl; stands = record { alike = alike_status st.alike s g g' e; table = st.table } }

pub tell_all_same : (r : Reply) (p : SlotPool) (m : Pool) → Stands p m → Same (S.tell_all r p) (D.tell_all r m)
unfolding S.tell_all D.tell_all ◌>>◌
tell_all_same r p m st = record {
  records = ap (λ (l : List Waiter). map (told r) l ++ []) st.alike.queue.waits;
  stands = record { alike = alike_queue st.alike (queue_emptied st.alike.queue); table = st.table };
}

pub request_same : (n : ℕ) (warm : Bool) (p : SlotPool) (m : Pool) → Stands p m → p.last_request < n → p.waitings < queue_length → Same (S.request n warm p) (D.request n warm m)
unfolding S.request D.request S.queue D.queue ◌>>◌
request_same n warm p m st h g =
    subst (λ (s : PoolState). Same ((become (View.with_last_request p n) >> S.queue n warm p.state) p) ((become (P.with_last_request m n) >> D.queue n warm s) m)) st.alike.state (go p.state)
  where
    later : Stands (View.with_last_request p n) (P.with_last_request m n)
    later = record { alike = alike_request st.alike n (queue_later st.alike.queue n (omega arith)); table = st.table }

    go : (s : PoolState) → Same ((become (View.with_last_request p n) >> S.queue n warm s) p) ((become (P.with_last_request m n) >> D.queue n warm s) m)
    go New = record { records = refl; stands = later }
    go (Paused cause) = record { records = refl; stands = later }
    go Ready = record { records = refl; stands = record { alike = alike_request st.alike n (queue_joined st.alike.queue n warm g h); table = st.table } }
    go Closed = record { records = refl; stands = later }

pub abandon_same : (k n : ℕ) (p : SlotPool) (m : Pool) → Stands p m → k < p.waitings → get_or p.waiters k 0 / 4 ≡ n → get_or p.waiters k 0 % 4 < 2 → Same (S.abandon_at k p) (D.abandon n m)
unfolding S.abandon_at D.abandon
abandon_same k n p m st h e g = record { records = refl; stands = record { alike = alike_queue st.alike (queue_marked st.alike.queue n k h e g); table = st.table } }

-- all that are neither available nor pending are lent
lents_same : {p : SlotPool} {m : Pool} → Stands p m → S.lents p ≡ length m.lent
lents_same st = omega (arith, st.table.total, st.table.pendings, counted st.table)

-- all but the interrupt
cleared_same : (timeout : Bool) (cause : ℕ) (p : SlotPool) (m : Pool) → Stands p m
    → Same ((S.cleared_ready timeout cause >> S.enter (Paused cause) (p.generation + 1)) p)
    (((when is_ready m.state then emit (PoolCleared timeout cause (m.generation + 1)) >> D.tell_all (Cleared cause) else nothing) >> D.enter (Paused cause) (m.generation + 1)) m)
unfolding S.cleared_ready
cleared_same timeout cause p m st =
    let g : p.generation + 1 ≡ m.generation + 1 = ap (λ (x : ℕ). x + 1) st.alike.generation in
    let said = PoolCleared timeout cause (p.generation + 1) in
    let said' = PoolCleared timeout cause (m.generation + 1) in
    let all : Same (S.cleared_ready timeout cause p) ((when is_ready m.state then emit said' >> D.tell_all (Cleared cause) else nothing) m) = same_if _ _ _ _ p m (ap is_ready st.alike.state)
    (λ _. same_then (emit said) (S.tell_all (Cleared cause)) (emit said') (D.tell_all (Cleared cause)) p m (same_emit said said' p m (ap (λ (x : ℕ). PoolCleared timeout cause x) g) st) (tell_all_same (Cleared cause) p m st))
    (λ _. same_nothing st) in
    same_then (S.cleared_ready timeout cause) (S.enter (Paused cause) (p.generation + 1)) _ (D.enter (Paused cause) (m.generation + 1)) p m all (enter_same (Paused cause) (p.generation + 1) (m.generation + 1) _ _ g all.stands)

pub clear_same : (timeout : Bool) (cause : ℕ) (p : SlotPool) (m : Pool) → Stands p m → Same (S.clear timeout cause p) (D.clear timeout cause m)
unfolding S.clear S.interrupted D.clear when◌then◌else◌
clear_same true cause p m st = same_said (S.interrupted true) _ (emit (Interrupt (length m.lent))) _ p m (ap (λ (x : ℕ). Interrupt x ∷ []) (lents_same st)) (cleared_same true cause p m st)
clear_same false cause p m st = same_said (S.interrupted false) _ nothing _ p m refl (cleared_same false cause p m st)

pub mark_as_ready_same : (p : SlotPool) (m : Pool) → Stands p m → Same (S.mark_as_ready p) (D.mark_as_ready m)
unfolding S.mark_as_ready D.mark_as_ready
mark_as_ready_same p m st =
    same_if _ _ _ _ p m (ap is_ready st.alike.state)
    (λ _. same_nothing st)
    (λ _. same_then (emit PoolReady) (S.enter Ready p.generation) (emit PoolReady) (D.enter Ready m.generation) p m (same_emit PoolReady PoolReady p m refl st)
    (enter_same Ready p.generation m.generation p m st.alike.generation st))

-- ── One connection ─────────────────────────────────────────────────────────────────────────────────────────────────────

module _ (i : ℕ) (p : SlotPool) (m : Pool) (st : Stands p m) (low : i < slot_count) where
  abbrev n : ℕ
  n = View.id_at p i

  pub check_in_same : (errored executing : Bool) (t : ℕ) → is_lent (View.slot_at p i).state ≡ true → Same (S.check_in_at i errored executing t p) (D.check_in n errored executing t m)
  unfolding S.check_in_at D.check_in D.leave_lent
  check_in_same errored executing t h =
      let q : Pool = (D.leave_lent n m).pool in
      let tr : Transit p q i = lent_transit st i low h in
      let is = lent_is st i low h in
      let old = is_stale i (find n m.lent) st.alike is in
      same_silent (D.leave_lent n) _ m refl
      (same_if _ _ _ _ p q (ap is_closed st.alike.state)
      (λ _. close_at_same PoolClosed i n 0 p q tr refl)
      (λ _. same_said (emit (ConnectionCheckedIn n)) _ (emit (ConnectionCheckedIn n)) _ p q refl
      (same_if _ _ _ _ p q refl
      (λ _. close_at_same Error i n 0 p q tr refl)
      (λ _. same_if _ _ _ _ p q old
      (λ _. close_at_same Stale i n 0 p q tr refl)
      (λ _. same_if _ _ _ _ p q refl
      (λ _. close_at_same Dropped i n 0 p q tr refl)
      (λ _. shelve_same i t (find n m.lent) p q tr is))))))

  module _ (h : is_pending (View.slot_at p i).state ≡ true) where
    pub succeeded_same : Same (S.succeeded_at i p) (D.succeeded n m)
    unfolding S.succeeded_at D.succeeded S.leave_pending D.leave_pending
    succeeded_same =
        same_said (emit (ConnectionReady n)) _ (emit (ConnectionReady n)) _ p m refl
        (same_said S.leave_pending _ (D.leave_pending n) _ p m refl
        (lend_out_same i (find n m.pending) _ _ (pending_transit st i low h) (pending_is st i low h)))

    pub succeeded_for_pool_same : (opened : ℕ) → Same (S.succeeded_for_pool_at i opened p) (D.succeeded_for_pool n opened m)
    unfolding S.succeeded_for_pool_at D.succeeded_for_pool S.leave_pending D.leave_pending
    succeeded_for_pool_same opened =
        let tr = pending_transit st i low h in
        same_said (emit (ConnectionReady n)) _ (emit (ConnectionReady n)) _ p m refl
        (same_said S.leave_pending _ (D.leave_pending n) _ p m refl
        (same_if _ _ _ _ _ _ (ap is_closed st.alike.state)
        (λ _. close_at_same PoolClosed i n 0 _ _ tr refl)
        (λ _. shelve_same i opened (find n m.pending) _ _ tr (pending_is st i low h))))

    pub failed_same : Same (S.failed_at i p) (D.failed n m)
    unfolding S.failed_at D.failed S.leave_pending D.leave_pending
    failed_same = same_said S.leave_pending _ (D.leave_pending n) _ p m refl (close_at_same Error i n 0 _ _ (pending_transit st i low h) refl)
