-- The service stage.
use Rattle.std.specs.Prelude.{◌≡◌, Bool, ◌&&◌, ◌||◌, length, get_or, take}
use Rattle.std.proofs.Math.Path.{refl, subst}
use Rattle.std.proofs.Common.{ap, sym, ◌∙◌, leb-false, eq-eqb, ne_eqb, lt-ltb}
use mathlib.Core.List.{List, [], ◌∷◌, map, reverse, reverse-cons, reverse-reverse}
use Prim.Native.Nat.{ℕ, zero, suc, ◌-◌, ◌<◌}
use native.Mathlib.Omega.{arith}
use Rattle.std.proofs.lemmas.List.{length-reverse}
use Rattle.definition.specs.Booleans.{by_eq}
use Rattle.definition.specs.Words.{when◌then◌else◌, ◌<?◌, ◌≤?◌, ◌=?◌, ◌∷ʳ◌, some?}
use Rattle.definition.specs.Pool as P
use Rattle.definition.specs.Pool.{slot_count, Pool, Conn, Waiter, is_ready, total}
use Rattle.definition.specs.Records.{told}
use Rattle.definition.specs.declared.Reply.TheVariants.{Pooled, Establishing, Warmed}
use Rattle.definition.specs.Steps as D
use Rattle.definition.specs.Steps.{nothing, emit, become}
use Rattle.definition.specs.declared.Options.{Options}
use Rattle.definition.specs.declared.PoolState.{PoolState}
use Rattle.definition.specs.declared.Purpose.TheVariants.{Request}
use Rattle.slots.specs.Order.{shifted}
use Rattle.slots.specs.View.{SlotPool, waiter_of}
use Rattle.slots.specs.View as View
use Rattle.slots.specs.Slots as S
use Rattle.slots.specs.StepLaws.{room_to_create}
use Rattle.refinement.specs.Stands.{Stands, Same}
use Rattle.refinement.proofs.Transit.{counted, at_most}
use Rattle.refinement.specs.Queue.{others}
use Rattle.refinement.proofs.Queue.{queue_front, queue_left}
use Rattle.refinement.specs.Acts.{Transit, Is}
use Rattle.refinement.proofs.Acts.{same_nothing, same_emit, same_then, same_said, same_if, shelve_same, lend_out_same, create_same}
use Rattle.refinement.specs.Alike.{Queue}
use Rattle.refinement.proofs.Alike.{alike_queue}
use Rattle.refinement.specs.Walks.{shown}
use Rattle.refinement.proofs.Walks.{back_shown, back_transit, perished_same, close_perished_same, close_counts, back_counts}

pub establish_same : (w : Waiter) (p : SlotPool) (m : Pool) → Stands p m → p.total < slot_count → Same (S.establish w p) (D.establish w m)
unfolding S.establish D.establish
establish_same w p m st h =
    let c = create_same Request p m st h in
    same_then (S.create_pending_connection S.request_no) (emit (told (Establishing p.next_id) w)) (D.create_pending_connection Request) (emit (told (Establishing m.next_id) w)) p m c
    (same_emit (told (Establishing p.next_id) w) (told (Establishing m.next_id) w) _ _ (ap (λ (x : ℕ). told (Establishing x) w) st.alike.next_id) c.stands)

pub lend_same : (w : Waiter) (i : ℕ) (c : Conn) (p : SlotPool) (m : Pool) → Transit p m i → shown p i ≡ c → Same (S.lend w i p) (D.lend w c m)
unfolding S.lend D.lend
lend_same w i c p m tr e =
    let is : Is p i c = λ q t. ap (P.with_state q t) (sym e) in
    same_said (emit (told (Pooled (View.id_at p i)) w)) _ (emit (told (Pooled c.id) w)) _ p m (ap (λ (x : Conn). told (Pooled x.id) w ∷ []) e)
    (same_if _ _ _ _ p m refl
    (λ _. subst (λ (x : ℕ). Same (S.shelve i p.clock p) (D.shelve c x m)) tr.alike.clock (shelve_same i p.clock c p m tr is))
    (λ _. lend_out_same i c p m tr is))

-- of the available, from the back
pub take_from_same : (w : Waiter) (k : ℕ) (l : List Conn) (p : SlotPool) (m : Pool) → Stands p m → m.available ≡ reverse l → k ≡ p.availables → (k ≡ 0 → p.total < slot_count) → Same (S.take_from k w p) (D.take_available w l m)
unfolding S.take_from D.take_available D.close_perished S.pop_back
take_from_same w zero [] p m st e n z = establish_same w p m st (z refl)
take_from_same w zero (c ∷ cs) p m st e n z = absurd (omega (arith, counted st.table, ap length e, length-reverse (c ∷ cs)))
take_from_same w (suc k) [] p m st e n z = absurd (omega (arith, counted st.table, ap length e))
take_from_same w (suc k) (c ∷ cs) p m st e n z =
    let i = get_or p.available k 0 in
    let e' : m.available ≡ reverse cs ∷ʳ c = e ∙ reverse-cons c cs in
    let sh = back_shown p m c (reverse cs) k st n e' in
    let tr = back_transit p m c (reverse cs) k st n e' in
    let cl = close_perished_same i c (S.pop_back p).pool (P.with_available m (reverse cs)) tr sh in
    let cc1 = close_counts i (S.pop_back p).pool in
    let bc = back_counts p in
    same_said S.pop_back _ (become (P.with_available m (reverse cs))) _ p m refl
    (same_if _ _ _ _ _ _ (perished_same st.alike i c sh)
    (λ _. same_then (S.close_perished_at i) (S.take_from k w) (D.close_perished c) (D.take_available w cs) _ _ cl
    (take_from_same w k cs _ _ cl.stands refl (omega (arith, cc1.0, bc.0)) (λ _. omega (arith, cc1.1, bc.1, at_most st.table, st.table.total, counted st.table))))
    (λ _. lend_same w i c _ _ tr sh))

-- where none is available there is room for one more, and so there is below the minimum
pub check_out_same : (w : Waiter) (p : SlotPool) (m : Pool) → Stands p m → (p.availables ≡ 0 → p.total < slot_count) → Same (S.check_out w p) (D.check_out w m)
unfolding S.check_out D.check_out
check_out_same w p m st z =
    let e : (p.options.minimum ≤? p.total) ≡ (m.options.minimum ≤? total m) = ap (λ (x : Options). x.minimum ≤? p.total) st.alike.options ∙ ap (λ (x : ℕ). m.options.minimum ≤? x) st.table.total in
    same_if _ _ _ _ p m refl
    (λ _. same_if _ _ _ _ p m e (λ _. same_emit (told Warmed w) (told Warmed w) p m refl st)
    (λ h. establish_same w p m st (omega (arith, leb-false p.options.minimum p.total h, st.alike.limits))))
    (λ _. take_from_same w p.availables (reverse m.available) p m st (sym (reverse-reverse m.available)) refl z)

module _ (p : SlotPool) (m : Pool) (st : Stands p m) (k : ℕ) (n : suc k ≡ p.waitings) where
  queue_of : Queue p.waiters (suc k) p.last_request m.waiting
  queue_of = subst (λ (x : ℕ). Queue p.waiters x p.last_request m.waiting) (sym n) st.alike.queue

  -- the front waiter has left
  pub dequeued : Stands (S.dequeue p).pool (P.with_waiting m (others p.waiters k))
  unfolding S.dequeue
  dequeued = record {
    alike = alike_queue st.alike (subst (λ (x : ℕ). Queue (shifted x p.waiters) (x - 1) p.last_request (others p.waiters k)) n (let e : suc k - 1 ≡ k = omega arith in rw e (queue_left queue_of)));
    table = st.table;
  }

  pub serve_front_same : (p.availables ≡ 0 → p.total < slot_count) → Same (S.serve_front p) (D.serve_front m.waiting m)
  unfolding S.serve_front D.serve_front S.dequeue
  serve_front_same z =
      subst (λ (l : List Waiter). Same (S.serve_front p) (D.serve_front l m)) (sym (queue_front queue_of))
      (same_said S.dequeue _ (become (P.with_waiting m (others p.waiters k))) _ p m refl (check_out_same (waiter_of (get_or p.waiters 0 0)) _ _ dequeued z))

some_length : (l : List Conn) → some? l ≡ (0 <? length l)
some_length [] = refl
some_length (c ∷ l) = sym (lt-ltb 0 (suc (length l)) (omega arith))

pub can_service_same : {p : SlotPool} {m : Pool} → Stands p m → S.can_service p ≡ D.can_service m
unfolding S.can_service_at D.can_service
can_service_same {p} {m} st =
    ap (λ (x : PoolState). is_ready x && (0 <? p.availables || p.total <? p.options.maximum && p.pendings <? p.options.connecting)) st.alike.state
    ∙ ap (λ (x : ℕ). is_ready m.state && (0 <? x || p.total <? p.options.maximum && p.pendings <? p.options.connecting)) (sym (counted st.table))
    ∙ ap (λ (x : Bool). is_ready m.state && (x || p.total <? p.options.maximum && p.pendings <? p.options.connecting)) (sym (some_length m.available))
    ∙ ap (λ (x : Options). is_ready m.state && (some? m.available || p.total <? x.maximum && p.pendings <? x.connecting)) st.alike.options
    ∙ ap (λ (x : ℕ). is_ready m.state && (some? m.available || x <? m.options.maximum && p.pendings <? m.options.connecting)) st.table.total
    ∙ ap (λ (x : ℕ). is_ready m.state && (some? m.available || total m <? m.options.maximum && x <? m.options.connecting)) st.table.pendings

waiting_none : {p : SlotPool} {m : Pool} → Stands p m → p.waitings ≡ 0 → m.waiting ≡ []
waiting_none {p} st z = sym st.alike.queue.waits ∙ ap (λ (x : ℕ). map waiter_of (take x p.waiters)) z

-- the front waiter, if there is one
front_same : (p : SlotPool) (m : Pool) → Stands p m → (p.availables ≡ 0 → p.total < slot_count) → Same ((when p.waitings =? 0 then nothing else S.serve_front) p) (D.serve_front m.waiting m)
unfolding when◌then◌else◌ D.serve_front
front_same p m st z =
    by_eq p.waitings 0
    (λ e. rw (eq-eqb p.waitings 0 e) (subst (λ (l : List Waiter). Same (nothing p) (D.serve_front l m)) (sym (waiting_none st e)) (same_nothing st)))
    (λ d. rw (ne_eqb p.waitings 0 d) (serve_front_same p m st (p.waitings - 1) (omega arith) z))

pub service_same : (p : SlotPool) (m : Pool) → Stands p m → Same (S.service p) (D.service m)
unfolding S.service D.service
service_same p m st =
    same_if _ _ _ _ p m (can_service_same st)
    (λ h. front_same p m st (λ e. omega (arith, room_to_create p h e, st.alike.limits)))
    (λ _. same_nothing st)
