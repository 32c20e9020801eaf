-- The tests agree: a pool on slots refuses what the lists that it stands for refuse, and where neither does, the event fits.
use Rattle.std.proofs.Math.Path.{◌≡◌, refl}
use Rattle.std.proofs.Common.{ap, sym, subst, ◌∙◌, true≢false, arith}
use Rattle.std.specs.Prelude.{Bool, true, false, ◌&&◌, ◌||◌, List, [], ◌∷◌, ℕ, ◌≤◌, ◌<◌, ◌/◌, length}
use Rattle.std.proofs.lemmas.Bool.{false≢true}
use Rattle.std.proofs.Math.Bool.{not}
use Rattle.std.specs.Prelude.{Option, None as none, Some as some}
use Rattle.std.proofs.Math.ListN.{get_or-eq_default}
use borrow.Author.Tests.{eqb-true, ne_eqb, leb-false, ltb-true, ltb-false, not-false}
use Rattle.definition.specs.Booleans.{by_bool, by_eq, by_lt, and_left, and_right, or_left}
use Rattle.definition.specs.Laws.{not_first}
use Rattle.definition.specs.Words.{when◌then◌else◌, ◌<?◌, ◌≤?◌, ◌=?◌}
use Rattle.definition.specs.Pool as P
use Rattle.definition.specs.Pool.{queue_length, slot_count, Pool, Conn, is_closed, has, has_in, find, state_no}
use Rattle.definition.specs.Steps.{kind_no, ◌to◌holds◌}
use Rattle.definition.specs.Refusals as R
use Rattle.definition.specs.Refusals.{Test, ◌if◌, first, wrong_time, causeless, taken_after_close, last_next_id, last_generation}
use Rattle.definition.specs.declared.Event.{Event}
use Rattle.definition.specs.declared.Event.TheVariants.{CheckOut, WarmPool, Abandon, CheckIn, Clear, MarkAsReady, Succeeded, SucceededForPool, Failed, Maintenance, FillPool, Pin, ReturnToPinner, TakeFromPinner, Close}
use Rattle.definition.specs.declared.PoolState.{PoolState}
use Rattle.definition.specs.declared.Refusal.{Refusal}
use Rattle.definition.specs.declared.Refusal.TheVariants.{Malformed, ClockBack, AfterClose, NumbersSpent, OldRequest, QueueFull, WrongState, WrongTime, NotWaiting, AlreadyPinned}
use Rattle.slots.specs.OrderLaws.{place_found}
use Rattle.slots.specs.Finding.{holding_at, holding_none}
use Rattle.slots.specs.View.{SlotPool, Slot, vacant}
use Rattle.slots.specs.View as View
use Rattle.slots.specs.Call as C
use Rattle.std.specs.declared.result.Result.TheVariants.{Ok}
use Rattle.slots.specs.Call.{slot_of, waiter_of?, state_of, time_of, target}
use Rattle.refinement.specs.Table.{look_at, look_none, cell, lookup, has_it, has_not}
use Rattle.refinement.specs.Agree.{Class, Agrees, only, only_out, only_none}
use Rattle.refinement.specs.Mirror.{is_lent, is_pending, lengths, in_ids}
use Rattle.refinement.specs.Sites.{Timely}
use Rattle.refinement.specs.Stands.{Stands}
use Rattle.refinement.specs.Order.{within, holds_in, holds_below, holds_above}
use Rattle.refinement.proofs.Transit.{seen}
use Rattle.refinement.proofs.Queue.{waiters_counted, waits_same}
use Rattle.refinement.specs.Events.{Holds, New, Fit}
use Rattle.refinement.specs.Tests.{Passed}

-- ── Tables of tests ────────────────────────────────────────────────────────────────────────────────────────────────────

-- the first tests agree, and where they do not hold, the others do
first_same : (r : Refusal) (b b' : Bool) (ts us : List Test) → b ≡ b' → (b ≡ false → first ts ≡ first us) → first ((r if b) ∷ ts) ≡ first ((r if b') ∷ us)
unfolding first when◌then◌else◌
first_same r true true ts us e f = refl
first_same r false false ts us e f = f refl
first_same r true false ts us e f = absurd (true≢false e)
first_same r false true ts us e f = absurd (false≢true e)

-- ── A connection by its number ─────────────────────────────────────────────────────────────────────────────────────────

module _ {p : SlotPool} {m : Pool} (st : Stands p m) (n : ℕ) (t : Class) (never : t 0 ≡ false) {l : List Conn} (a : Agrees t p.ids p.slots l) where
  abbrev i : ℕ
  i = slot_of p n

  -- found in a state of the class
  pub found : t (state_of p n) ≡ true → Holds t n p i
  found h = record { slot = low; id = holding_at p.ids n low; state = h }
    where
      low : i < slot_count
      low =
          by_lt i slot_count (λ g. g)
          (λ g. absurd (false≢true (sym never ∙ ap (λ (x : Slot). t x.state) (sym (get_or-eq_default p.slots vacant (omega (arith, st.table.mirror.long_slots)))) ∙ h)))

  pub there : t (state_of p n) ≡ true → (has n l ≡ true) × (cell (find n l) ≡ View.slot_at p i)
  there h =
      let f = found h in
      has_it n l (View.slot_at p i) (subst (λ (x : ℕ). lookup x l ≡ some (View.slot_at p i)) f.id (seen st.table i f.slot t never h a))

  pub absent : t (state_of p n) ≡ false → has n l ≡ false
  absent h = has_not n l (by_eq n 0
      (λ e. ap (λ (x : ℕ). lookup x l) e ∙ a.named)
      (λ d. let z : 0 < n = omega (arith, d) in
      sym (a.finds n z) ∙ by_lt i slot_count
      (λ g. ap (only t) (look_at n i p.ids p.slots (lengths st.table.mirror i g) st.table.mirror.unique (in_ids st.table.mirror i g) z (holding_at p.ids n g)) ∙ only_out t (View.slot_at p i) h)
      (λ g. ap (only t) (look_none n p.ids p.slots (λ j k. holding_none p.ids n g j (omega (arith, st.table.mirror.long_ids)))) ∙ only_none t)))

  pub has_same : t (state_of p n) ≡ has n l
  has_same = by_bool (t (state_of p n)) (λ h. h ∙ sym (there h).0) (λ h. h ∙ sym (absent h))

  pub has_in_same : (f : Class) → ((k : ℕ) → f k ≡ true → t k ≡ true) → f (state_of p n) ≡ has_in (λ s. f (state_no s)) n l
  has_in_same f sub =
      by_bool (t (state_of p n))
      (λ h. rw (there h).0 (ap (λ (x : Slot). f x.state) (sym (there h).1)))
      (λ h. rw (absent h) (by_bool (f (state_of p n)) (λ g. absurd (true≢false (sym (sub (state_of p n) g) ∙ h))) (λ g. g)))

  pub time_same : t (state_of p n) ≡ true → time_of p n ≡ (find n l).time
  time_same h = ap (λ (x : Slot). x.time) (sym (there h).1)

-- ── The kinds of event ─────────────────────────────────────────────────────────────────────────────────────────────────

abbrev pinned_no : Class
pinned_no k = k =? 3 || k =? 4

pinned_range : (k : ℕ) → (3 to 4 holds k) ≡ pinned_no k
pinned_range k =
    by_eq k 3 (λ e. rw e) (λ d. by_eq k 4 (λ e. rw e)
    (λ c. rw (ne_eqb k 3 d, ne_eqb k 4 c) (by_lt k 3 (λ h. holds_below 3 4 k h) (λ h. holds_above 3 4 k (omega (arith, d, c))))))

-- a number is of a class
is_in : (a b v k : ℕ) → a ≤ v → v ≤ b → (k =? v) ≡ true → (a to b holds k) ≡ true
is_in a b v k g h e = holds_in a b k (omega (arith, eqb-true k v e)) (omega (arith, eqb-true k v e))

pinned_lent : (k : ℕ) → (3 to 4 holds k) ≡ true → is_lent k ≡ true
pinned_lent k h = let w = within 3 4 k h in holds_in 2 4 k (omega arith) (omega arith)

-- the definition's tests of an event, the room for records apart
abbrev pub event_tests : Pool → Event → ℕ → List Test
event_tests m e now =
    (Malformed if causeless e) ∷ (ClockBack if now <? m.clock) ∷ (AfterClose if is_closed m.state && not (taken_after_close e)) ∷ (NumbersSpent if R.numbers_spent m e) ∷ R.kind_tests m e now

module _ {p : SlotPool} {m : Pool} (st : Stands p m) where
  abbrev lents : Agrees is_lent p.ids p.slots m.lent
  lents = st.table.mirror.lent

  abbrev pends : Agrees is_pending p.ids p.slots m.pending
  pends = st.table.mirror.pending

  request_tests_lem : (n : ℕ) → first (C.request_tests p n) ≡ first (R.request_tests m n)
  request_tests_lem n =
      first_same OldRequest (n ≤? p.last_request) (n ≤? m.last_request) _ _ (ap (λ (x : ℕ). n ≤? x) st.alike.last_request)
      (λ _. first_same QueueFull (queue_length ≤? p.waitings) (queue_length ≤? length m.waiting) [] [] (ap (λ (x : ℕ). queue_length ≤? x) (sym (waiters_counted st.alike.queue))) (λ _. refl))

  -- one test of a state
  state_test : (b b' : Bool) → b ≡ b' → first ((WrongState if not b) ∷ []) ≡ first ((WrongState if not b') ∷ [])
  state_test b b' e = first_same WrongState (not b) (not b') [] [] (ap not e) (λ _. refl)

  -- one of a state, and then one of a time
  time_test : (b b' : Bool) (second last last' now : ℕ) → b ≡ b' → (b ≡ true → last ≡ last')
      → first ((WrongState if not b) ∷ (WrongTime if wrong_time second last now) ∷ []) ≡ first ((WrongState if not b') ∷ (WrongTime if wrong_time second last' now) ∷ [])
  time_test b b' second last last' now e f =
      first_same WrongState (not b) (not b') _ _ (ap not e)
      (λ h. first_same WrongTime (wrong_time second last now) (wrong_time second last' now) [] [] (ap (λ (x : ℕ). wrong_time second x now) (f (not-false b h))) (λ _. refl))

  kind_tests_lem : (e : Event) (now : ℕ) → first (C.kind_tests p e now) ≡ first (R.kind_tests m e now)
  kind_tests_lem (CheckOut n) now = request_tests_lem n
  kind_tests_lem (WarmPool n) now = request_tests_lem n
  kind_tests_lem (Abandon n) now = first_same NotWaiting _ _ [] [] (ap not (waits_same st.alike.queue n)) (λ _. refl)
  kind_tests_lem (CheckIn n errored executing let_go) now =
      time_test (is_lent (state_of p n)) (has n m.lent) let_go (time_of p n) (find n m.lent).time now (has_same st n is_lent refl lents) (time_same st n is_lent refl lents)
  kind_tests_lem (Clear timeout cause) now = refl
  kind_tests_lem MarkAsReady now = refl
  kind_tests_lem (Succeeded n) now = state_test _ _ (has_in_same st n is_pending refl pends (λ k. k =? 5) (λ k. is_in 5 6 5 k (omega arith) (omega arith)))
  kind_tests_lem (SucceededForPool n opened) now =
      time_test (state_of p n =? 6) (has_in P.in_background n m.pending) opened (time_of p n) (find n m.pending).time now
      (has_in_same st n is_pending refl pends (λ k. k =? 6) (λ k. is_in 5 6 6 k (omega arith) (omega arith)))
      (λ h. time_same st n is_pending refl pends (is_in 5 6 6 (state_of p n) (omega arith) (omega arith) h))
  kind_tests_lem (Failed n) now = state_test _ _ (has_same st n is_pending refl pends)
  kind_tests_lem Maintenance now = refl
  kind_tests_lem FillPool now = refl
  kind_tests_lem (Pin n) now =
      first_same AlreadyPinned (3 to 4 holds state_of p n) (has_in P.pinned n m.lent) _ _ (pinned_same n)
      (λ _. state_test (state_of p n =? 2) (has_in P.unpinned n m.lent) (has_in_same st n is_lent refl lents (λ k. k =? 2) (λ k. is_in 2 4 2 k (omega arith) (omega arith))))
    where
      pinned_same : (n : ℕ) → (3 to 4 holds state_of p n) ≡ has_in P.pinned n m.lent
      pinned_same n = pinned_range (state_of p n) ∙ has_in_same st n is_lent refl lents pinned_no (λ k h. pinned_lent k (pinned_range k ∙ h))
  kind_tests_lem (ReturnToPinner n) now = state_test _ _ (has_in_same st n is_lent refl lents (λ k. k =? 3) (λ k. is_in 2 4 3 k (omega arith) (omega arith)))
  kind_tests_lem (TakeFromPinner n) now = state_test _ _ (pinned_range (state_of p n) ∙ has_in_same st n is_lent refl lents pinned_no (λ k h. pinned_lent k (pinned_range k ∙ h)))
  kind_tests_lem Close now = refl

  spent_same : (e : Event) → C.numbers_spent p e ≡ R.numbers_spent m e
  spent_same e =
      ap (λ (x : PoolState). not (is_closed x) && not (kind_no e =? 15) && last_next_id <? p.next_id || kind_no e =? 5 && p.generation =? last_generation) st.alike.state
      ∙ ap (λ (x : ℕ). not (is_closed m.state) && not (kind_no e =? 15) && last_next_id <? x || kind_no e =? 5 && p.generation =? last_generation) st.alike.next_id
      ∙ ap (λ (x : ℕ). not (is_closed m.state) && not (kind_no e =? 15) && last_next_id <? m.next_id || kind_no e =? 5 && x =? last_generation) st.alike.generation

  pub tests_same : (e : Event) (now : ℕ) → first (C.tests p e now) ≡ first (event_tests m e now)
  unfolding C.tests
  tests_same e now =
      first_same Malformed (causeless e) (causeless e) _ _ refl
      (λ _. first_same ClockBack (now <? p.clock) (now <? m.clock) _ _ (ap (λ (x : ℕ). now <? x) st.alike.clock)
      (λ _. first_same AfterClose (is_closed p.state && not (taken_after_close e)) (is_closed m.state && not (taken_after_close e)) _ _ (ap (λ (x : PoolState). is_closed x && not (taken_after_close e)) st.alike.state)
      (λ _. first_same NumbersSpent (C.numbers_spent p e) (R.numbers_spent m e) _ _ (spent_same e)
      (λ _. kind_tests_lem e now))))

-- where the definition's tests do not hold, those of the event's kind do not
pub kind_passed : (m : Pool) (e : Event) (now : ℕ) → first (event_tests m e now) ≡ none → first (R.kind_tests m e now) ≡ none
kind_passed m e now h =
    let n = not_first Malformed (causeless e) _ h in
    let a = not_first ClockBack (now <? m.clock) _ n.1 in
    let b = not_first AfterClose (is_closed m.state && not (taken_after_close e)) _ a.1 in
    (not_first NumbersSpent (R.numbers_spent m e) _ b.1).1

pub new_fit : (p : SlotPool) (n : ℕ) → first (C.request_tests p n) ≡ none → New n p
new_fit p n h =
    let a = not_first OldRequest (n ≤? p.last_request) _ h in
    let b = not_first QueueFull (queue_length ≤? p.waitings) [] a.1 in
    record { later = leb-false n p.last_request a.0; room = leb-false queue_length p.waitings b.0 }

-- a second time that is not refused has come
not_to_come : (second last now : ℕ) → wrong_time second last now ≡ false → second ≤ now
not_to_come second last now h = ltb-false now second (or_left (now <? second) (second <? last) h)

kind_timely : (p : SlotPool) (e : Event) (now : ℕ) → first (C.kind_tests p e now) ≡ none → Timely e now
kind_timely p (CheckOut n) now h = tt
kind_timely p (WarmPool n) now h = tt
kind_timely p (Abandon n) now h = tt
kind_timely p (CheckIn n errored executing let_go) now h =
    not_to_come let_go (time_of p n) now (not_first WrongTime (wrong_time let_go (time_of p n) now) [] (not_first WrongState _ _ h).1).0
kind_timely p (Clear timeout cause) now h = tt
kind_timely p MarkAsReady now h = tt
kind_timely p (Succeeded n) now h = tt
kind_timely p (SucceededForPool n opened) now h =
    not_to_come opened (time_of p n) now (not_first WrongTime (wrong_time opened (time_of p n) now) [] (not_first WrongState _ _ h).1).0
kind_timely p (Failed n) now h = tt
kind_timely p Maintenance now h = tt
kind_timely p FillPool now h = tt
kind_timely p (Pin n) now h = tt
kind_timely p (ReturnToPinner n) now h = tt
kind_timely p (TakeFromPinner n) now h = tt
kind_timely p Close now h = tt

module _ {p : SlotPool} {m : Pool} (st : Stands p m) where
  lent_fit : (n : ℕ) → is_lent (state_of p n) ≡ true → Holds is_lent n p (slot_of p n)
  lent_fit n = found st n is_lent refl st.table.mirror.lent

  pending_fit : (n : ℕ) → is_pending (state_of p n) ≡ true → Holds is_pending n p (slot_of p n)
  pending_fit n = found st n is_pending refl st.table.mirror.pending

  kind_fit : (e : Event) (now : ℕ) → first (C.kind_tests p e now) ≡ none → Fit e p (target p e)
  kind_fit (CheckOut n) now h = new_fit p n h
  kind_fit (WarmPool n) now h = new_fit p n h
  kind_fit (Abandon n) now h =
      let b = not-false _ (not_first NotWaiting _ [] h).0 in
      let low : waiter_of? p n < p.waitings = ltb-true _ _ (and_left _ _ b) in
      record { place = low; id = place_found (λ v. v / 4) n p.waitings p.waiters low; heard = ltb-true _ 2 (and_right (waiter_of? p n <? p.waitings) _ b) }
  kind_fit (CheckIn n errored executing let_go) now h = lent_fit n (not-false _ (not_first WrongState _ _ h).0)
  kind_fit (Clear timeout cause) now h = tt
  kind_fit MarkAsReady now h = tt
  kind_fit (Succeeded n) now h = pending_fit n (is_in 5 6 5 (state_of p n) (omega arith) (omega arith) (not-false _ (not_first WrongState _ [] h).0))
  kind_fit (SucceededForPool n opened) now h = pending_fit n (is_in 5 6 6 (state_of p n) (omega arith) (omega arith) (not-false _ (not_first WrongState _ _ h).0))
  kind_fit (Failed n) now h = pending_fit n (not-false _ (not_first WrongState _ [] h).0)
  kind_fit Maintenance now h = tt
  kind_fit FillPool now h = tt
  kind_fit (Pin n) now h = lent_fit n (is_in 2 4 2 (state_of p n) (omega arith) (omega arith) (not-false _ (not_first WrongState _ [] (not_first AlreadyPinned _ _ h).1).0))
  kind_fit (ReturnToPinner n) now h = lent_fit n (is_in 2 4 3 (state_of p n) (omega arith) (omega arith) (not-false _ (not_first WrongState _ [] h).0))
  kind_fit (TakeFromPinner n) now h = lent_fit n (pinned_lent (state_of p n) (not-false _ (not_first WrongState _ [] h).0))
  kind_fit Close now h = tt

  pub tests_passed : (e : Event) (now : ℕ) → first (C.tests p e now) ≡ none → Passed p e now
  unfolding C.tests
  tests_passed e now h =
      let n = not_first Malformed (causeless e) _ h in
      let a = not_first ClockBack (now <? p.clock) _ n.1 in
      let b = not_first AfterClose (is_closed p.state && not (taken_after_close e)) _ a.1 in
      let c = not_first NumbersSpent (C.numbers_spent p e) _ b.1 in
      record { caused = n.0; clock = ltb-false now p.clock a.0; taken = b.0; numbers = c.0; fit = kind_fit e now c.1; timely = kind_timely p e now c.1 }

  -- and so where the verdict names a slot or a waiter: it is the event's
  pub verdict_passed : (e : Event) (now i : ℕ) → C.verdict p e now ≡ Ok i → Passed p e now × (i ≡ target p e)
  unfolding C.verdict
  verdict_passed e now i h = go (first (C.tests p e now)) refl h
    where
      go : (x : Option Refusal) → first (C.tests p e now) ≡ x → C.or_accept (target p e) x ≡ Ok i → Passed p e now × (i ≡ target p e)
      go none q g = (tests_passed e now q, (cc))
      go (some r) q g = let z : ◌≡◌ {A = ℕ} 0 1 = cc in absurd (omega arith)
