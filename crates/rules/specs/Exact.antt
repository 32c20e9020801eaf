-- The structure test accepts exactly the pools that keep the rules, which are the formed ones.
use Rattle.std.specs.Prelude.{◌≡◌, Bool, false, not, ◌&&◌, List, map, take}
use Rattle.std.proofs.Math.Path.{refl, sym, ap, subst}
use Rattle.std.proofs.Common.{◌∙◌, length-take-le}
use Rattle.std.proofs.Math.Bool.{true}
use Rattle.std.proofs.lemmas.Bool.{false≢true}
use Prim.Native.Nat.{ℕ, zero, suc, ◌+◌, ◌/◌, ◌≤◌, ◌<◌}
use native.Mathlib.Omega.{arith}
use Rattle.std.proofs.Math.ListN.{length, get_or}
use Rattle.std.proofs.Math.Seq.{get_or-take}
use borrow.Author.Tests.{lt-ltb, le-ltb, le-leb, eq-eqb, ne_eqb, ltb-true, leb-true, eqb-true}
use Rattle.definition.specs.Limits.{limits_of, limits_pass}
use Rattle.definition.specs.Booleans.{and_left, and_right, both_true, by_eq, by_lt, or_other}
use Rattle.definition.specs.Words.{when◌then◌else◌, ◌=?◌, ◌<?◌, ◌≤?◌}
use Rattle.definition.specs.Pool.{queue_length, in_range, slot_count}
use Rattle.definition.specs.Refusals.{most_next_id}
use Rattle.slots.specs.declared.ConnectionPoolWorker.{ConnectionPoolWorker}
use Rattle.slots.specs.View.{SlotPool, Slot, pool_in, Whole, waiter_of, vacant, slot_in}
use Rattle.slots.specs.View as View
use Rattle.slots.specs.Needs.{taken}
use Rattle.slots.specs.Parts.{slot_at_lem}
use Rattle.refinement.specs.Table.{Unique}
use Rattle.refinement.specs.Agree.{Class}
use Rattle.refinement.specs.Mirror.{is_pending, All, Distinct, Listed, Used, all_at}
use Rattle.refinement.specs.Alike.{Rises}
use Rattle.promises.specs.States.{state_fits}
use Rattle.refinement.specs.Sites.{Dated, AllDated, Sited}
use Rattle.refinement.specs.Stands.{Formed}
use Rattle.refinement.specs.Rules.{Rules, is_shelved, many}
use Rattle.refinement.proofs.Rules.{rules_formed, formed_rules}
use Rattle.slot_rules.specs.Tests.{every, tally, among, is_taken, is_vacant, vacant_only, slot_fits, slot_fits_at, ids_below, new_id, ids_distinct, slots_fit, dated_at, slots_dated, how_many, counts_right}
use Rattle.list_rules.specs.Tests.{blank_past, before, waiter_fits, listed_at, order_right, blank_from, queue_rises}
use Rattle.rules.specs.Tests.{hangs_together, is_settled, keeps_rules}
use Rattle.rules.specs.Every.{every_all, all_every, not_among, new_among, all_of, distinct_of, distinct_has, past, tally_same, kinds, many_tally, taken_tally, rises_of, rises_at}

-- ── Ids ────────────────────────────────────────────────────────────────────────────────────────────────────────────────

module _ (ids : List ℕ) (l : length ids ≡ slot_count) where
  below_say : (next : ℕ) → ids_below ids next ≡ true → (j : ℕ) → get_or ids j 0 < next
  unfolding ids_below
  below_say next h j =
      let at : (i : ℕ) → i < slot_count → get_or ids i 0 < next =
      λ i k. ltb-true (get_or ids i 0) next (every_all slot_count (λ i. get_or ids i 0 <? next) h i k) in
      by_lt j slot_count
      (λ k. at j k)
      (λ k. omega (arith, past ids 0 j (omega arith), at 0 (omega arith)))

  below_pass : (next : ℕ) → ((j : ℕ) → get_or ids j 0 < next) → ids_below ids next ≡ true
  unfolding ids_below
  below_pass next h = all_every slot_count (λ i. get_or ids i 0 <? next) (λ j k. lt-ltb (get_or ids j 0) next (h j))

  new_say : ids_distinct ids ≡ true → (i j : ℕ) → i < j → j < slot_count → 0 < get_or ids j 0 → get_or ids i 0 ≡ get_or ids j 0 → ⊥
  unfolding ids_distinct
  new_say h i j k low z e =
      let x : ℕ = get_or ids j 0 in
      let n : x ≡ 0 → ⊥ = λ q. omega arith in
      not_among x j ids (or_other (x =? 0) (not (among x j ids)) (ne_eqb x 0 n) (every_all slot_count (new_id ids) h j low)) i k e

  distinct_say : ids_distinct ids ≡ true → Unique ids
  distinct_say h i j a b z e =
      by_eq i j (λ q. q) (λ q. by_lt i j
      (λ k. absurd (new_say h i j k (omega arith) (omega arith) e))
      (λ k. absurd (new_say h j i (omega (arith, q)) (omega arith) (omega arith) (sym e))))

  distinct_pass : Unique ids → ids_distinct ids ≡ true
  unfolding ids_distinct
  distinct_pass u = all_every slot_count (new_id ids) (λ i k. by_eq (get_or ids i 0) 0
      (λ z. rw (eq-eqb (get_or ids i 0) 0 z))
      (λ z. rw (ne_eqb (get_or ids i 0) 0 z) (new_among (get_or ids i 0) i ids (λ j m e.
      omega (arith, u i j (omega arith) (omega arith) (omega (arith, z)) (sym e))))))

-- ── Slots ──────────────────────────────────────────────────────────────────────────────────────────────────────────────

fits_vacant : (id : ℕ) (s : Slot) → id ≡ 0 → slot_fits id s ≡ is_vacant s
unfolding slot_fits when◌then◌else◌
fits_vacant id s e = rw (eq-eqb id 0 e)

fits_used : (id : ℕ) (s : Slot) → 0 < id → slot_fits id s ≡ (1 ≤? s.state && s.state ≤? 6)
unfolding slot_fits when◌then◌else◌
fits_used id s z = let n : id ≡ 0 → ⊥ = λ q. omega arith in rw (ne_eqb id 0 n)

used_say : (id : ℕ) (s : Slot) → 0 < id → slot_fits id s ≡ true → Used s
used_say id s z h =
    let k = s.state in
    let f : (1 ≤? k && k ≤? 6) ≡ true = sym (fits_used id s z) ∙ h in
    (omega (arith, leb-true 1 k (and_left (1 ≤? k) (k ≤? 6) f)), leb-true k 6 (and_right (1 ≤? k) (k ≤? 6) f))

module _ (v : ConnectionPoolWorker) (w : Whole (pool_in v)) where
  abbrev P : SlotPool
  P = pool_in v

  -- every slot with no id is vacant; every other is in a state of a connection
  abbrev Blank : Type 0
  Blank = (j : ℕ) → View.id_at P j ≡ 0 → View.slot_at P j ≡ vacant

  abbrev InUse : Type 0
  InUse = (j : ℕ) → 0 < View.id_at P j → Used (View.slot_at P j)

  state_of_lem : (j : ℕ) → j < slot_count → (View.slot_at P j).state ≡ get_or v.states j 0
  state_of_lem j low = ap (λ (s : Slot). s.state) (slot_at_lem v w j low)

  -- what is tested of the columns is tested of the slot
  fits_same : (j : ℕ) → j < slot_count → slot_fits_at v.ids v.generations v.times v.states j ≡ slot_fits (View.id_at P j) (View.slot_at P j)
  fits_same j k = ap (λ (s : Slot). slot_fits (View.id_at P j) s) (sym (slot_at_lem v w j k))

  fit_at : slots_fit v.ids v.generations v.times v.states ≡ true → (j : ℕ) → j < slot_count → slot_fits (View.id_at P j) (View.slot_at P j) ≡ true
  unfolding slots_fit
  fit_at f j k = sym (fits_same j k) ∙ every_all slot_count (slot_fits_at v.ids v.generations v.times v.states) f j k

  slots_blank : slots_fit v.ids v.generations v.times v.states ≡ true → Blank
  slots_blank f j e =
      by_lt j slot_count
      (λ k. vacant_only (View.slot_at P j) (sym (fits_vacant (View.id_at P j) (View.slot_at P j) e) ∙ fit_at f j k))
      (λ k. past P.slots vacant j (omega (arith, w.slots)))

  slots_used : slots_fit v.ids v.generations v.times v.states ≡ true → InUse
  slots_used f j z =
      by_lt j slot_count
      (λ k. used_say (View.id_at P j) (View.slot_at P j) z (fit_at f j k))
      (λ k. absurd (omega (arith, past P.ids 0 j (omega (arith, w.ids)))))

  slots_pass : Blank → InUse → slots_fit v.ids v.generations v.times v.states ≡ true
  unfolding slots_fit
  slots_pass b u =
      all_every slot_count (slot_fits_at v.ids v.generations v.times v.states) (λ j k. fits_same j k ∙ by_eq (View.id_at P j) 0 (λ e. vacant_pass j e) (λ e. used_pass j (omega (arith, e))))
    where
      vacant_pass : (j : ℕ) → View.id_at P j ≡ 0 → slot_fits (View.id_at P j) (View.slot_at P j) ≡ true
      vacant_pass j e = fits_vacant (View.id_at P j) (View.slot_at P j) e ∙ ap (λ (s : Slot). is_vacant s) (b j e)

      used_pass : (j : ℕ) → 0 < View.id_at P j → slot_fits (View.id_at P j) (View.slot_at P j) ≡ true
      used_pass j z =
          let k = (View.slot_at P j).state in
          fits_used (View.id_at P j) (View.slot_at P j) z ∙ both_true (le-leb 1 k (u j z).0) (le-leb k 6 (u j z).1)

  -- ── Counts ──

  states_counted : (t : Class) → how_many t v.states ≡ tally (length P.ids) (kinds t P.slots)
  states_counted t =
      tally_same slot_count (λ i. t (get_or v.states i 0)) (kinds t P.slots) (λ j k. ap t (sym (state_of_lem j k)))
      ∙ ap (λ (n : ℕ). tally n (kinds t P.slots)) (sym w.ids)

  module _ (b : Blank) where
    how_many_lem : (t : Class) → t 0 ≡ false → how_many t v.states ≡ many t P.ids P.slots
    how_many_lem t f =
        states_counted t
        ∙ sym (many_tally t P.ids P.slots (omega (arith, w.ids, w.slots)) (λ j e. ap (λ (s : Slot). t s.state) (b j e) ∙ f))

    how_taken : InUse → how_many is_taken v.states ≡ taken P.ids
    how_taken u = states_counted is_taken ∙ sym (taken_tally P.ids P.slots (omega (arith, w.ids, w.slots))
        (λ j e. ap (λ (s : Slot). is_taken s.state) (b j e))
        (λ j z. ap not (ne_eqb (View.slot_at P j).state 0 (λ q. omega (arith, (u j z).0)))))

  -- ── The order list ──

  abbrev n : ℕ
  n = v.head.available_count

  abbrev order : List ℕ
  order = v.available

  order_fits : order_right order v.states n ≡ true → n ≤ slot_count
  unfolding order_right
  order_fits t = leb-true n slot_count (and_left (n ≤? slot_count) (every n (listed_at order v.states)) t)

  order_at : order_right order v.states n ≡ true → (j : ℕ) → j < n → listed_at order v.states j ≡ true
  unfolding order_right
  order_at t = every_all n (listed_at order v.states) (and_right (n ≤? slot_count) (every n (listed_at order v.states)) t)

  order_long : n ≤ slot_count → length (take n order) ≡ n
  order_long f = length-take-le n order (omega (arith, w.available))

  -- a slot that is checked in has an id
  shelved_used : Blank → (e : ℕ) → (View.slot_at P e).state ≡ 1 → 0 < View.id_at P e
  shelved_used b e s =
      by_eq {A = 0 < View.id_at P e} (View.id_at P e) 0
      (λ z. absurd (omega (arith, s, ap (λ (x : Slot). x.state) (b e z))))
      (λ z. omega (arith, z))

  order_listed : Blank → order_right order v.states n ≡ true → All (Listed P.ids P.slots) (take n order)
  order_listed b t =
      all_of (Listed P.ids P.slots) (take n order) (λ j k.
      let low : j < n = omega (arith, order_long (order_fits t)) in
      let e : ℕ = get_or order j 0 in
      let q = order_at t j low in
      let r = and_right (e <? slot_count) (is_shelved (get_or v.states e 0) && not (among e j order)) q in
      let i : e < slot_count = ltb-true e slot_count (and_left (e <? slot_count) (is_shelved (get_or v.states e 0) && not (among e j order)) q) in
      let s : (View.slot_at P e).state ≡ 1 = state_of_lem e i ∙ eqb-true (get_or v.states e 0) 1 (and_left (is_shelved (get_or v.states e 0)) (not (among e j order)) r) in
      rw (get_or-take n order j 0 low) (i, shelved_used b e s, s))

  order_distinct : order_right order v.states n ≡ true → Distinct (take n order)
  order_distinct t =
      distinct_of (take n order) (λ i j k m e.
      let low : j < n = omega (arith, order_long (order_fits t)) in
      let x : ℕ = get_or order j 0 in
      let r = and_right (x <? slot_count) (is_shelved (get_or v.states x 0) && not (among x j order)) (order_at t j low) in
      not_among x j order (and_right (is_shelved (get_or v.states x 0)) (not (among x j order)) r) i k
      (sym (get_or-take n order i 0 (omega arith)) ∙ e ∙ get_or-take n order j 0 low))

  order_pass : n ≤ slot_count → All (Listed P.ids P.slots) (take n order) → Distinct (take n order) → order_right order v.states n ≡ true
  unfolding order_right
  order_pass f al d =
      both_true (le-leb n slot_count f) (all_every n (listed_at order v.states) (λ j low.
      let x : ℕ = get_or order j 0 in
      let k : j < length (take n order) = omega (arith, order_long f) in
      let here : Listed P.ids P.slots x = rw (get_or-take n order j 0 low) at (all_at (Listed P.ids P.slots) (take n order) al j k) in
      both_true (lt-ltb x slot_count here.0)
      (both_true (eq-eqb (get_or v.states x 0) 1 (sym (state_of_lem x here.0) ∙ here.2))
      (new_among x j order (λ i q e. distinct_has (take n order) d i j q k (get_or-take n order i 0 (omega arith) ∙ e ∙ sym (get_or-take n order j 0 low)))))))

counts_say : (ss : List ℕ) (total pending available : ℕ) → counts_right ss total pending available ≡ true
    → (how_many is_taken ss ≡ total) × (how_many is_pending ss ≡ pending) × (how_many is_shelved ss ≡ available)
unfolding counts_right
counts_say ss t p a h =
    let r = and_right (how_many is_taken ss =? t) (how_many is_pending ss =? p && how_many is_shelved ss =? a) h in (
      eqb-true (how_many is_taken ss) t (and_left (how_many is_taken ss =? t) (how_many is_pending ss =? p && how_many is_shelved ss =? a) h),
      eqb-true (how_many is_pending ss) p (and_left (how_many is_pending ss =? p) (how_many is_shelved ss =? a) r),
      eqb-true (how_many is_shelved ss) a (and_right (how_many is_pending ss =? p) (how_many is_shelved ss =? a) r),
    )

counts_pass : (ss : List ℕ) (total pending available : ℕ) → how_many is_taken ss ≡ total → how_many is_pending ss ≡ pending
    → how_many is_shelved ss ≡ available → counts_right ss total pending available ≡ true
unfolding counts_right
counts_pass ss t p a x y z =
    both_true (eq-eqb (how_many is_taken ss) t x) (both_true (eq-eqb (how_many is_pending ss) p y) (eq-eqb (how_many is_shelved ss) a z))

-- ── Cells past a count ─────────────────────────────────────────────────────────────────────────────────────────────────

blank_say : (size n : ℕ) (l : List ℕ) → length l ≡ size → blank_from size n l ≡ true → (j : ℕ) → n ≤ j → get_or l j 0 ≡ 0
unfolding blank_from
blank_say size n l e h j k =
    by_lt j size
    (λ q. eqb-true (get_or l j 0) 0 (or_other (j <? n) (get_or l j 0 =? 0) (le-ltb j n k) (every_all size (λ i. blank_past n i (get_or l i 0)) h j q)))
    (λ q. past l 0 j (omega arith))

blank_pass : (size n : ℕ) (l : List ℕ) → ((j : ℕ) → n ≤ j → get_or l j 0 ≡ 0) → blank_from size n l ≡ true
unfolding blank_from
blank_pass size n l h =
    all_every size (λ i. blank_past n i (get_or l i 0)) (λ j k. by_lt j n
    (λ q. rw (lt-ltb j n q))
    (λ q. rw (le-ltb j n q) (eq-eqb (get_or l j 0) 0 (h j q))))

-- ── The queue ──────────────────────────────────────────────────────────────────────────────────────────────────────────

before_take : (b n : ℕ) (l : List ℕ) (j : ℕ) → j < n → before b (take n l) j ≡ before b l j
before_take b n l zero h = refl
before_take b n l (suc j) h = ap (λ (x : ℕ). x / 4) (get_or-take n l j 0 (omega arith))

module _ (ws : List ℕ) (n last : ℕ) (l : length ws ≡ queue_length) where
  abbrev fits_at : ℕ → Bool
  fits_at i = waiter_fits (before 0 ws i) (get_or ws i 0 / 4) last

  queue_fits : queue_rises ws n last ≡ true → n ≤ queue_length
  unfolding queue_rises
  queue_fits h = leb-true n queue_length (and_left (n ≤? queue_length) (every n fits_at) h)

  queue_at : queue_rises ws n last ≡ true → (j : ℕ) → j < n → fits_at j ≡ true
  unfolding queue_rises
  queue_at h = every_all n fits_at (and_right (n ≤? queue_length) (every n fits_at) h)

  queue_long : n ≤ queue_length → length (take n ws) ≡ n
  queue_long h = length-take-le n ws (omega arith)

  queue_say : queue_rises ws n last ≡ true → Rises 0 last (map waiter_of (take n ws))
  queue_say h = rises_of 0 last (take n ws) (λ j k.
      let low : j < n = omega (arith, queue_long (queue_fits h)) in
      let b : ℕ = before 0 ws j in
      let x : ℕ = get_or ws j 0 / 4 in
      let t = queue_at h j low in
      rw (before_take 0 n ws j low, get_or-take n ws j 0 low)
      (ltb-true b x (and_left (b <? x) (x ≤? last) t), leb-true x last (and_right (b <? x) (x ≤? last) t)))

  queue_pass : n ≤ queue_length → Rises 0 last (map waiter_of (take n ws)) → queue_rises ws n last ≡ true
  unfolding queue_rises
  queue_pass f r = both_true (le-leb n queue_length f) (all_every n fits_at (λ j low.
      let b : ℕ = before 0 ws j in
      let x : ℕ = get_or ws j 0 / 4 in
      let v : (b < x) × (x ≤ last) =
      rw (before_take 0 n ws j low, get_or-take n ws j 0 low) at (rises_at 0 last (take n ws) r j (omega (arith, queue_long f))) in
      both_true (lt-ltb b x v.0) (le-leb x last v.1)))

-- ── All of them ────────────────────────────────────────────────────────────────────────────────────────────────────────

ten : (a b c d e f g i j k : Bool) → (((a && b) && (c && (d && e))) && ((f && (g && i)) && (j && k))) ≡ true
    → (a ≡ true) × (b ≡ true) × (c ≡ true) × (d ≡ true) × (e ≡ true) × (f ≡ true) × (g ≡ true) × (i ≡ true) × (j ≡ true) × (k ≡ true)
ten a b c d e f g i j k q =
    let x = and_left ((a && b) && (c && (d && e))) ((f && (g && i)) && (j && k)) q in
    let y = and_right ((a && b) && (c && (d && e))) ((f && (g && i)) && (j && k)) q in
    let ab = and_left (a && b) (c && (d && e)) x in
    let ce = and_right (a && b) (c && (d && e)) x in
    let de = and_right c (d && e) ce in
    let fi = and_left (f && (g && i)) (j && k) y in
    let jk = and_right (f && (g && i)) (j && k) y in
    let gi = and_right f (g && i) fi in (
      and_left a b ab,
      and_right a b ab,
      and_left c (d && e) ce,
      and_left d e de,
      and_right d e de,
      and_left f (g && i) fi,
      and_left g i gi,
      and_right g i gi,
      and_left j k jk,
      and_right j k jk,
    )

-- what a reached pool has besides
record Settles (p : SlotPool) : Type 0 where
  bounded : p.total ≤ p.options.maximum
  state : state_fits p.state p.generation p.next_id p.total p.availables p.waitings ≡ true
  sited : Sited p

module _ (v : ConnectionPoolWorker) (w : Whole (pool_in v)) where
  abbrev Q : SlotPool
  Q = pool_in v

  abbrev g : ℕ
  g = v.head.status.generation

  abbrev t : ℕ
  t = v.head.clock

  -- what is tested of the columns is said of the slot
  dated_at_lem : (j : ℕ) → j < slot_count → View.slot_at Q j ≡ slot_in v.generations v.times v.states j
  dated_at_lem j low = slot_at_lem v w j low

  dated_say : slots_dated v.generations v.times g t ≡ true → AllDated Q
  unfolding slots_dated
  dated_say f j =
      by_lt j slot_count
      (λ low.
      let of : ℕ = get_or v.generations j 0 in
      let since : ℕ = get_or v.times j 0 in
      let b = every_all slot_count (dated_at v.generations v.times g t) f j low in
      subst (Dated g t) (sym (dated_at_lem j low)) (leb-true of g (and_left (of ≤? g) (since ≤? t) b), leb-true since t (and_right (of ≤? g) (since ≤? t) b)))
      (λ high. subst (Dated g t) (sym (past Q.slots vacant j (omega (arith, w.slots)))) (omega arith, omega arith))

  dated_pass : AllDated Q → slots_dated v.generations v.times g t ≡ true
  unfolding slots_dated
  dated_pass d = all_every slot_count (dated_at v.generations v.times g t) (λ j low.
      let k = subst (Dated g t) (dated_at_lem j low) (d j) in both_true (le-leb (get_or v.generations j 0) g k.0) (le-leb (get_or v.times j 0) t k.1))

  abbrev fits : Bool
  fits = state_fits Q.state Q.generation Q.next_id Q.total Q.availables Q.waitings

  settled_says : is_settled v ≡ true → Settles Q
  unfolding is_settled
  settled_says b =
      let most = v.head.options.maximum in
      let few = v.head.total_connection_count ≤? most in
      let spare = blank_from slot_count most v.ids in
      let one = and_left (few && fits) (slots_dated v.generations v.times g t && spare) b in
      let two = and_right (few && fits) (slots_dated v.generations v.times g t && spare) b in
      record {
        bounded = leb-true v.head.total_connection_count most (and_left few fits one);
        state = and_right few fits one;
        sited = record {
          spare = blank_say slot_count most v.ids w.ids (and_right (slots_dated v.generations v.times g t) spare two);
          dated = dated_say (and_left (slots_dated v.generations v.times g t) spare two);
        };
      }

  settled_pass : Q.total ≤ Q.options.maximum → fits ≡ true → Sited Q → is_settled v ≡ true
  unfolding is_settled
  settled_pass b s k =
      both_true (both_true (le-leb Q.total Q.options.maximum b) s) (both_true (dated_pass k.dated) (blank_pass slot_count v.head.options.maximum v.ids k.spare))

  -- what passes the test keeps the rules
  pub sound : v.head.serial < 4294967296 → keeps_rules v ≡ true → Rules (pool_in v)
  unfolding keeps_rules hangs_together
  sound low both =
      let q = and_left (hangs_together v) (is_settled v) both in
      let z = settled_says (and_right (hangs_together v) (is_settled v) both) in
      let next = v.head.next_connection_id in
      let n = v.head.available_count in
      let m = v.head.waiting_count in
      let t = ten (in_range v.head.options) (next ≤? most_next_id) (ids_below v.ids next) (ids_distinct v.ids) (slots_fit v.ids v.generations v.times v.states)
      (counts_right v.states v.head.total_connection_count v.head.pending_connection_count n)
      (order_right v.available v.states n) (blank_from slot_count n v.available)
      (queue_rises v.waiters m v.head.last_request) (blank_from queue_length m v.waiters) q in
      let b = slots_blank v w t.4 in
      let u = slots_used v w t.4 in
      let c = counts_say v.states v.head.total_connection_count v.head.pending_connection_count n t.5 in
      record {
        limits = limits_of v.head.options t.0;
        columns = w;
        unique = distinct_say v.ids w.ids t.3;
        below = below_say v.ids w.ids next t.2;
        blank = b;
        used = u;
        fits = order_fits v w t.6;
        listed = order_listed v w b t.6;
        distinct = order_distinct v w t.6;
        rest = blank_say slot_count n v.available w.available t.7;
        shelved = sym c.2 ∙ how_many_lem v w b is_shelved refl;
        pending = sym c.1 ∙ how_many_lem v w b is_pending refl;
        total = sym c.0 ∙ how_taken v w b u;
        queue = queue_fits v.waiters m v.head.last_request w.waiters t.8;
        queue_rest = blank_say queue_length m v.waiters w.waiters t.9;
        rises = queue_say v.waiters m v.head.last_request w.waiters t.8;
        serial = low;
        numbers = leb-true next (most_next_id) t.1;
        bounded = z.bounded;
        state = z.state;
        sited = z.sited;
      }

  -- what keeps the rules passes the test
  pub complete : Rules (pool_in v) → keeps_rules v ≡ true
  unfolding keeps_rules hangs_together
  complete r =
      let next = v.head.next_connection_id in
      let n = v.head.available_count in
      let m = v.head.waiting_count in
      both_true (both_true
      (both_true
      (both_true (limits_pass v.head.options r.limits) (le-leb next (most_next_id) r.numbers))
      (both_true (below_pass v.ids w.ids next r.below)
      (both_true (distinct_pass v.ids w.ids r.unique) (slots_pass v w r.blank r.used))))
      (both_true
      (both_true
      (counts_pass v.states v.head.total_connection_count v.head.pending_connection_count n
      (how_taken v w r.blank r.used ∙ sym r.total)
      (how_many_lem v w r.blank is_pending refl ∙ sym r.pending)
      (how_many_lem v w r.blank is_shelved refl ∙ sym r.shelved))
      (both_true (order_pass v w r.fits r.listed r.distinct) (blank_pass slot_count n v.available r.rest)))
      (both_true (queue_pass v.waiters m v.head.last_request w.waiters r.queue r.rises) (blank_pass queue_length m v.waiters r.queue_rest))))
      (settled_pass r.bounded r.state r.sited)

-- ── What the test says ─────────────────────────────────────────────────────────────────────────────────────────────────

-- r says whether p keeps the rules
pub record Exactly (r : Bool) (p : SlotPool) : Type 0 where
  pub sound : r ≡ true → Rules p
  pub complete : Rules p → r ≡ true

pub exactly : (v : ConnectionPoolWorker) (r : Bool) → Whole (pool_in v) → v.head.serial < 4294967296
    → r ≡ keeps_rules v → Exactly r (pool_in v)
exactly v r w low e = record {
  sound = λ q. sound v w low (sym e ∙ q);
  complete = λ k. e ∙ complete v w k;
}

-- which is: whether p is formed
pub accepted_formed : {r : Bool} {p : SlotPool} → Exactly r p → r ≡ true → Formed p
accepted_formed {r} {p} x e = rules_formed p (x.sound e)

pub formed_accepted : {r : Bool} {p : SlotPool} → Exactly r p → Formed p → r ≡ true
formed_accepted {r} {p} x f = x.complete (formed_rules p f)

pub refused_unformed : {r : Bool} {p : SlotPool} → Exactly r p → r ≡ false → Formed p → ⊥
refused_unformed x e f = false≢true (sym e ∙ formed_accepted x f)
