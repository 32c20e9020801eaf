-- Each loop over the available list and over the queue before its turn i, one more turn of it, and its end, over variables.
use mathlib.Core.Path.{◌≡◌, refl, sym, ap, ◌∙◌}
use mathlib.Core.Bool.{Bool, true, false, not, ◌&&◌, ◌||◌}
use mathlib.Core.List.{List}
use Prim.Native.Nat.{ℕ, zero, suc, ◌+◌, ◌-◌, min, ◌/◌, ◌≤◌, ◌<◌}
use native.Mathlib.Numerals.{add-one}
use native.Mathlib.Omega.{arith}
use lib.ListN.{length, get_or, set, take, drop, replicate, length-take, length-drop, length-set, length-replicate}
use lib.Seq.{get_or-set_same, get_or-set_other, get_or-take, get_or-drop}
use borrow.Author.Tests.{lt-ltb, le-ltb, le-leb, lt-leb, eq-eqb, ne_eqb}
use Rattle.std.proofs.Common.{length-take-le}
use Rattle.std.proofs.lemmas.List.{get_or_read}
use Rattle.definition.specs.Booleans.{by_eq, or_false, or_true}
use Rattle.definition.specs.Words.{◌<?◌, ◌=?◌}
use Rattle.definition.specs.Pool.{queue_length, slot_count}
use Rattle.refinement.specs.Rules.{is_shelved}
use Rattle.slot_rules.specs.Tests.{every, among}
use Rattle.slot_rules.proofs.Laws.{every_more, every_none, every_grow, every_fails}
use Rattle.list_rules.specs.Tests.{before, waiter_fits, listed_at, order_right, blank_from, queue_rises}

-- ── blank cells ──

module _ {A : Type 0} (is : A → Bool) (n : ℕ) (l : List A) (d : A) where
  abbrev pub blank_at : ℕ → Bool
  blank_at j = j <? n || is (get_or l j d)

  -- what stands before the n-th may be anything
  pub blank_before : (m : ℕ) → m ≤ n → true ≡ every m blank_at
  unfolding every
  blank_before zero h = refl
  blank_before (suc m) h =
      let k : m < n = omega arith in
      rw (← blank_before m (omega arith), lt-ltb m n k)

  pub blank_more : (i : ℕ) (ok : Bool) → n ≤ i → ok ≡ every i blank_at → (ok && is (get_or l i d)) ≡ every (i + 1) blank_at
  unfolding every
  blank_more i ok h e = rw (add-one i, ← e, le-ltb i n h)

  -- the cells from the n-th on, walked
  module _ (from : ℕ) (starts : from ≡ min n (length l)) where
    abbrev part : List A
    part = take (length l - from) (drop from l)

    part_long : length part ≡ length l - from
    part_long = simp (length-take, length-drop) (omega arith)

    pub blank_start : true ≡ every (from + 0) blank_at
    blank_start = let e : from + 0 ≡ from = omega arith in rw e (blank_before from (omega arith))

    module _ (i : ℕ) (ok : Bool) (v : ok ≡ every (from + i) blank_at) where
      pub blank_item : (x : A) → i < length part → x ≡ get_or part i x → (ok && is x) ≡ every (from + (i + 1)) blank_at
      blank_item x h at =
          let k : i < length l - from = omega (arith, part_long) in
          let here : x ≡ get_or l (from + i) d =
          get_or_read l (from + i) x (omega arith) (at ∙ get_or-take (length l - from) (drop from l) i x k ∙ get_or-drop from l i x) d in
          let e : from + i + 1 ≡ from + (i + 1) = omega arith in
          ap (λ y. ok && is y) here ∙ blank_more (from + i) ok (omega arith) v ∙ ap (λ m. every m blank_at) e

      pub blank_end : length part ≤ i → i ≤ length part → ok ≡ every (length l) blank_at
      blank_end g h = let e : from + i ≡ length l = omega (arith, part_long) in v ∙ ap (λ m. every m blank_at) e

-- as the rule says it
pub blank_column : (size n : ℕ) (l : List ℕ) → length l ≡ size → every (length l) (blank_at (λ x. x =? 0) n l 0) ≡ blank_from size n l
unfolding blank_from
blank_column size n l e = rw e

-- ── the slots met: exactly those among the first i ──

abbrev Met : List ℕ → ℕ → List Bool → Type 0
Met a i met = (e : ℕ) → get_or met e false ≡ among e i a

met_more : (i : ℕ) (a : List ℕ) (met : List Bool) → get_or a i 0 < length met → Met a i met → Met a (i + 1) (set met (get_or a i 0) true)
unfolding among
met_more i a met low m e =
    by_eq e (get_or a i 0)
    (λ q. rw (add-one i, q, get_or-set_same met (get_or a i 0) true false low, eq-eqb (get_or a i 0) (get_or a i 0) refl, or_true))
    (λ q. rw (add-one i, get_or-set_other met (get_or a i 0) e true false q, ne_eqb (get_or a i 0) e (λ z. q (sym z)), or_false) (m e))

none_met : (n e : ℕ) → get_or (replicate n false) e false ≡ false
none_met zero e = refl
none_met (suc n) zero = refl
none_met (suc n) (suc e) = none_met n e

met_none : (a : List ℕ) → Met a 0 (replicate slot_count false)
unfolding among
met_none a e = none_met slot_count e

-- ── the order list ──

-- the first i are right, and met
pub record Ordering (order states : List ℕ) (i : ℕ) (met : List Bool) : Type 0 where
  pub long : length met ≡ slot_count
  pub so_far : true ≡ every i (listed_at order states)
  pub met_so_far : Met order i met

pub ordering_start : (order states : List ℕ) → Ordering order states 0 (replicate slot_count false)
ordering_start order states = record {
  long = length-replicate {A = Bool} slot_count false;
  so_far = every_none (listed_at order states);
  met_so_far = met_none order;
}

pub order_long : (order states : List ℕ) (n : ℕ) → slot_count < n → false ≡ order_right order states n
unfolding order_right
order_long order states n h = rw (lt-leb n slot_count h)

-- the walk is over the first n
module _ (order states : List ℕ) (n i : ℕ) (met : List Bool) (v : Ordering order states i met) (room : n ≤ slot_count) where
  abbrev walked : List ℕ
  walked = take n order

  -- e is listed at place i
  module _ (h : i < length walked) (e : ℕ) (is : e ≡ get_or walked i 0) where
    low : i < n
    low = omega (arith, length-take n order)

    there : e ≡ get_or order i 0
    there = is ∙ get_or-take n order i 0 low

    listed : {a b c : Bool} → (e <? slot_count) ≡ a → is_shelved (get_or states e 0) ≡ b → get_or met e false ≡ c
        → listed_at order states i ≡ (a && (b && not c))
    listed p q r = rw (← there, p, q, ← v.met_so_far e, r)

    fails : listed_at order states i ≡ false → false ≡ order_right order states n
    unfolding order_right
    fails f = rw (le-leb n slot_count room) (every_fails n i (listed_at order states) low f)

    pub order_high : slot_count ≤ e → false ≡ order_right order states n
    order_high g = fails (listed (le-ltb e slot_count g) refl refl)

    module _ (within : e < slot_count) where
      pub order_unshelved : (get_or states e 0 ≡ 1 → ⊥) → false ≡ order_right order states n
      order_unshelved g = fails (listed (lt-ltb e slot_count within) (ne_eqb (get_or states e 0) 1 g) refl)

      module _ (shelved : get_or states e 0 ≡ 1) where
        pub order_met : get_or met e false ≡ true → false ≡ order_right order states n
        order_met m = fails (listed (lt-ltb e slot_count within) (eq-eqb (get_or states e 0) 1 shelved) m)

        pub ordering_more : get_or met e false ≡ false → Ordering order states (i + 1) (set met e true)
        ordering_more m =
            let l : get_or order i 0 < length met = omega (arith, there, v.long) in
            record {
              long = simp length-set v.long;
              so_far = every_grow i (listed_at order states) v.so_far
                  (listed (lt-ltb e slot_count within) (eq-eqb (get_or states e 0) 1 shelved) m);
              met_so_far = rw there (met_more i order met l v.met_so_far);
            }

  pub ordering_end : n ≤ length order → length walked ≤ i → i ≤ length walked → true ≡ order_right order states n
  unfolding order_right
  ordering_end long g h =
      let e : i ≡ n = omega (arith, length-take-le n order long) in
      rw (le-leb n slot_count room) (v.so_far ∙ rw e)

-- ── the queue ──

-- the first i rise, and the request before place i is b
pub record Rising (waiters : List ℕ) (last i b : ℕ) (ok : Bool) : Type 0 where
  pub there : b ≡ before 0 waiters i
  pub so_far : ok ≡ every i (λ j. waiter_fits (before 0 waiters j) (get_or waiters j 0 / 4) last)

pub rising_start : (waiters : List ℕ) (last : ℕ) → Rising waiters last 0 0 true
rising_start waiters last = record { there = refl; so_far = every_none (λ j. waiter_fits (before 0 waiters j) (get_or waiters j 0 / 4) last) }

pub queue_long : (waiters : List ℕ) (n last : ℕ) → queue_length < n → false ≡ queue_rises waiters n last
unfolding queue_rises
queue_long waiters n last h = rw (lt-leb n queue_length h)

module _ (waiters : List ℕ) (n last i b : ℕ) (ok : Bool) (v : Rising waiters last i b ok) where
  -- w stands at place i of the first n, which are walked
  pub rising_more : (w top : ℕ) → i < length (take n waiters) → w ≡ get_or (take n waiters) i 0 → top ≡ last
      → Rising waiters last (i + 1) (w / 4) (ok && waiter_fits b (w / 4) top)
  rising_more w top h is t =
      let e : w ≡ get_or waiters i 0 = is ∙ get_or-take n waiters i 0 (omega (arith, length-take n waiters)) in
      record {
        there = rw (add-one i, e);
        so_far = every_more i (λ j. waiter_fits (before 0 waiters j) (get_or waiters j 0 / 4) last) ok (waiter_fits b (w / 4) top) _ v.so_far (rw (e, t, ← v.there)) refl;
      }

  pub rising_end : n ≤ queue_length → n ≤ length waiters → length (take n waiters) ≤ i → i ≤ length (take n waiters) → ok ≡ queue_rises waiters n last
  unfolding queue_rises
  rising_end room long g h = let e : i ≡ n = omega (arith, length-take-le n waiters long) in rw (le-leb n queue_length room) (v.so_far ∙ rw e)
