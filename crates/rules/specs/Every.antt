-- Tests and what they say: and, every, among, tally; lists by their places.
use Rattle.std.specs.Prelude.{◌≡◌, refl, Bool, true, false, not, List, [], ◌∷◌, map, ℕ, zero, suc, ◌+◌, ◌/◌, ◌≤◌, ◌<◌, length, get_or}
use Rattle.std.proofs.Common.{sym, ap, ◌∙◌, arith, ne_eqb}
use Rattle.std.proofs.lemmas.Bool.{eqb-false, not-true}
use Rattle.definition.specs.Booleans.{and_left, and_right, both_true, by_eq, or_left, or_right}
use Rattle.definition.specs.Words.{◌=?◌}
use Rattle.slots.specs.View.{Slot, waiter_of, vacant}
use Rattle.slots.specs.Needs.{taken}
use Rattle.refinement.specs.Table.{one, one_pos, one_zero}
use Rattle.refinement.specs.Agree.{Class}
use Rattle.refinement.specs.Mirror.{All, Distinct, all_at}
use Rattle.refinement.specs.Alike.{Rises}
use Rattle.refinement.specs.Rules.{many, collect, one_if}
use Rattle.refinement.proofs.Rules.{many_none, many_one_if, taken_cons}
use Rattle.slot_rules.specs.Tests.{every, tally, among, is_taken}
use Rattle.list_rules.specs.Tests.{before}

-- ── every ──

pub every_all : (n : ℕ) (t : ℕ → Bool) → every n t ≡ true → (j : ℕ) → j < n → t j ≡ true
unfolding every
every_all zero t h j k = absurd (omega arith)
every_all (suc n) t h j k =
    by_eq j n
    (λ e. rw e (and_right (every n t) (t n) h))
    (λ e. every_all n t (and_left (every n t) (t n) h) j (omega arith))

pub all_every : (n : ℕ) (t : ℕ → Bool) → ((j : ℕ) → j < n → t j ≡ true) → every n t ≡ true
unfolding every
all_every zero t h = refl
all_every (suc n) t h = both_true (all_every n t (λ j k. h j (omega arith))) (h n (omega arith))

-- ── among ──

absent : (x n : ℕ) (l : List ℕ) → among x n l ≡ false → (j : ℕ) → j < n → get_or l j 0 ≡ x → ⊥
unfolding among
absent x zero l h j k e = absurd (omega arith)
absent x (suc n) l h j k e =
    by_eq j n
    (λ i. eqb-false (get_or l n 0) x (or_right (among x n l) (get_or l n 0 =? x) h) (ap (λ (y : ℕ). get_or l y 0) (sym i) ∙ e))
    (λ i. absent x n l (or_left (among x n l) (get_or l n 0 =? x) h) j (omega arith) e)

present_not : (x n : ℕ) (l : List ℕ) → ((j : ℕ) → j < n → get_or l j 0 ≡ x → ⊥) → among x n l ≡ false
unfolding among
present_not x zero l h = refl
present_not x (suc n) l h = rw (present_not x n l (λ j k. h j (omega arith)), ne_eqb (get_or l n 0) x (h n (omega arith)))

pub not_among : (x n : ℕ) (l : List ℕ) → not (among x n l) ≡ true → (j : ℕ) → j < n → get_or l j 0 ≡ x → ⊥
not_among x n l h = absent x n l (not-true (among x n l) h)

pub new_among : (x n : ℕ) (l : List ℕ) → ((j : ℕ) → j < n → get_or l j 0 ≡ x → ⊥) → not (among x n l) ≡ true
new_among x n l h = ap not (present_not x n l h)

-- ── lists by their places ──

pub all_of : (P : ℕ → Type 0) (l : List ℕ) → ((j : ℕ) → j < length l → P (get_or l j 0)) → All P l
all_of P [] h = tt
all_of P (x ∷ l) h = (h 0 (omega arith), all_of P l (λ j k. h (suc j) (omega arith)))

pub distinct_of : (l : List ℕ) → ((i j : ℕ) → i < j → j < length l → get_or l i 0 ≡ get_or l j 0 → ⊥) → Distinct l
distinct_of [] h = tt
distinct_of (x ∷ l) h = (
  all_of (λ y. y ≡ x → ⊥) l (λ j k e. h 0 (suc j) (omega arith) (omega arith) (sym e)),
  distinct_of l (λ i j a b. h (suc i) (suc j) (omega arith) (omega arith)),
)

pub distinct_has : (l : List ℕ) → Distinct l → (i j : ℕ) → i < j → j < length l → get_or l i 0 ≡ get_or l j 0 → ⊥
distinct_has [] d i j a b e = absurd (omega arith)
distinct_has (x ∷ l) d zero zero a b e = absurd (omega arith)
distinct_has (x ∷ l) d zero (suc j) a b e = all_at (λ y. y ≡ x → ⊥) l d.0 j (omega arith) (sym e)
distinct_has (x ∷ l) d (suc i) zero a b e = absurd (omega arith)
distinct_has (x ∷ l) d (suc i) (suc j) a b e = distinct_has l d.1 i j (omega arith) (omega arith) e

pub past : {A : Type 0} (l : List A) (d : A) (j : ℕ) → length l ≤ j → get_or l j d ≡ d
past [] d j h = refl
past (x ∷ l) d zero h = absurd (omega arith)
past (x ∷ l) d (suc j) h = past l d j (omega arith)

-- ── tally, from the front ──

tally_front : (n : ℕ) (t : ℕ → Bool) → tally (suc n) t ≡ one_if (t 0) + tally n (λ j. t (suc j))
unfolding tally
tally_front zero t = omega arith
tally_front (suc n) t = omega (arith, tally_front n t)

tally_empty : (t : ℕ → Bool) → tally 0 t ≡ 0
unfolding tally
tally_empty t = refl

-- tests that agree at the first n places
pub tally_same : (n : ℕ) (t u : ℕ → Bool) → ((j : ℕ) → j < n → t j ≡ u j) → tally n t ≡ tally n u
unfolding tally
tally_same zero t u h = refl
tally_same (suc n) t u h =
    let b : one_if (t n) ≡ one_if (u n) = ap one_if (h n (omega arith)) in
    omega (arith, tally_same n t u (λ j k. h j (omega arith)))

none_collected : (t : Class) (ss : List Slot) → many t [] ss ≡ 0
unfolding collect
none_collected t ss = refl

abbrev pub kinds : Class → List Slot → ℕ → Bool
kinds t ss j = t (get_or ss j vacant).state

-- as many are collected as are of the class, where no vacant slot is
pub many_tally : (t : Class) (xs : List ℕ) (ss : List Slot) → length ss ≡ length xs → ((j : ℕ) → get_or xs j 0 ≡ 0 → kinds t ss j ≡ false)
    → many t xs ss ≡ tally (length xs) (kinds t ss)
many_tally t [] ss l h = none_collected t ss ∙ sym (tally_empty (kinds t ss))
many_tally t (x ∷ xs) [] l h = absurd (omega arith)
many_tally t (x ∷ xs) (s ∷ ss) l h =
    let r = many_tally t xs ss (omega arith) (λ j. h (suc j)) in
    let f = tally_front (length xs) (kinds t (s ∷ ss)) in
    by_eq x 0
    (λ e. let b : one_if (t s.state) ≡ 0 = ap one_if (h 0 e) in omega (arith, r, f, many_none t x xs s ss e))
    (λ n. omega (arith, r, f, many_one_if t x xs s ss n))

no_taken : taken [] ≡ 0
unfolding taken
no_taken = refl

-- as many ids as taken slots
pub taken_tally : (xs : List ℕ) (ss : List Slot) → length ss ≡ length xs → ((j : ℕ) → get_or xs j 0 ≡ 0 → kinds is_taken ss j ≡ false)
    → ((j : ℕ) → 0 < get_or xs j 0 → kinds is_taken ss j ≡ true) → taken xs ≡ tally (length xs) (kinds is_taken ss)
taken_tally [] ss l h k = no_taken ∙ sym (tally_empty (kinds is_taken ss))
taken_tally (x ∷ xs) [] l h k = absurd (omega arith)
taken_tally (x ∷ xs) (s ∷ ss) l h k =
    let r = taken_tally xs ss (omega arith) (λ j. h (suc j)) (λ j. k (suc j)) in
    let f = tally_front (length xs) (kinds is_taken (s ∷ ss)) in
    by_eq x 0
    (λ e. let b : one_if (is_taken s.state) ≡ 0 = ap one_if (h 0 e) in omega (arith, r, f, taken_cons x xs, ap one e ∙ one_zero))
    (λ n. let b : one_if (is_taken s.state) ≡ 1 = ap one_if (k 0 (omega (arith, n))) in omega (arith, r, f, taken_cons x xs, one_pos x (omega (arith, n))))

-- ── the waiters, by their places ──

before_next : (b x : ℕ) (l : List ℕ) (j : ℕ) → before (x / 4) l j ≡ before b (x ∷ l) (suc j)
before_next b x l zero = refl
before_next b x l (suc j) = refl

pub rises_of : (b last : ℕ) (l : List ℕ) → ((j : ℕ) → j < length l → (before b l j < get_or l j 0 / 4) × (get_or l j 0 / 4 ≤ last))
    → Rises b last (map waiter_of l)
rises_of b last [] h = tt
rises_of b last (x ∷ l) h = (
  (h 0 (omega arith)).0,
  (h 0 (omega arith)).1,
  rises_of (x / 4) last l (λ j k. let r = h (suc j) (omega arith) in (omega (arith, before_next b x l j, r.0), r.1)),
)

pub rises_at : (b last : ℕ) (l : List ℕ) → Rises b last (map waiter_of l) → (j : ℕ) → j < length l
    → (before b l j < get_or l j 0 / 4) × (get_or l j 0 / 4 ≤ last)
rises_at b last [] r j h = absurd (omega arith)
rises_at b last (x ∷ l) r zero h = (r.0, r.1)
rises_at b last (x ∷ l) r (suc j) h = let q = rises_at (x / 4) last l r.2 j (omega arith) in (omega (arith, before_next b x l j, q.0), q.1)
