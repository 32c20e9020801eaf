-- Each loop over the slots before its turn i, and one more turn of it, over variables.
use mathlib.Core.Path.{◌≡◌, refl, sym, ap, ◌∙◌}
use mathlib.Core.Bool.{Bool, true, false, not, ◌&&◌, ◌||◌, false≢true}
use mathlib.Core.List.{List, [], ◌∷◌}
use mir.Val.{bool_byte}
use Prim.Native.Nat.{◌*◌, ℕ, zero, suc, ◌+◌, ◌%◌, ◌≤◌, ◌<◌}
use native.Mathlib.Numerals.{add-one}
use native.Mathlib.Omega.{arith}
use lib.ListN.{length, get_or, set, take, length-set, length-take}
use lib.Seq.{get_or-set_same, get_or-set_other, get_or-take, take-suc}
use borrow.Author.Tests.{eq-eqb, ne_eqb}
use Rattle.std.specs.List.{list_any}
use Rattle.std.proofs.lemmas.List.Folds.{list_any-append}
use Rattle.definition.specs.Booleans.{by_bool, by_eq, or_false}
use Rattle.definition.specs.Pool.{slot_count}
use Rattle.definition.specs.Words.{◌=?◌}
use Rattle.refinement.specs.Rules.{one_if}
use Rattle.slot_rules.specs.Tests.{every, tally, among, new_id, ids_distinct}

-- ── every ──

pub every_more : (n : ℕ) (t : ℕ → Bool) (ok x r : Bool) → ok ≡ every n t → x ≡ t n → r ≡ (ok && x) → r ≡ every (n + 1) t
unfolding every
every_more n t ok x r a b e = rw (add-one n, ← a, ← b) e

pub every_none : (t : ℕ → Bool) → true ≡ every 0 t
unfolding every
every_none t = refl

pub every_grow : (n : ℕ) (t : ℕ → Bool) → true ≡ every n t → t n ≡ true → true ≡ every (n + 1) t
unfolding every
every_grow n t a b = rw (add-one n, ← a, b)

and_false : (b : Bool) → (b && false) ≡ false
and_false true = refl
and_false false = refl

-- one place that fails is enough
pub every_fails : (n i : ℕ) (t : ℕ → Bool) → i < n → t i ≡ false → false ≡ every n t
unfolding every
every_fails zero i t h e = absurd (omega arith)
every_fails (suc n) i t h e =
    by_eq i n
    (λ q. rw (← q, e, and_false))
    (λ q. let k : i < n = omega arith in rw (← every_fails n i t k e))

-- ── tally ──

pub tally_none : (t : ℕ → Bool) → 0 ≡ tally 0 t
unfolding tally
tally_none t = refl

byte_one : (b : Bool) → bool_byte b ≡ one_if b
byte_one true = refl
byte_one false = refl

pub tally_more : (n : ℕ) (t : ℕ → Bool) (k : ℕ) (x : Bool) → k ≡ tally n t → x ≡ t n → k + bool_byte x ≡ tally (n + 1) t
unfolding tally
tally_more n t k x a e = rw (byte_one x, add-one n, ← a, ← e)

pub byte_small : (b : Bool) → bool_byte b ≤ 1
byte_small true = omega arith
byte_small false = omega arith

-- ── among ──

-- among the first n, as `contains` says it
pub any_among : (x n : ℕ) (l : List ℕ) → n ≤ length l → list_any (λ y. y =? x) (take n l) ≡ among x n l
unfolding among
any_among x zero l h = refl
any_among x (suc n) l h =
    let k : n < length l = omega arith in
    rw (take-suc l n 0 k, list_any-append (λ y. y =? x) (take n l) (get_or l n 0 ∷ []), any_among x n l (omega arith), or_false (get_or l n 0 =? x))

-- ── the marks of the remainders: whoever stands before place i has its mark ──

-- as many marks as the code has
abbrev pub mark_count : ℕ
mark_count = 4 * slot_count

abbrev Marked : List ℕ → ℕ → List Bool → Type 0
Marked ids i marks = (j : ℕ) → j < i → get_or marks (get_or ids j 0 % mark_count) false ≡ true

-- whoever has no mark is new
unmarked : (x n : ℕ) (ids : List ℕ) (marks : List Bool) → Marked ids n marks → get_or marks (x % mark_count) false ≡ false → among x n ids ≡ false
unfolding among
unmarked x zero ids marks m z = refl
unmarked x (suc n) ids marks m z =
    let d : get_or ids n 0 ≡ x → ⊥ = λ e. let k : get_or marks (x % mark_count) false ≡ true = rw e at (m n (omega arith)) in false≢true (sym z ∙ k) in
    rw (unmarked x n ids marks (λ j h. m j (omega arith)) z, ne_eqb (get_or ids n 0) x d)

-- what `clashes` says of place i, whose remainder has the mark
abbrev clashing : ℕ → Bool → List ℕ → Bool
clashing i mark ids = mark && (not (get_or ids i 0 =? 0) && among (get_or ids i 0) i ids)

-- no clash: new
no_clash : (i : ℕ) (ids : List ℕ) (marks : List Bool) (r : Bool) → Marked ids i marks → r ≡ clashing i (get_or marks (get_or ids i 0 % mark_count) false) ids → r ≡ false
    → new_id ids i ≡ true
no_clash i ids marks r m e f =
    let x : ℕ = get_or ids i 0 in
    let mark : Bool = get_or marks (x % mark_count) false in
    by_eq x 0
    (λ z. rw (eq-eqb x 0 z))
    (λ z. by_bool mark
    (λ y. let w : among x i ids ≡ false = sym (rw (y, ne_eqb x 0 z) at e) ∙ f in
    rw (ne_eqb x 0 z, w))
    (λ y. rw (ne_eqb x 0 z, unmarked x i ids marks m y)))

-- a clash: not new
clash : (i : ℕ) (mark : Bool) (ids : List ℕ) (r : Bool) → r ≡ clashing i mark ids → r ≡ true → new_id ids i ≡ false
clash i mark ids r e f = go mark (get_or ids i 0 =? 0) (among (get_or ids i 0) i ids) (sym e ∙ f)
  where
    go : (a b c : Bool) → (a && (not b && c)) ≡ true → (b || not c) ≡ false
    go false b c h = absurd (false≢true h)
    go true true c h = absurd (false≢true h)
    go true false true h = refl
    go true false false h = absurd (false≢true h)

marked_more : (i : ℕ) (ids : List ℕ) (marks : List Bool) → length marks ≡ mark_count → get_or ids i 0 % mark_count < mark_count → Marked ids i marks
    → Marked ids (i + 1) (set marks (get_or ids i 0 % mark_count) true)
marked_more i ids marks len low m j h =
    let h0 : ℕ = get_or ids i 0 % mark_count in
    by_eq (get_or ids j 0 % mark_count) h0
    (λ e. rw (e, get_or-set_same marks h0 true false (omega arith)))
    (λ e. rw (get_or-set_other marks h0 (get_or ids j 0 % mark_count) true false e)
    (m j (by_eq j i (λ q. absurd (e (ap (λ (x : ℕ). get_or ids x 0 % mark_count) q))) (λ q. omega arith))))

-- the first i are distinct and marked
pub record Marking (ids : List ℕ) (i : ℕ) (marks : List Bool) : Type 0 where
  pub long : length marks ≡ mark_count
  pub so_far : true ≡ every i (new_id ids)
  pub marked : Marked ids i marks

pub marking_start : (ids : List ℕ) (marks : List Bool) → length marks ≡ mark_count → Marking ids 0 marks
marking_start ids marks l = record { long = l; so_far = every_none (new_id ids); marked = λ j h. absurd (omega arith) }

-- what the clash of the id at place i says
module _ (ids : List ℕ) (i : ℕ) (marks : List Bool) (v : Marking ids i marks) (low : i < slot_count)
    (r : Bool) (told : r ≡ clashing i (get_or marks (get_or ids i 0 % mark_count) false) ids) where
  pub marking_clash : r ≡ true → false ≡ ids_distinct ids
  unfolding ids_distinct
  marking_clash f = every_fails slot_count i (new_id ids) low (clash i (get_or marks (get_or ids i 0 % mark_count) false) ids r told f)

  pub marking_more : get_or ids i 0 % mark_count < mark_count → r ≡ false → Marking ids (i + 1) (set marks (get_or ids i 0 % mark_count) true)
  marking_more m f = record {
    long = simp length-set v.long;
    so_far = every_grow i (new_id ids) v.so_far (no_clash i ids marks r v.marked told f);
    marked = marked_more i ids marks v.long m v.marked;
  }
