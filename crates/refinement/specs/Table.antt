-- The table of slots, looked up by number; lists of connections, looked up alike.
use Rattle.std.specs.Prelude.{◌≡◌, true, false, length, get_or, set}
use Rattle.std.proofs.Math.Path.{refl}
use Rattle.std.proofs.Common.{ap, sym, ◌∙◌, arith, length-set, get_or-set_same, get_or-set_other}
use mathlib.Core.List.{List, [], ◌∷◌}
use Rattle.std.specs.Prelude.{Option, None as none, Some as some}
use Prim.Native.Nat.{ℕ, zero, suc, ◌+◌, ◌≤◌, ◌<◌}
use borrow.Author.Tests.{eq-eqb, ne_eqb}
use Rattle.definition.specs.Booleans.{by_eq}
use Rattle.definition.specs.Words.{when◌then◌else◌, ◌=?◌, ◌∷ʳ◌}
use Rattle.definition.specs.Pool.{Conn, has, find, without, set_state, state_no}
use Rattle.definition.specs.declared.ConnectionState.{ConnectionState}
use Rattle.slots.specs.View.{Slot, vacant, with_state, slot}
use Rattle.slots.specs.Needs.{taken}

-- ── Slots ──────────────────────────────────────────────────────────────────────────────────────────────────────────────

unfoldable pub look : ℕ → List ℕ → List Slot → Option Slot
look n [] ss = none
look n (x ∷ xs) [] = none
look n (x ∷ xs) (s ∷ ss) = when x =? n then some s else look n xs ss

-- no number but 0 stands in two slots
abbrev pub Unique : List ℕ → Type 0
Unique l = (i j : ℕ) → i < length l → j < length l → 0 < get_or l i 0 → get_or l i 0 ≡ get_or l j 0 → i ≡ j

-- v stands in no slot but i, if it is a number
abbrev pub Fresh : List ℕ → ℕ → ℕ → Type 0
Fresh l i v = (j : ℕ) → j < length l → 0 < v → get_or l j 0 ≡ v → j ≡ i

pub unique_tail : (x : ℕ) (l : List ℕ) → Unique (x ∷ l) → Unique l
unique_tail x l u i j a b z e = omega (arith, u (suc i) (suc j) (omega arith) (omega arith) z e)

pub look_other : (k i v : ℕ) (s : Slot) (xs : List ℕ) (ss : List Slot) → (get_or xs i 0 ≡ k → ⊥) → (v ≡ k → ⊥) → look k (set xs i v) (set ss i s) ≡ look k xs ss
unfolding look when◌then◌else◌
look_other k i v s [] ss a b = refl
look_other k zero v s (x ∷ xs) [] a b = refl
look_other k (suc i) v s (x ∷ xs) [] a b = refl
look_other k zero v s (x ∷ xs) (t ∷ ss) a b = rw (ne_eqb v k b, ne_eqb x k a)
look_other k (suc i) v s (x ∷ xs) (t ∷ ss) a b = rw (look_other k i v s xs ss a b)

pub look_at : (k i : ℕ) (xs : List ℕ) (ss : List Slot) → length ss ≡ length xs → Unique xs → i < length xs → 0 < k → get_or xs i 0 ≡ k → look k xs ss ≡ some (get_or ss i vacant)
unfolding look when◌then◌else◌
look_at k i [] ss l u h z e = absurd (omega arith)
look_at k i (x ∷ xs) [] l u h z e = absurd (omega arith)
look_at k zero (x ∷ xs) (s ∷ ss) l u h z e = rw (eq-eqb x k e)
look_at k (suc i) (x ∷ xs) (s ∷ ss) l u h z e =
    let n : x ≡ k → ⊥ = λ q. omega (arith, u 0 (suc i) (omega arith) h (omega (arith, q)) (q ∙ sym e)) in
    rw (ne_eqb x k n) (look_at k i xs ss (omega arith) (unique_tail x xs u) (omega arith) z e)

pub look_none : (k : ℕ) (xs : List ℕ) (ss : List Slot) → ((j : ℕ) → j < length xs → get_or xs j 0 ≡ k → ⊥) → look k xs ss ≡ none
unfolding look when◌then◌else◌
look_none k [] ss h = refl
look_none k (x ∷ xs) [] h = refl
look_none k (x ∷ xs) (s ∷ ss) h = rw (ne_eqb x k (h 0 (omega arith))) (look_none k xs ss (λ j a. h (suc j) (omega arith)))

-- what stands at j once v is put at i
set_cases : {A : Type 0} (xs : List ℕ) (i v j : ℕ) → i < length xs → (j ≡ i → get_or (set xs i v) j 0 ≡ v → A) → ((j ≡ i → ⊥) → get_or (set xs i v) j 0 ≡ get_or xs j 0 → A) → A
set_cases xs i v j h f g = by_eq j i (λ e. f e (ap (λ (x : ℕ). get_or (set xs i v) x 0) e ∙ get_or-set_same xs i v 0 h)) (λ n. g n (get_or-set_other xs i j v 0 n))

pub unique_put : (xs : List ℕ) (i v : ℕ) → i < length xs → Unique xs → Fresh xs i v → Unique (set xs i v)
unique_put xs i v h u f a b la lb z e =
    let la' : a < length xs = omega (arith, length-set xs i v) in
    let lb' : b < length xs = omega (arith, length-set xs i v) in
    set_cases xs i v a h
    (λ ai ea. set_cases xs i v b h (λ bi eb. omega arith) (λ bn eb. omega (arith, f b lb' (omega arith) (omega arith))))
    (λ an ea. set_cases xs i v b h (λ bi eb. omega (arith, f a la' (omega arith) (omega arith))) (λ bn eb. u a b la' lb' (omega arith) (omega arith)))

pub fresh_zero : (xs : List ℕ) (i : ℕ) → Fresh xs i 0
fresh_zero xs i j a z e = absurd (omega arith)

pub fresh_old : (xs : List ℕ) (i : ℕ) → i < length xs → Unique xs → Fresh xs i (get_or xs i 0)
fresh_old xs i h u j a z e = u j i a h (omega arith) e

-- what is looked up once v and s are put in slot i
module _ (xs : List ℕ) (ss : List Slot) (i v : ℕ) (s : Slot) (l : length ss ≡ length xs) (h : i < length xs) (u : Unique xs) (f : Fresh xs i v) where
  pub look_put_new : 0 < v → look v (set xs i v) (set ss i s) ≡ some s
  look_put_new z =
      look_at v i (set xs i v) (set ss i s) (simp length-set l) (unique_put xs i v h u f) (rw length-set h) z (get_or-set_same xs i v 0 h)
      ∙ ap (λ (x : Slot). some x) (get_or-set_same ss i s vacant (omega arith))

  pub look_put_old : (k : ℕ) → 0 < k → (v ≡ k → ⊥) → get_or xs i 0 ≡ k → look k (set xs i v) (set ss i s) ≡ none
  look_put_old k z n e =
      look_none k (set xs i v) (set ss i s)
      (λ j a q. set_cases xs i v j h (λ ji ej. n (sym ej ∙ q)) (λ jn ej. jn (u j i (omega (arith, length-set xs i v)) h (omega arith) (omega arith))))

-- ── Lists of connections ───────────────────────────────────────────────────────────────────────────────────────────────

-- what a slot holds of a connection; and the connection of an id, a slot and a state
abbrev pub cell : Conn → Slot
cell c = slot c.generation c.time (state_no c.state)

abbrev pub conn_in : (id : ℕ) → Slot → ConnectionState → Conn
conn_in x s q = record { id = x; generation = s.generation; time = s.time; state = q }

unfoldable pub lookup : ℕ → List Conn → Option Slot
lookup n [] = none
lookup n (c ∷ cs) = when c.id =? n then some (cell c) else lookup n cs

-- no number twice
abbrev pub Once : List Conn → Type 0
Once [] = Unit {0}
Once (c ∷ l) = (lookup c.id l ≡ none) × Once l

pub none_not_some : {A : Type 0} {B : Type 0} (o : Option A) (a : A) → o ≡ none → o ≡ some a → B
none_not_some o a e f = let z : ◌≡◌ {A = ℕ} 0 1 = cc in absurd (omega arith)

pub lookup_other : (k n : ℕ) (l : List Conn) → (k ≡ n → ⊥) → lookup k (without n l) ≡ lookup k l
unfolding lookup when◌then◌else◌
lookup_other k n [] h = refl
lookup_other k n (c ∷ l) h =
    by_eq c.id n
    (λ e. let z : c.id ≡ k → ⊥ = λ q. h (sym q ∙ e) in rw (eq-eqb c.id n e, ne_eqb c.id k z))
    (λ e. rw (ne_eqb c.id n e, lookup_other k n l h))

pub lookup_gone : (n : ℕ) (l : List Conn) → Once l → lookup n (without n l) ≡ none
unfolding lookup when◌then◌else◌
lookup_gone n [] o = refl
lookup_gone n (c ∷ l) o =
    by_eq c.id n
    (λ e. rw (eq-eqb c.id n e) (ap (λ (x : ℕ). lookup x l) (sym e) ∙ o.0))
    (λ e. rw (ne_eqb c.id n e, ne_eqb c.id n e) (lookup_gone n l o.1))

pub once_without : (n : ℕ) (l : List Conn) → Once l → Once (without n l)
unfolding when◌then◌else◌
once_without n [] o = tt
once_without n (c ∷ l) o =
    by_eq c.id n
    (λ e. rw (eq-eqb c.id n e) o.1)
    (λ e. rw (ne_eqb c.id n e) (lookup_other c.id n l e ∙ o.0, once_without n l o.1))

pub length_without : (n : ℕ) (l : List Conn) (s : Slot) → lookup n l ≡ some s → length (without n l) + 1 ≡ length l
unfolding lookup when◌then◌else◌
length_without n [] s h = let z : ◌≡◌ {A = ℕ} 0 1 = cc in omega arith
length_without n (c ∷ l) s h =
    by_eq c.id n
    (λ e. rw (eq-eqb c.id n e) (omega arith))
    (λ e. rw (ne_eqb c.id n e) (omega (arith, length_without n l s (rw (ne_eqb c.id n e) at h))))

pub lookup_snoc_new : (c : Conn) (n : ℕ) (s : Slot) (l : List Conn) → c.id ≡ n → cell c ≡ s → lookup n l ≡ none → lookup n (l ∷ʳ c) ≡ some s
unfolding lookup when◌then◌else◌
lookup_snoc_new c n s [] i e h = rw (eq-eqb c.id n i, e)
lookup_snoc_new c n s (d ∷ l) i e h =
    by_eq d.id n
    (λ q. none_not_some (lookup n (d ∷ l)) (cell d) h (rw (eq-eqb d.id n q)))
    (λ q. rw (ne_eqb d.id n q) (lookup_snoc_new c n s l i e (rw (ne_eqb d.id n q) at h)))

pub lookup_snoc_other : (k : ℕ) (c : Conn) (l : List Conn) → (c.id ≡ k → ⊥) → lookup k (l ∷ʳ c) ≡ lookup k l
unfolding lookup when◌then◌else◌
lookup_snoc_other k c [] h = rw (ne_eqb c.id k h)
lookup_snoc_other k c (d ∷ l) h = rw (lookup_snoc_other k c l h)

pub once_snoc : (c : Conn) (l : List Conn) → Once l → lookup c.id l ≡ none → Once (l ∷ʳ c)
unfolding lookup when◌then◌else◌
once_snoc c [] o h = (refl, tt)
once_snoc c (d ∷ l) o h =
    by_eq d.id c.id
    (λ q. none_not_some (lookup c.id (d ∷ l)) (cell d) h (rw (eq-eqb d.id c.id q)))
    (λ q. (lookup_snoc_other d.id c l (λ e. q (sym e)) ∙ o.0, once_snoc c l o.1 (rw (ne_eqb d.id c.id q) at h)))

-- one is turned: it has its number and its generation still
module _ (q : ConnectionState) (t n : ℕ) where
  pub lookup_set_other : (k : ℕ) (l : List Conn) → (k ≡ n → ⊥) → lookup k (set_state q t n l) ≡ lookup k l
  unfolding lookup when◌then◌else◌
  lookup_set_other k [] h = refl
  lookup_set_other k (c ∷ l) h =
      by_eq c.id n
      (λ e. let z : c.id ≡ k → ⊥ = λ y. h (sym y ∙ e) in rw (eq-eqb c.id n e, ne_eqb c.id k z))
      (λ e. rw (ne_eqb c.id n e, lookup_set_other k l h))

  pub lookup_set : (l : List Conn) (s : Slot) → lookup n l ≡ some s → lookup n (set_state q t n l) ≡ some (with_state (state_no q) t s)
  unfolding lookup when◌then◌else◌
  lookup_set [] s h = none_not_some (lookup n []) s refl h
  lookup_set (c ∷ l) s h =
      by_eq c.id n
      (λ e. let g : some (cell c) ≡ some s = rw (eq-eqb c.id n e) at h in let d : cell c ≡ s = cc in
      rw (eq-eqb c.id n e, eq-eqb c.id n e) (ap (λ (x : Slot). some (with_state (state_no q) t x)) d))
      (λ e. rw (ne_eqb c.id n e, ne_eqb c.id n e) (lookup_set l s (rw (ne_eqb c.id n e) at h)))

  pub once_set : (l : List Conn) → Once l → Once (set_state q t n l)
  unfolding when◌then◌else◌
  once_set [] o = tt
  once_set (c ∷ l) o =
      by_eq c.id n
      (λ e. rw (eq-eqb c.id n e) o)
      (λ e. rw (ne_eqb c.id n e) (lookup_set_other c.id l e ∙ o.0, once_set l o.1))

  pub length_set_state : (l : List Conn) → length (set_state q t n l) ≡ length l
  unfolding when◌then◌else◌
  length_set_state [] = refl
  length_set_state (c ∷ l) = by_eq c.id n (λ e. rw (eq-eqb c.id n e)) (λ e. rw (ne_eqb c.id n e) (ap suc (length_set_state l)))

-- the definition's words for it
pub has_not : (n : ℕ) (l : List Conn) → lookup n l ≡ none → has n l ≡ false
unfolding lookup when◌then◌else◌
has_not n [] h = refl
has_not n (c ∷ l) h =
    by_eq c.id n
    (λ e. none_not_some (lookup n (c ∷ l)) (cell c) h (rw (eq-eqb c.id n e)))
    (λ e. rw (ne_eqb c.id n e) (has_not n l (rw (ne_eqb c.id n e) at h)))

pub has_it : (n : ℕ) (l : List Conn) (s : Slot) → lookup n l ≡ some s → (has n l ≡ true) × (cell (find n l) ≡ s)
unfolding lookup when◌then◌else◌
has_it n [] s h = none_not_some (lookup n []) s refl h
has_it n (c ∷ l) s h =
    by_eq c.id n
    (λ e. let g : some (cell c) ≡ some s = rw (eq-eqb c.id n e) at h in let d : cell c ≡ s = cc in
    (rw (eq-eqb c.id n e), rw (eq-eqb c.id n e) d))
    (λ e. let r = has_it n l s (rw (ne_eqb c.id n e) at h) in (rw (ne_eqb c.id n e) r.0, rw (ne_eqb c.id n e) r.1))

-- ── How many slots are taken ───────────────────────────────────────────────────────────────────────────────────────────

abbrev pub one : ℕ → ℕ
one x = when x =? 0 then 0 else 1

pub one_pos : (x : ℕ) → 0 < x → one x ≡ 1
unfolding when◌then◌else◌
one_pos x h = rw (ne_eqb x 0 (λ e. omega arith))

pub one_zero : one 0 ≡ 0
unfolding when◌then◌else◌
one_zero = refl

pub taken_put : (l : List ℕ) (i v : ℕ) → i < length l → taken (set l i v) + one (get_or l i 0) ≡ taken l + one v
unfolding taken
taken_put [] i v h = absurd (omega arith)
taken_put (x ∷ l) zero v h = omega arith
taken_put (x ∷ l) (suc i) v h = omega (arith, taken_put l i v (omega arith))

pub taken_at_most : (l : List ℕ) → taken l ≤ length l
unfolding taken when◌then◌else◌
taken_at_most [] = omega arith
taken_at_most (x ∷ l) = by_eq x 0 (λ e. rw (eq-eqb x 0 e) (omega (arith, taken_at_most l))) (λ n. rw (ne_eqb x 0 n) (omega (arith, taken_at_most l)))
