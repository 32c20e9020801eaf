-- A class of slots (the lent ones, the pending ones) and a list agree: whoever looks a number up finds the same.
use Rattle.std.specs.Prelude.{◌≡◌, refl, Bool, true, false, List, ℕ, ◌<◌, length, get_or, set}
use Rattle.std.proofs.Common.{ap, sym, ◌∙◌, arith}
use Rattle.std.specs.Prelude.{Option, None as none, Some as some}
use Rattle.definition.specs.Booleans.{by_eq}
use Rattle.definition.specs.Words.{when◌then◌else◌, ◌∷ʳ◌}
use Rattle.definition.specs.Pool.{Conn, without, set_state, state_no}
use Rattle.definition.specs.declared.ConnectionState.{ConnectionState}
use Rattle.slots.specs.View.{Slot, vacant, with_state}
use Rattle.refinement.specs.Table.{look, Unique, Fresh, look_other, look_at, look_none, look_put_new, look_put_old, cell, lookup, Once, lookup_other, lookup_gone, once_without, lookup_snoc_new, lookup_snoc_other, once_snoc, lookup_set, lookup_set_other, once_set}

-- of the numbers of states
abbrev pub Class : Type 0
Class = ℕ → Bool

unfoldable pub only : Class → Option Slot → Option Slot
only t none = none
only t (some s) = when t s.state then some s else none

pub only_out : (t : Class) (s : Slot) → t s.state ≡ false → only t (some s) ≡ none
unfolding only when◌then◌else◌
only_out t s h = rw h

pub only_in : (t : Class) (s : Slot) → t s.state ≡ true → only t (some s) ≡ some s
unfolding only when◌then◌else◌
only_in t s h = rw h

pub only_none : (t : Class) → only t none ≡ none
unfolding only
only_none t = refl

pub record Agrees (t : Class) (xs : List ℕ) (ss : List Slot) (l : List Conn) : Type 0 where
  pub finds : (k : ℕ) → 0 < k → only t (look k xs ss) ≡ lookup k l
  pub named : lookup 0 l ≡ none
  pub once : Once l

-- v and s are put in slot i
module _ (t : Class) (xs : List ℕ) (ss : List Slot) (i v : ℕ) (s : Slot) (len : length ss ≡ length xs) (h : i < length xs) (u : Unique xs) (f : Fresh xs i v) where
  -- what slot i held is not of the class
  before_none : (0 < get_or xs i 0 → t (get_or ss i vacant).state ≡ false) → (k : ℕ) → 0 < k → get_or xs i 0 ≡ k → only t (look k xs ss) ≡ none
  before_none o k z e = ap (only t) (look_at k i xs ss len u h z e) ∙ only_out t (get_or ss i vacant) (o (omega arith))

  fresh_none : (0 < get_or xs i 0 → t (get_or ss i vacant).state ≡ false) → 0 < v → only t (look v xs ss) ≡ none
  fresh_none o z =
      by_eq (get_or xs i 0) v
      (λ e. before_none o v z e)
      (λ n. ap (only t) (look_none v xs ss (λ j a e. n (ap (λ (x : ℕ). get_or xs x 0) (sym (f j a z e)) ∙ e))) ∙ only_none t)

  -- what is found under v now
  now_new : (k : ℕ) → 0 < k → v ≡ k → only t (look k (set xs i v) (set ss i s)) ≡ only t (some s)
  now_new k z e = ap (λ (x : ℕ). only t (look x (set xs i v) (set ss i s))) (sym e) ∙ ap (only t) (look_put_new xs ss i v s len h u f (omega arith))

  -- and under what was there
  now_old : (k : ℕ) → 0 < k → (v ≡ k → ⊥) → get_or xs i 0 ≡ k → only t (look k (set xs i v) (set ss i s)) ≡ none
  now_old k z e d = ap (only t) (look_put_old xs ss i v s len h u f k z e d) ∙ only_none t

  -- neither what slot i held nor what it holds is of the class
  pub agrees_same : {l : List Conn} → (0 < get_or xs i 0 → t (get_or ss i vacant).state ≡ false) → (0 < v → t s.state ≡ false) → Agrees t xs ss l → Agrees t (set xs i v) (set ss i s) l
  agrees_same o n a = record {
    once = a.once;
    named = a.named;
    finds = λ k z. by_eq v k
        (λ e. let zv : 0 < v = omega arith in now_new k z e ∙ only_out t s (n zv) ∙ sym (fresh_none o zv) ∙ ap (λ (x : ℕ). only t (look x xs ss)) e ∙ a.finds k z)
        (λ e. by_eq (get_or xs i 0) k
        (λ d. now_old k z e d ∙ sym (before_none o k z d) ∙ a.finds k z)
        (λ d. ap (only t) (look_other k i v s xs ss d e) ∙ a.finds k z));
  }

  -- what slot i holds is of the class, and what it held was not
  pub agrees_in : {l : List Conn} (c : Conn) → c.id ≡ v → cell c ≡ s → 0 < v → (0 < get_or xs i 0 → t (get_or ss i vacant).state ≡ false) → t s.state ≡ true → Agrees t xs ss l → Agrees t (set xs i v) (set ss i s) (l ∷ʳ c)
  agrees_in {l} c ci cs zv o n a =
      let away : lookup v l ≡ none = sym (a.finds v zv) ∙ fresh_none o zv in
      let other : (k : ℕ) → (v ≡ k → ⊥) → lookup k (l ∷ʳ c) ≡ lookup k l = λ k e. lookup_snoc_other k c l (λ q. e (sym ci ∙ q)) in
      record {
        once = once_snoc c l a.once (ap (λ (x : ℕ). lookup x l) ci ∙ away);
        named = other 0 (λ q. omega arith) ∙ a.named;
        finds = λ k z. by_eq v k
            (λ e. now_new k z e ∙ only_in t s n ∙ sym (lookup_snoc_new c v s l ci cs away) ∙ ap (λ (x : ℕ). lookup x (l ∷ʳ c)) e)
            (λ e. by_eq (get_or xs i 0) k
            (λ d. now_old k z e d ∙ sym (before_none o k z d) ∙ a.finds k z ∙ sym (other k e))
            (λ d. ap (only t) (look_other k i v s xs ss d e) ∙ a.finds k z ∙ sym (other k e)));
      }

  -- what slot i held was of the class, and what it holds is not: it is vacant, or has its number still
  pub agrees_out : {l : List Conn} → 0 < get_or xs i 0 → (0 < v → v ≡ get_or xs i 0) → (0 < v → t s.state ≡ false) → Agrees t xs ss l → Agrees t (set xs i v) (set ss i s) (without (get_or xs i 0) l)
  agrees_out {l} zo w n a =
      let other : (k : ℕ) → (get_or xs i 0 ≡ k → ⊥) → lookup k (without (get_or xs i 0) l) ≡ lookup k l = λ k d. lookup_other k (get_or xs i 0) l (λ e. d (sym e)) in
      record {
        once = once_without (get_or xs i 0) l a.once;
        named = other 0 (λ q. omega arith) ∙ a.named;
        finds = λ k z. by_eq (get_or xs i 0) k
            (λ d. (by_eq v k (λ e. now_new k z e ∙ only_out t s (n (omega arith))) (λ e. now_old k z e d))
            ∙ sym (lookup_gone (get_or xs i 0) l a.once) ∙ ap (λ (x : ℕ). lookup x (without (get_or xs i 0) l)) d)
            (λ d. ap (only t) (look_other k i v s xs ss d (λ e. d (sym (w (omega arith)) ∙ e))) ∙ a.finds k z ∙ sym (other k d));
      }

-- slot i is of the class before and after, and is turned
pub agrees_set : (t : Class) (xs : List ℕ) (ss : List Slot) (i : ℕ) (q : ConnectionState) (c : ℕ) (len : length ss ≡ length xs) (h : i < length xs) (u : Unique xs) (f : Fresh xs i (get_or xs i 0)) {l : List Conn}
    → 0 < get_or xs i 0 → t (get_or ss i vacant).state ≡ true → t (state_no q) ≡ true → Agrees t xs ss l → Agrees t (set xs i (get_or xs i 0)) (set ss i (with_state (state_no q) c (get_or ss i vacant))) (set_state q c (get_or xs i 0) l)
agrees_set t xs ss i q c len h u f {l} z b n a =
    let x = get_or xs i 0 in
    let s = get_or ss i vacant in
    let there : lookup x l ≡ some s = sym (a.finds x z) ∙ ap (only t) (look_at x i xs ss len u h z refl) ∙ only_in t s b in
    record {
      once = once_set q c x l a.once;
      named = lookup_set_other q c x 0 l (λ e. omega arith) ∙ a.named;
      finds = λ k zk. by_eq x k
          (λ e. now_new t xs ss i x (with_state (state_no q) c s) len h u f k zk e ∙ only_in t (with_state (state_no q) c s) n ∙ sym (lookup_set q c x l s there) ∙ ap (λ (y : ℕ). lookup y (set_state q c x l)) e)
          (λ e. ap (only t) (look_other k i x (with_state (state_no q) c s) xs ss e e) ∙ a.finds k zk ∙ sym (lookup_set_other q c x k l (λ d. e (sym d))));
    }
