-- Sums over lists of numbers, at any weight: with weight 1 a sum is a length, with weight "1 at i, else 0" it is how often i stands there.
use Rattle.std.specs.Prelude.{◌≡◌, refl, Bool, true, false, ℕ, ◌+◌, length}
use Rattle.std.proofs.Common.{ap, arith, eqb-true}
use Rattle.std.proofs.lemmas.Bool.{false≢true}
use mathlib.Core.List.{List, [], ◌∷◌, ◌++◌, reverse, reverse-cons, map-append}
use Rattle.definition.specs.Words.{when◌then◌else◌, ◌=?◌}
use Rattle.definition.specs.Pool.{Conn, has, without, set_state}
use Rattle.definition.specs.declared.ConnectionState.{ConnectionState}
use Rattle.definition.specs.Log.{numbers, sum_of}
use Rattle.definition.proofs.Sentences.{if_both}

pub sum_append : (w : ℕ → ℕ) (a b : List ℕ) → sum_of w (a ++ b) ≡ sum_of w a + sum_of w b
unfolding sum_of
sum_append w [] b = omega arith
sum_append w (n ∷ a) b = rw (sum_append w a b) (omega arith)

pub sum_length : (l : List ℕ) → sum_of (λ n. 1) l ≡ length l
unfolding sum_of
sum_length [] = refl
sum_length (n ∷ l) = rw (sum_length l) (omega arith)

pub sum_reverse : (w : ℕ → ℕ) (l : List Conn) → sum_of w (numbers (reverse l)) ≡ sum_of w (numbers l)
unfolding sum_of
sum_reverse w [] = refl
sum_reverse w (c ∷ l) = rw (reverse-cons, map-append, sum_append, sum_reverse w l) (omega arith)

without_step : (w : ℕ → ℕ) (n : ℕ) (c : Conn) (l : List Conn) (b : Bool) → (c.id =? n) ≡ b → (when b then true else has n l) ≡ true
    → (has n l ≡ true → sum_of w (numbers l) ≡ w n + sum_of w (numbers (without n l)))
    → w c.id + sum_of w (numbers l) ≡ w n + sum_of w (numbers (when b then l else c ∷ without n l))
unfolding sum_of when◌then◌else◌
without_step w n c l true e h ih = rw (eqb-true c.id n e)
without_step w n c l false e h ih = omega (arith, ih h)

pub sum_without : (w : ℕ → ℕ) (n : ℕ) (l : List Conn) → has n l ≡ true → sum_of w (numbers l) ≡ w n + sum_of w (numbers (without n l))
unfolding sum_of
sum_without w n [] h = absurd (false≢true h)
sum_without w n (c ∷ l) h = without_step w n c l (c.id =? n) refl h (λ k. sum_without w n l k)

pub turn_numbers : (s : ConnectionState) (t n : ℕ) (l : List Conn) → numbers (set_state s t n l) ≡ numbers l
turn_numbers s t n [] = refl
turn_numbers s t n (c ∷ l) = if_both (λ (x : List Conn). numbers x ≡ c.id ∷ numbers l) (λ h. refl) (λ h. ap (λ x. c.id ∷ x) (turn_numbers s t n l))
