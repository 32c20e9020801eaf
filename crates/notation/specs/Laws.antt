-- One law for each exit of the reading of a word: a name that is met, or passed; a number that fits, or does not.
use Rattle.std.specs.Prelude.{◌≡◌, refl, Bool, true, false, List, ℕ, ◌≤◌, Some, None, Result, Ok, Err, MatchOption, ⊤}
use Rattle.std.proofs.Common.{leb-true}
use Rattle.definition.specs.Words.{when◌then◌else◌, ◌≤?◌}
use Rattle.spelling.specs.declared.NumberError.{NumberError}
use Rattle.spelling.specs.Spelling.{decimal, number_of}
use Rattle.notation.specs.Notation.{fits, number_up_to, most_small, small_number}

-- the first of two places, and the second
pub picked : {A : Type 0} (b : Bool) (x y : A) → b ≡ true → (when b then x else y) ≡ x
unfolding when◌then◌else◌
picked b x y e = rw e

pub passed : {A : Type 0} (b : Bool) (x y : A) → b ≡ false → (when b then x else y) ≡ y
unfolding when◌then◌else◌
passed b x y e = rw e

-- nothing above the largest is a number
fit_bound : (largest v : ℕ) (b : Bool) → (v ≤? largest) ≡ b → MatchOption (when b then Some v else None) ⊤ (λ n. n ≤ largest)
unfolding when◌then◌else◌
fit_bound largest v true e = leb-true v largest e
fit_bound largest v false e = tt

number_bound : (largest : ℕ) (r : Result ℕ NumberError) → MatchOption (fits largest r) ⊤ (λ n. n ≤ largest)
number_bound largest (Ok v) = fit_bound largest v (v ≤? largest) refl
number_bound largest (Err e) = tt

pub at_most : (largest : ℕ) (w : List ℕ) → MatchOption (number_up_to largest w) ⊤ (λ n. n ≤ largest)
unfolding number_up_to
at_most largest w = number_bound largest (number_of (decimal w))

pub small_at_most : (w : List ℕ) → MatchOption (small_number w) ⊤ (λ n. n ≤ most_small)
unfolding small_number
small_at_most w = at_most most_small w
