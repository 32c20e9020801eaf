-- Small words that the definition is written in: tests, choice, and lists.
use Rattle.std.specs.Prelude.{Bool, true, false, List, [], ◌∷◌, ◌++◌, ℕ, ltb, leb, eqb}

infixr 5 when◌then◌else◌
infix 40 ◌<?◌
infix 40 ◌≤?◌
infix 40 ◌=?◌
unfoldable pub when◌then◌else◌ : {A : Type 0} → Bool → A → A → A
when◌then◌else◌ true a b = a
when◌then◌else◌ false a b = b

abbrev pub ◌<?◌ : ℕ → ℕ → Bool
◌<?◌ = ltb

abbrev pub ◌≤?◌ : ℕ → ℕ → Bool
◌≤?◌ = leb

abbrev pub ◌=?◌ : ℕ → ℕ → Bool
◌=?◌ = eqb

-- one more at the back
infixl 65 ◌∷ʳ◌
abbrev pub ◌∷ʳ◌ : {A : Type 0} → List A → A → List A
xs ∷ʳ x = xs ++ x ∷ []

-- one of them passes the test
abbrev pub any? : {A : Type 0} → (A → Bool) → List A → Bool
any? t [] = false
any? t (x ∷ xs) = when t x then true else any? t xs

abbrev pub some? : {A : Type 0} → List A → Bool
some? [] = false
some? (x ∷ xs) = true
