-- What the exits rest on: states as ranges, and tests in two groups.
use Rattle.std.specs.Prelude.{◌≡◌, refl, Bool, true, false, ◌&&◌, List, [], ◌∷◌, ℕ, ◌≤◌}
use Rattle.std.proofs.Common.{sym, ◌∙◌, true≢false, arith, le-leb, eq-eqb, leb-true, leb-false, eqb-true}
use Rattle.std.specs.Prelude.{None as none, Some as some}
use Rattle.definition.specs.Words.{when◌then◌else◌, ◌≤?◌, ◌=?◌}
use Rattle.definition.specs.Steps.{◌to◌holds◌}
use Rattle.definition.specs.Refusals.{Test, ◌if◌, first}
use Rattle.definition.specs.declared.Refusal.{Refusal}

-- one state, as a range
pub one_state : (k s : ℕ) → (s =? k) ≡ (k to k holds s)
one_state k s = go (s =? k) refl
  where
    go : (b : Bool) → (s =? k) ≡ b → b ≡ (k to k holds s)
    go true e = let q = eqb-true s k e in sym (rw (le-leb k s (omega arith), le-leb s k (omega arith)))
    go false e = below (k ≤? s) refl (s ≤? k) refl
      where
        below : (x : Bool) → (k ≤? s) ≡ x → (y : Bool) → (s ≤? k) ≡ y → false ≡ (x && y)
        below true p true q = let z : s ≡ k = omega (arith, leb-true k s p, leb-true s k q) in absurd (true≢false (sym (eq-eqb s k z) ∙ e))
        below true p false q = refl
        below false p y q = refl

-- outside a range
pub outside : (low high s : ℕ) → (low ≤ s → s ≤ high → ⊥) → (low to high holds s) ≡ false
outside low high s n = go (low ≤? s) refl (s ≤? high) refl
  where
    go : (x : Bool) → (low ≤? s) ≡ x → (y : Bool) → (s ≤? high) ≡ y → (x && y) ≡ false
    go true p true q = absurd (n (leb-true low s p) (leb-true s high q))
    go true p false q = refl
    go false p y q = refl

-- tests in two groups: the first of the first group, or else of the second
pub first_of : (a b c d : Test) (ts : List Test) → (first (a ∷ b ∷ c ∷ d ∷ []) ≡ none → first (a ∷ b ∷ c ∷ d ∷ ts) ≡ first ts)
unfolding first when◌then◌else◌
first_of (x if true) b c d ts h = let z : ◌≡◌ {A = ℕ} 0 1 = cc in absurd (omega arith)
first_of (x if false) (y if true) c d ts h = let z : ◌≡◌ {A = ℕ} 0 1 = cc in absurd (omega arith)
first_of (x if false) (y if false) (w if true) d ts h = let z : ◌≡◌ {A = ℕ} 0 1 = cc in absurd (omega arith)
first_of (x if false) (y if false) (w if false) (v if true) ts h = let z : ◌≡◌ {A = ℕ} 0 1 = cc in absurd (omega arith)
first_of (x if false) (y if false) (w if false) (v if false) ts h = refl

pub first_by : (a b c d : Test) (ts : List Test) (r : Refusal) → (first (a ∷ b ∷ c ∷ d ∷ []) ≡ some r → first (a ∷ b ∷ c ∷ d ∷ ts) ≡ some r)
unfolding first when◌then◌else◌
first_by (x if true) b c d ts r h = h
first_by (x if false) (y if true) c d ts r h = h
first_by (x if false) (y if false) (w if true) d ts r h = h
first_by (x if false) (y if false) (w if false) (v if true) ts r h = h
first_by (x if false) (y if false) (w if false) (v if false) ts r h = let z : ◌≡◌ {A = ℕ} 0 1 = cc in absurd (omega arith)
