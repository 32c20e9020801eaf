-- The laws of order lists, of places, and of the numbers of states.
use Rattle.std.specs.Prelude.{◌≡◌, refl, Bool, true, false, ◌&&◌, List, [], ◌∷◌, length, get_or, take}
use Rattle.std.proofs.lemmas.Bool.{false≢true, lt-leb}
use Prim.Native.Nat.{ℕ, suc, ◌-◌, ◌≤◌, ◌<◌}
use native.Mathlib.Omega.{arith}
use Rattle.std.proofs.Math.ListN.{drop}
use Rattle.std.proofs.Common.{take_at, leb-true, le-leb}
use Rattle.definition.specs.Words.{◌≤?◌}
use Rattle.definition.specs.Steps.{◌to◌holds◌}
use Rattle.slots.specs.Order.{place_by, shifted}
use Rattle.slots.specs.OrderLaws.{length_tail, shifted_clear, place_before}

-- ── Numbers of states ──────────────────────────────────────────────────────────────────────────────────────────────────

pub within : (a b k : ℕ) → (a to b holds k) ≡ true → (a ≤ k) × (k ≤ b)
within a b k h = go (a ≤? k) (k ≤? b) refl refl h
  where
    go : (x y : Bool) → (a ≤? k) ≡ x → (k ≤? b) ≡ y → (x && y) ≡ true → (a ≤ k) × (k ≤ b)
    go true true e f g = (leb-true a k e, leb-true k b f)
    go true false e f g = absurd (false≢true g)
    go false y e f g = absurd (false≢true g)

pub holds_in : (a b k : ℕ) → a ≤ k → k ≤ b → (a to b holds k) ≡ true
holds_in a b k g h = rw (le-leb a k g, le-leb k b h)

pub holds_below : (a b k : ℕ) → k < a → (a to b holds k) ≡ false
holds_below a b k h = rw (lt-leb a k h)

pub holds_above : (a b k : ℕ) → b < k → (a to b holds k) ≡ false
holds_above a b k h = go (a ≤? k)
  where
    go : (x : Bool) → (x && k ≤? b) ≡ false
    go true = lt-leb k b h
    go false = refl

-- ── The front of a list ────────────────────────────────────────────────────────────────────────────────────────────────

pub take_front : (a : List ℕ) (k : ℕ) → 0 < length a → take (suc k) a ≡ get_or a 0 0 ∷ take k (drop 1 a)
take_front [] k h = absurd (omega arith)
take_front (x ∷ a) k h = refl

module _ (a : List ℕ) (k : ℕ) (h : k < length a) where
  pub take_rest : take k (shifted (suc k) a) ≡ take k (drop 1 a)
  unfolding shifted
  take_rest = let e : suc k - 1 ≡ k = omega arith in rw e (take_at (take k (drop 1 a)) (0 ∷ drop (suc k) a) k (length_tail k a h))

  pub shifted_rest : ((j : ℕ) → suc k ≤ j → get_or a j 0 ≡ 0) → (j : ℕ) → k ≤ j → get_or (shifted (suc k) a) j 0 ≡ 0
  shifted_rest r j g = shifted_clear (suc k) a (omega arith) r j (omega arith)

-- ── Places ─────────────────────────────────────────────────────────────────────────────────────────────────────────────

-- where no place is found, the number stands nowhere
pub place_not : (f : ℕ → ℕ) (x n : ℕ) (l : List ℕ) → n ≤ place_by f x n l → (j : ℕ) → j < n → f (get_or l j 0) ≡ x → ⊥
place_not f x n l h j g = place_before f x n l j (omega arith)
