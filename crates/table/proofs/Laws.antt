-- Laws that the proofs cite: of the search and of the shift, as std's methods say them.
use Rattle.std.specs.Prelude.{◌≡◌, refl, Bool, true, false, List, [], ◌∷◌, ◌++◌, ℕ, zero, suc, ◌+◌, ◌-◌, ◌≤◌, ◌<◌, length, take, drop, set}
use Rattle.std.specs.List.{copy_within, position, position_or_len}
use Rattle.std.specs.Option.{unwrap_or}
use Rattle.std.proofs.Common.{sym, ap, append_assoc, ◌∙◌, arith, length-take-le, lt-ltb, le-ltb, cond, not, nat_lt, Some, None}
use Rattle.std.proofs.Math.Seq.{take-nil, take_all}
use Rattle.definition.specs.Words.{when◌then◌else◌, ◌=?◌}
use Rattle.definition.specs.Booleans.{by_lt}
use Rattle.slots.specs.Order.{place_by, shifted}
use Rattle.slots.specs.OrderLaws.{place_most}

-- ── The search ─────────────────────────────────────────────────────────────────────────────────────────────────────────

module _ (f : ℕ → ℕ) (x : ℕ) where
  abbrev has : ℕ → Bool
  has v = f v =? x

  first : (n : ℕ) (l : List ℕ) → n ≤ length l → position_or_len has (take n l) ≡ place_by f x n l
  unfolding place_by when◌then◌else◌
  first zero l h = refl
  first (suc n) [] h = absurd (omega arith)
  first (suc n) (y ∷ l) h = go (has y) _ _ (first n l (omega arith))
    where
      go : (b : Bool) (i j : ℕ) → i ≡ j → cond (not b) (1 + i) 0 ≡ (when b then 0 else suc j)
      go true i j e = refl
      go false i j e = omega arith

  -- `position` among the first n, or n
  pub found : (n : ℕ) (l : List ℕ) → n ≤ length l → unwrap_or (position has (take n l)) n ≡ place_by f x n l
  found n l h = pick _ (sym (first n l h)) (length-take-le n l h) (place_most f x n l)
    where
      pick : {p : ℕ} (i : ℕ) → p ≡ i → length (take n l) ≡ n → p ≤ n → unwrap_or (cond (nat_lt i (length (take n l))) (Some i) None) n ≡ p
      pick {p} i e len low = rw (len, ← e) (by_lt p n (λ k. rw (lt-ltb p n k)) (λ k. let q : n ≡ p = omega arith in rw (le-ltb p n k) q))

  -- and of all
  pub found_all : (n : ℕ) (l : List ℕ) → length l ≡ n → unwrap_or (position has l) n ≡ place_by f x n l
  found_all n l e = ap (λ (r : List ℕ). unwrap_or (position has r) n) (sym (take_all n l (omega arith))) ∙ found n l (omega arith)

-- ── The shift ──────────────────────────────────────────────────────────────────────────────────────────────────────────

-- all but the front, moved up, and the last written
moved_up : {A : Type 0} (x : A) (r : List A) (v : A) → set (take (length r) r ++ drop (length r) (x ∷ r)) (length r) v ≡ r ++ v ∷ []
moved_up x [] v = refl
moved_up x (y ∷ r) v = ap (λ l. y ∷ l) (moved_up y r v)

pub shift_set : {A : Type 0} (l : List A) (v : A) {moved : List A} {last : ℕ} → moved ≡ copy_within l 1 (length l) 0 → suc last ≡ length l → set moved last v ≡ drop 1 l ++ v ∷ []
shift_set [] v m h = absurd (omega arith)
shift_set (x ∷ r) v {last} m h =
    let e : suc (length r) - 1 ≡ length r = omega arith in
    let z : 0 + length r ≡ length r = omega arith in
    let k : last ≡ length r = omega (arith, h) in
    rw (m, e, z, k) (moved_up x r v)

tail : (m : ℕ) (l : List ℕ) → drop 1 (take (suc m) l) ≡ take m (drop 1 l)
tail m [] = sym (take-nil m)
tail m (x ∷ l) = refl

-- the first n, with the front gone and a 0 behind, in their place
pub shift_front : (n : ℕ) (l : List ℕ) → 0 < n → (drop 1 (take n l) ++ 0 ∷ []) ++ drop n l ≡ shifted n l
unfolding shifted
shift_front zero l z = absurd (omega arith)
shift_front (suc n) l z = let e : suc n - 1 ≡ n = omega arith in rw (e, tail n l) (append_assoc (take n (drop 1 l)) (0 ∷ []) (drop (suc n) l))
