-- What is known of the slot that is found for an id, and of the one that is found free: all that anybody above relies on.
use Rattle.std.specs.Prelude.{◌≡◌, Bool, true, false, List, [], ◌∷◌, ℕ, zero, suc, ◌+◌, ◌≤◌, ◌<◌, length, get_or, set}
use Rattle.std.proofs.Common.{inl, inr, eq-or-lt_of_le, arith, get_or-set_same}
use Rattle.definition.specs.Words.{when◌then◌else◌, ◌=?◌}
use Rattle.definition.specs.Pool.{slot_count}
use Rattle.slots.specs.Order.{place_by, place, slot_holding, vacant_slot}
use Rattle.slots.specs.OrderLaws.{place_most, place_found, place_before}
use Rattle.slots.specs.Needs.{taken}

module _ (ids : List ℕ) where
  -- the slot that is found holds the id; and where none is found, no slot holds it
  pub holding_at : (id : ℕ) → slot_holding id ids < slot_count → get_or ids (slot_holding id ids) 0 ≡ id
  unfolding slot_holding
  holding_at id h = place_found (λ v. v) id slot_count ids h

  pub holding_none : (id : ℕ) → slot_count ≤ slot_holding id ids → (j : ℕ) → j < slot_count → get_or ids j 0 ≡ id → ⊥
  unfolding slot_holding
  holding_none id h j g = place_before (λ v. v) id slot_count ids j (omega arith)

  -- the slot that is found free has no id
  pub vacant_at : vacant_slot ids < slot_count → get_or ids (vacant_slot ids) 0 ≡ 0
  unfolding vacant_slot
  vacant_at h = place_found (λ v. v) 0 slot_count ids h

place_if : (b : Bool) (n t x : ℕ) → (when b then 0 else 1) + t < suc n → (t < n → x < n) → (when b then 0 else suc x) < suc n
unfolding when◌then◌else◌
place_if true n t x h f = omega arith
place_if false n t x h f = omega (arith, f (omega arith))

place_free : (n : ℕ) (l : List ℕ) → length l ≡ n → taken l < n → place 0 n l < n
unfolding taken place_by
place_free zero l e h = absurd (omega arith)
place_free (suc n) [] e h = absurd (omega arith)
place_free (suc n) (x ∷ l) e h = place_if (x =? 0) n (taken l) _ h (place_free n l (omega arith))

-- where not all are taken, one is found free
pub vacant_found : (ids : List ℕ) → length ids ≡ slot_count → taken ids < slot_count → vacant_slot ids < slot_count
unfolding vacant_slot
vacant_found ids e h = place_free slot_count ids e h

-- where one has been freed, one is found
pub vacant_freed : (ids : List ℕ) → length ids ≡ slot_count → (i : ℕ) → i < slot_count → vacant_slot (set ids i 0) < slot_count
unfolding vacant_slot
vacant_freed ids e i low =
    let freed = get_or-set_same ids i 0 0 (omega (arith, e)) in
    elim (eq-or-lt_of_le (place_most (λ v. v) 0 slot_count (set ids i 0)))
    [ inl q ↦ absurd (place_before (λ v. v) 0 slot_count (set ids i 0) i (omega (arith, q)) freed) | inr q ↦ q ]

-- the slot found free lies below a bound that fewer slots than it are taken
place_low : (n : ℕ) (l : List ℕ) → place 0 n l ≤ taken l
unfolding taken place_by when◌then◌else◌
place_low zero l = omega arith
place_low (suc n) [] = omega arith
place_low (suc n) (x ∷ l) = go (x =? 0) (place_low n l)
  where
    go : (b : Bool) → place 0 n l ≤ taken l → (when b then 0 else suc (place 0 n l)) ≤ (when b then 0 else 1) + taken l
    go true h = omega arith
    go false h = omega arith

pub vacant_below : (ids : List ℕ) (m : ℕ) → taken ids < m → vacant_slot ids < m
unfolding vacant_slot
vacant_below ids m h = omega (arith, place_low slot_count ids)
