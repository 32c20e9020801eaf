-- Columns read side by side.
use Rattle.std.specs.Prelude.{◌≡◌, length, get_or, set, replicate}
use Rattle.std.proofs.Math.Path.{refl, ap}
use mathlib.Core.List.{List, [], ◌∷◌, map}
use Prim.Native.Nat.{ℕ, zero, suc, ◌≤◌, ◌<◌}
use native.Mathlib.Omega.{arith}

module _ {A B C : Type 0} (f : A → B → C) where
  unfoldable pub zip : List A → List B → List C
  zip [] ys = []
  zip (a ∷ xs) [] = []
  zip (a ∷ xs) (b ∷ ys) = f a b ∷ zip xs ys

  pub zip_set : (xs : List A) (ys : List B) (i : ℕ) (a : A) (b : B) → zip (set xs i a) (set ys i b) ≡ set (zip xs ys) i (f a b)
  unfolding zip
  zip_set [] ys i a b = refl
  zip_set (x ∷ xs) [] zero a b = refl
  zip_set (x ∷ xs) [] (suc i) a b = refl
  zip_set (x ∷ xs) (y ∷ ys) zero a b = refl
  zip_set (x ∷ xs) (y ∷ ys) (suc i) a b = ap (λ (r : List C). f x y ∷ r) (zip_set xs ys i a b)

  -- only the second is set
  pub zip_set_second : (xs : List A) (ys : List B) (i : ℕ) (a : A) (b : B) → zip xs (set ys i b) ≡ set (zip xs ys) i (f (get_or xs i a) b)
  unfolding zip
  zip_set_second [] ys i a b = refl
  zip_set_second (x ∷ xs) [] zero a b = refl
  zip_set_second (x ∷ xs) [] (suc i) a b = refl
  zip_set_second (x ∷ xs) (y ∷ ys) zero a b = refl
  zip_set_second (x ∷ xs) (y ∷ ys) (suc i) a b = ap (λ (r : List C). f x y ∷ r) (zip_set_second xs ys i a b)

  pub zip_at : (xs : List A) (ys : List B) (i : ℕ) (a : A) (b : B) (c : C) → i < length (zip xs ys) → get_or (zip xs ys) i c ≡ f (get_or xs i a) (get_or ys i b)
  unfolding zip
  zip_at [] ys i a b c h = absurd (omega arith)
  zip_at (x ∷ xs) [] i a b c h = absurd (omega arith)
  zip_at (x ∷ xs) (y ∷ ys) zero a b c h = refl
  zip_at (x ∷ xs) (y ∷ ys) (suc i) a b c h = zip_at xs ys i a b c (omega arith)

  -- as long as both, where they are equally long; and no longer than either
  pub zip_long : (xs : List A) (ys : List B) (n : ℕ) → length xs ≡ n → length ys ≡ n → length (zip xs ys) ≡ n
  unfolding zip
  zip_long [] ys n d e = d
  zip_long (x ∷ xs) [] n d e = absurd (omega arith)
  zip_long (x ∷ xs) (y ∷ ys) zero d e = absurd (omega arith)
  zip_long (x ∷ xs) (y ∷ ys) (suc n) d e = ap suc (zip_long xs ys n (omega arith) (omega arith))

  pub zip_fits : (xs : List A) (ys : List B) → (length (zip xs ys) ≤ length xs) × (length (zip xs ys) ≤ length ys)
  unfolding zip
  zip_fits [] ys = (omega arith, omega arith)
  zip_fits (x ∷ xs) [] = (omega arith, omega arith)
  zip_fits (x ∷ xs) (y ∷ ys) = let r = zip_fits xs ys in (omega (arith, r.0), omega (arith, r.1))

  pub zip_replicate : (n : ℕ) (a : A) (b : B) → zip (replicate n a) (replicate n b) ≡ replicate n (f a b)
  unfolding zip
  zip_replicate zero a b = refl
  zip_replicate (suc n) a b = ap (λ (r : List C). f a b ∷ r) (zip_replicate n a b)

-- columns that one list gives
pub zip_map : {A B C D : Type 0} (f : A → B → C) (g : D → A) (h : D → B) (l : List D) → zip f (map g l) (map h l) ≡ map (λ x. f (g x) (h x)) l
unfolding zip
zip_map f g h [] = refl
zip_map {C = C} f g h (x ∷ l) = ap (λ (r : List C). f (g x) (h x) ∷ r) (zip_map f g h l)
