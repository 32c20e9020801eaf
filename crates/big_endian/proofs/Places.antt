-- A number read from the bytes that were taken at a place.
use Rattle.std.specs.Prelude.{◌≡◌, List, ℕ, ◌+◌, ◌<◌, take, drop, get_or}
use Rattle.std.proofs.Common.{◌∙◌, ap, arith, get_or-drop, get_or-take}
use Rattle.std.specs.Int.{w32, w64, from_be_bytes}
use Rattle.definition.specs.Bytes.{at4, at8}

at_place : (n : ℕ) (b : List ℕ) (i k j : ℕ) → k < n → i + k ≡ j → get_or (take n (drop i b)) k 0 ≡ get_or b j 0
at_place n b i k j h e = get_or-take n (drop i b) k 0 h ∙ get_or-drop i b k 0 ∙ ap (λ (m : ℕ). get_or b m 0) e

module _ (b : List ℕ) (i x : ℕ) where
  pub read4 : x ≡ from_be_bytes w32 (take 4 (drop i b)) → x ≡ at4 b i
  unfolding at4
  read4 e =
      e ∙ rw (
        at_place 4 b i 0 i (omega arith) (omega arith),
        at_place 4 b i 1 (i + 1) (omega arith) (omega arith),
        at_place 4 b i 2 (i + 2) (omega arith) (omega arith),
        at_place 4 b i 3 (i + 3) (omega arith) (omega arith),
      )

  pub read8 : x ≡ from_be_bytes w64 (take 8 (drop i b)) → x ≡ at8 b i
  unfolding at4 at8
  read8 e =
      omega (
        arith,
        e,
        at_place 8 b i 0 i (omega arith) (omega arith),
        at_place 8 b i 1 (i + 1) (omega arith) (omega arith),
        at_place 8 b i 2 (i + 2) (omega arith) (omega arith),
        at_place 8 b i 3 (i + 3) (omega arith) (omega arith),
        at_place 8 b i 4 (i + 4) (omega arith) (omega arith),
        at_place 8 b i 5 (i + 4 + 1) (omega arith) (omega arith),
        at_place 8 b i 6 (i + 4 + 2) (omega arith) (omega arith),
        at_place 8 b i 7 (i + 4 + 3) (omega arith) (omega arith),
      )
