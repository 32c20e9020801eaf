-- Digits read without a branch: all numbers first, then pairs of them, and whether all were digits.
use Rattle.std.specs.Prelude.{Bool, true, ◌&&◌, List, [], ◌∷◌, fold, ℕ, ◌+◌, ◌*◌, ◌%◌}
use Rattle.std.specs.Prelude.{Option, None as none, Some as some}
use Rattle.definition.specs.Words.{◌<?◌}
use Rattle.definition.specs.Bytes.{value_of}

-- the number of a digit, and 16 for what is none
abbrev pub or_sixteen : Option ℕ → ℕ
or_sixteen none = 16
or_sixteen (some v) = v

unfoldable pub number : ℕ → ℕ
number c = or_sixteen (value_of c)

abbrev pub digits? : List ℕ → Bool
digits? vs = fold (λ (good : Bool) (v : ℕ). good && v <? 16) true vs

-- two numbers make a byte, whatever they are
unfoldable pub pairs_of : List ℕ → List ℕ
pairs_of [] = []
pairs_of (h ∷ []) = []
pairs_of (h ∷ l ∷ vs) = (h % 16 * 16 + l % 16) ∷ pairs_of vs
