-- A machine that takes lines: what it does with one, and at the text's end.
use Rattle.std.specs.Prelude.{List, ◌++◌, ℕ}
use Rattle.first_line.specs.Took.{Took}

-- a line with its newline, or what stands after the last newline; and the text's end where nothing stands after it
pub record Machine (S O : Type 0) : Type 0 where
  pub line : S → List ℕ → Took S O
  pub last : S → Took S O

module _ {S O : Type 0} where
  abbrev pub thereafter : Took S O → Took S O → Took S O
  thereafter a b = record { state = b.state; out = a.out ++ b.out }
