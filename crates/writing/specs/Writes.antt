-- What a writer leaves: its answer, and the lent bytes.
use Rattle.std.specs.Prelude.{◌≡◌, List, ℕ, length}
use Rattle.definition.specs.Writing as Definition
use Rattle.definition.specs.Writing.{Writing, NotWritten, laid}
use Rattle.std.specs.Prelude.{Result, Ok, Err}
use Rattle.definition.specs.declared.Refusal.{Refusal}

-- the answer that says it
abbrev pub answer_of : Writing → Result ℕ Refusal
answer_of (NotWritten r) = Err r
answer_of (Definition.Written t) = Ok (length t)

pub record Writes (w : Writing) (lent : List ℕ) (r : Result ℕ Refusal) (left : List ℕ) : Type 0 where
  pub answer : r ≡ answer_of w
  pub out : left ≡ laid w lent
