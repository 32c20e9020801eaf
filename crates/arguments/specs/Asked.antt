-- What a word asks of a replay.
use Rattle.std.specs.Prelude.{◌≡◌, true, false, List, [], ◌∷◌, ◌⊎◌, ℕ, ◌+◌, length, Option, Some, None, Result, Ok, Err, bytes_eq, if◌then◌else◌}
use Rattle.std.specs.declared.env.FillError.{FillError}
use Rattle.arguments.specs.declared.Asked.{Asked}
use Rattle.arguments.specs.declared.Said.{Said}
use Rattle.arguments.specs.declared.Said.TheVariants.{Whole, Open}
use Rattle.arguments.specs.declared.Wrong.{Wrong}
use Rattle.arguments.specs.declared.Wrong.TheVariants.{Missing, TooLarge, Unknown, LeftOut}
use Rattle.arguments.specs.declared.Refused.{Refused}
use Rattle.spelling.specs.declared.NumberError.{NumberError}
use Rattle.spelling.specs.declared.NumberError.TheVariants as number
use Rattle.spelling.specs.Spelling.{most, decimal, number_of, spelt}

abbrev pub budget_word : List ℕ
budget_word = spelt "--budget"

abbrev pub used_word : List ℕ
used_word = spelt "--used"

-- the budget's number, if it is one
abbrev pub budget_in : Result ℕ NumberError → Result ℕ Wrong
budget_in (Ok n) = Ok n
budget_in (Err number.TooLarge) = Err TooLarge
budget_in (Err number.NoNumber) = Err Unknown

abbrev pub budget_of : List ℕ → Result ℕ Wrong
budget_of w = budget_in (number_of (decimal w))

module _ (a : Asked) where
  abbrev pub with_budget : Result ℕ Wrong → Result Said Wrong
  with_budget (Ok n) = Ok (Whole (record { budget = n; is_used = a.is_used; file = a.file }))
  with_budget (Err e) = Err e

  abbrev pub with_used : Asked
  with_used = record { budget = a.budget; is_used = true; file = a.file }

  -- the file, or a second one, which is bad
  abbrev pub with_file : ℕ → Option ℕ → Result Said Wrong
  with_file i None = Ok (Whole (record { budget = a.budget; is_used = a.is_used; file = Some i }))
  with_file i (Some j) = Err Unknown

-- the words so far, and the word that is argument i
abbrev pub asked : Said → (i : ℕ) → List ℕ → Result Said Wrong
asked (Open a) i w = with_budget a (budget_of w)
asked (Whole a) i w =
    if bytes_eq w budget_word then Ok (Open a)
    else if bytes_eq w used_word then Ok (Whole (with_used a))
    else with_file a i a.file

-- some word was read
pub record Word (s : Said) (i : ℕ) (r : Result Said Wrong) : Type 0 where
  pub word : List ℕ
  pub is : r ≡ asked s i word

-- an argument could not be had
pub record Lacks {A : Type 0} (r : Result A Wrong) : Type 0 where
  pub why : FillError
  pub is : r ≡ Err (Missing why)

-- an argument that some word is, or that can't be had
abbrev pub Takes : Said → (i : ℕ) → Result Said Wrong → Type 0
Takes s i r = Word s i r ⊎ Lacks r

-- before the first: all frames are taken
abbrev pub nothing : Said
nothing = Whole (record { budget = most; is_used = false; file = None })

-- a refusal keeps what was said before
abbrev pub refusing : Said → Result Said Wrong → Result Said Refused
refusing s (Ok t) = Ok t
refusing s (Err e) = Err (record { why = e; said = s })

-- behind good words a word is read, and behind a bad one none
abbrev pub behind : Result Said Refused → (i : ℕ) → List ℕ → Result Said Refused
behind (Ok s) i w = refusing s (asked s i w)
behind (Err e) i w = Err e

-- all words, the last one first, up to a bad one
unfoldable pub said : List (List ℕ) → Result Said Refused
said [] = Ok nothing
said (w ∷ l) = behind (said l) (length l + 1) w

-- no number came behind --budget
abbrev pub closed : Result Said Refused → Result Asked Refused
closed (Ok (Whole a)) = Ok a
closed (Ok (Open a)) = Err (record { why = LeftOut; said = Open a })
closed (Err e) = Err e

-- the argument behind good words could not be had
pub record Misses (s : Result Said Refused) (r : Result Asked Refused) : Type 0 where
  pub before : Said
  pub good : s ≡ Ok before
  pub why : FillError
  pub is : r ≡ Err (record { why = Missing why; said = before })

-- what some words ask, or that the argument behind them can't be had, and what they said
pub record Reads (r : Result Asked Refused) : Type 0 where
  pub words : List (List ℕ)
  pub are : (r ≡ closed (said words)) ⊎ Misses (said words) r
