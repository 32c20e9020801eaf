-- What a word spells: a number in decimal, or a text.
use Rattle.std.specs.Prelude.{Bool, ◌&&◌, List, [], ◌∷◌, ℕ, ◌+◌, ◌-◌, ◌*◌, map, length, Option, Some, None, Result, Ok, Err, bytes_eq, if◌then◌else◌}
use denote.Ref.{Bor}
use Prim.Native.Char.{code}
use Prim.Native.String.{String, [] as end, ◌∷◌ as ◌then◌}
use Rattle.definition.specs.Words.{when◌then◌else◌, ◌=?◌, ◌≤?◌}
use Rattle.spelling.specs.declared.NumberError.{NumberError}
use Rattle.spelling.specs.declared.NumberError.TheVariants.{NoNumber, TooLarge}

-- the largest number of 64 bits
abbrev pub most : ℕ
most = 18446744073709551615

abbrev pub digit? : ℕ → Bool
digit? c = (48 ≤? c) && (c ≤? 57)

-- digits behind a number so far
unfoldable pub digits : (v : ℕ) → List ℕ → Option ℕ
digits v [] = Some v
digits v (c ∷ l) = when digit? c then digits (v * 10 + (c - 48)) l else None

-- a number in decimal, of any size
unfoldable pub decimal : List ℕ → Option ℕ
decimal w = when length w =? 0 then None else digits 0 w

-- and whether it fits
abbrev pub number_of : Option ℕ → Result ℕ NumberError
number_of None = Err NoNumber
number_of (Some n) = when n ≤? most then Ok n else Err TooLarge

-- a text, byte by byte
abbrev pub same : List ℕ → List ℕ → Bool
same = bytes_eq

-- what stands beside the first name that a word is
abbrev pub looked_up : {T : Type 0} → List (List ℕ × T) → List ℕ → Option T
looked_up [] w = None
looked_up (x ∷ l) w = if same x.0 w then Some x.1 else looked_up l w

-- a table of the code
abbrev pub entries : {T : Type 0} → List (Bor (List ℕ) × T) → List (List ℕ × T)
entries l = map (λ x. (x.0.now, x.1)) l

-- the bytes of a text, as it is written here
abbrev pub spelt : String → List ℕ
spelt end = []
spelt (c then s) = code c ∷ spelt s
