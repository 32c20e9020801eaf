-- A refusal's line, laid by its parts.
use mathlib.Core.Path.{◌≡◌, ◌∙◌}
use mathlib.Core.List.{List, ◌++◌}
use Prim.Native.Nat.{ℕ, ◌+◌, ◌*◌}
use lib.ListN.{length, drop}
use Rattle.definition.specs.Records.{fields}
use Rattle.definition.specs.Bytes.{record_bytes, line_of}

pub refusal_laid : (number n line : ℕ) (b o x : List ℕ) → number ≡ n → b ≡ record_bytes 0 (fields 32 number line 0)
    → x ≡ line_of b ++ drop (2 * length b + 1) o → x ≡ line_of (record_bytes 0 (fields 32 n line 0)) ++ drop 33 o
unfolding record_bytes
refusal_laid number n line b o x e f g = g ∙ rw (f, e)
