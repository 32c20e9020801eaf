-- Words are read one behind the other.
use Rattle.std.specs.Prelude.{◌≡◌, refl, List, [], ◌∷◌, ℕ, ◌+◌, length, Result, Ok, Err}
use Rattle.std.proofs.Common.{sym, ap, ◌∙◌, inl, inr, arith}
use Rattle.arguments.specs.declared.Said.{Said}
use Rattle.arguments.specs.declared.Wrong.{Wrong}
use Rattle.arguments.specs.declared.Refused.{Refused}
use Rattle.arguments.specs.Asked.{asked, refusing, behind, Takes, nothing, said, closed, Reads}

-- good words so far, and the next argument is i
pub record Saying (s : Said) (i : ℕ) : Type 0 where
  pub words : List (List ℕ)
  pub is : said words ≡ Ok s
  pub next : i ≡ length words + 1

pub saying_none : Saying nothing 1
unfolding said
saying_none = record { words = []; is = refl; next = refl }

module _ (s : Said) (i : ℕ) (k : Saying s i) where
  said_word : (w : List ℕ) → said (w ∷ k.words) ≡ refusing s (asked s i w)
  unfolding said
  said_word w =
      ap (λ (r : Result Said Refused). behind r (length k.words + 1) w) k.is ∙ ap (λ (n : ℕ). refusing s (asked s n w)) (sym k.next)

  pub saying_more : (t : Said) → Takes s i (Ok t) → Saying t (i + 1)
  saying_more t (inl w) =
      record { words = w.word ∷ k.words; is = said_word w.word ∙ ap (refusing s) (sym w.is); next = omega (arith, k.next) }
  saying_more t (inr e) = cc e.is

  pub saying_wrong : (e : Wrong) → Takes s i (Err e) → Reads (Err (record { why = e; said = s }))
  saying_wrong e (inl w) =
      record { words = w.word ∷ k.words; are = inl (ap closed (ap (refusing s) w.is ∙ sym (said_word w.word))) }
  saying_wrong e (inr l) =
      record { words = k.words; are = inr (record { before = s; good = k.is; why = l.why; is = cc l.is }) }

  pub saying_all : Reads (closed (Ok s))
  saying_all = record { words = k.words; are = inl (ap closed (sym k.is)) }
