-- The text's end: one law for each exit.
use Rattle.std.specs.Prelude.{◌≡◌, refl, true, false, List, [], ◌∷◌, ℕ, length}
use Rattle.std.proofs.Common.{sym, ap, subst, ◌∙◌, arith, eq-eqb, eqb-true}
use Rattle.std.proofs.lemmas.Bool.{false≢true}
use Rattle.definition.specs.Words.{◌=?◌}
use Rattle.first_line.specs.Took.{Took}
use Rattle.first_line.specs.OnSlots.{Play}
use Rattle.first_line.specs.Code.{Lined}
use Rattle.lines.specs.OnSlots.{line_slots, last_slots, on_slots}
use Rattle.pieces.specs.Feed.{finish}

finish_none : (s : Play) (h : List ℕ) → length h ≡ 0 → finish on_slots s h ≡ last_slots s
unfolding finish
finish_none s [] g = refl
finish_none s (c ∷ h) g = absurd (omega arith)

finish_some : (s : Play) (h : List ℕ) → (length h ≡ 0 → ⊥) → finish on_slots s h ≡ line_slots s h
unfolding finish
finish_some s [] g = absurd (g refl)
finish_some s (c ∷ h) g = refl

module _ (s : Play) (h b a : List ℕ) (s' : Play) (n : ℕ) where
  -- nothing is held
  pub end_none : (length h =? 0) ≡ true → Lined (last_slots s) b a s' n → Lined (finish on_slots s h) b a s' n
  end_none e k = subst (λ (t : Took Play ℕ). Lined t b a s' n) (sym (finish_none s h (eqb-true (length h) 0 e))) k

  -- what is held is a line
  pub end_line : (line : List ℕ) → (length h =? 0) ≡ false → line ≡ h → Lined (line_slots s line) b a s' n → Lined (finish on_slots s h) b a s' n
  end_line line e q k =
      subst (λ (t : Took Play ℕ). Lined t b a s' n)
      (ap (line_slots s) q ∙ sym (finish_some s h (λ z. false≢true (sym e ∙ eq-eqb (length h) 0 z)))) k
