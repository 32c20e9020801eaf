-- One law for each exit of the reading of a number; and a text that is compared.
use Rattle.std.specs.Prelude.{◌≡◌, refl, Bool, true, false, ◌&&◌, List, [], ◌∷◌, ℕ, ◌+◌, ◌-◌, ◌*◌, ◌≤◌, ◌<◌, length, drop, get_or, Ok, Err, Some, None}
use Rattle.std.specs.List.{list_all}
use Rattle.std.proofs.Math.Path.{sym, ap}
use Rattle.std.proofs.Common.{rules, ◌∙◌, arith, add-one, ne_eqb, le-leb, leb-true, drop_of_length-le, drop-cons}
use Rattle.std.proofs.lemmas.Bool.{false≢true, lt-leb}
use Rattle.std.proofs.lemmas.Slice.Eq.{bytes_eq-Decides}
use Rattle.std.proofs.lemmas.List.Folds.{list_all_at}
use Rattle.std.proofs.lemmas.List.Elements.{All-drop}
use Rattle.std.proofs.lemmas.List.Sums.{AllPass-from_list_all, list_all-from_AllPass}
use Rattle.definition.specs.Words.{when◌then◌else◌, ◌=?◌}
use Rattle.spelling.specs.declared.NumberError.TheVariants.{NoNumber, TooLarge}
use Rattle.spelling.specs.Spelling.{most, digit?, digits, decimal, number_of, same}

-- ── A number ───────────────────────────────────────────────────────────────────────────────────────────────────────────────

-- digits, and something else among them
stop_case : (u c : ℕ) (l : List ℕ) (b : Bool) → (list_all digit? l ≡ false → digits (u * 10 + (c - 48)) l ≡ None) → (b && list_all digit? l) ≡ false
    → (when b then digits (u * 10 + (c - 48)) l else None) ≡ None
unfolding when◌then◌else◌
stop_case u c l true ih h = ih h
stop_case u c l false ih h = refl

no_digits : (l : List ℕ) (u : ℕ) → list_all digit? l ≡ false → digits u l ≡ None
unfolding digits
no_digits [] u h = absurd (false≢true (sym h))
no_digits (c ∷ l) u h = stop_case u c l (digit? c) (no_digits l (u * 10 + (c - 48))) h

-- a number that is too large stays so
large_case : (u c : ℕ) (l : List ℕ) (b : Bool) → (list_all digit? l ≡ true → number_of (digits (u * 10 + (c - 48)) l) ≡ Err TooLarge)
    → (b && list_all digit? l) ≡ true → number_of (when b then digits (u * 10 + (c - 48)) l else None) ≡ Err TooLarge
unfolding when◌then◌else◌
large_case u c l true ih h = ih h
large_case u c l false ih h = absurd (false≢true h)

large_rest : (l : List ℕ) (u : ℕ) → most < u → list_all digit? l ≡ true → number_of (digits u l) ≡ Err TooLarge
unfolding digits when◌then◌else◌
large_rest [] u g h = rw (lt-leb u most g)
large_rest (c ∷ l) u g h = large_case u c l (digit? c) (large_rest l (u * 10 + (c - 48)) (omega arith)) h

all_drop : (l : List ℕ) (i : ℕ) → list_all digit? l ≡ true → list_all digit? (drop i l) ≡ true
all_drop l i a = list_all-from_AllPass digit? (drop i l) (All-drop (λ c. digit? c ≡ true) i l (AllPass-from_list_all digit? l a))

some_first : (a b : Bool) → (a && b) ≡ true → a ≡ true
some_first true b e = refl
some_first false b e = e

module _ (w : List ℕ) where
  pub no_word : true ≡ (length w =? 0) → Err NoNumber ≡ number_of (decimal w)
  unfolding decimal when◌then◌else◌
  no_word e = rw (← e)

  -- a word that is not empty
  some_word : false ≡ (length w =? 0) → decimal w ≡ digits 0 w
  unfolding decimal when◌then◌else◌
  some_word e = rw (← e)

  pub other_word : false ≡ (length w =? 0) → false ≡ list_all digit? w → Err NoNumber ≡ number_of (decimal w)
  other_word e a = sym (ap number_of (some_word e ∙ no_digits w 0 (sym a)))

  module _ (a : true ≡ list_all digit? w) (i : ℕ) (h : i < length w) where
    is_digit : digit? (get_or w i 0) ≡ true
    is_digit = go (digit? (get_or w i 0)) refl
      where
        go : (b : Bool) → digit? (get_or w i 0) ≡ b → b ≡ true
        go true e = refl
        go false e = absurd (false≢true (sym (list_all_at digit? w i 0 h e) ∙ sym a))

    pub digit_low : 48 ≤ get_or w i 0
    digit_low = leb-true 48 _ (some_first _ _ is_digit)

    module _ (v : ℕ) (k : digits 0 w ≡ digits v (drop i w)) where
      pub digit_more : digits 0 w ≡ digits (v * 10 + (get_or w i 0 - 48)) (drop (i + 1) w)
      unfolding digits when◌then◌else◌
      digit_more =
          let e : drop i w ≡ get_or w i 0 ∷ drop (i + 1) w = rw (add-one, drop-cons w i 0) in
          k ∙ ap (digits v) e ∙ rw is_digit

      pub too_large : most < v * 10 + (get_or w i 0 - 48) → Err TooLarge ≡ number_of (decimal w)
      too_large g =
          sym (large_rest (drop (i + 1) w) (v * 10 + (get_or w i 0 - 48)) g (all_drop w (i + 1) (sym a)))
          ∙ ap number_of (sym digit_more ∙ sym (some_word (sym (ne_eqb (length w) 0 (λ z. omega arith)))))

  pub a_number : false ≡ (length w =? 0) → (i : ℕ) → length w ≤ i → (v : ℕ) → digits 0 w ≡ digits v (drop i w) → v ≤ most → Ok v ≡ number_of (decimal w)
  unfolding digits when◌then◌else◌
  a_number e i h v k g =
      let f : digits v (drop i w) ≡ Some v = ap (digits v) (drop_of_length-le w {i = i} h) in
      sym (rw (le-leb v most g)) ∙ ap number_of (sym f ∙ sym k ∙ sym (some_word e))

-- ── A text ─────────────────────────────────────────────────────────────────────────────────────────────────────────────────

pub same_word : (a b : List ℕ) (r : Bool) → (r ≡ true → a ≡ b) × (a ≡ b → r ≡ true) → r ≡ same a b
same_word a b r k = search (rules, bytes_eq-Decides)
