-- A text is read line by line: what is fed up to a newline, and then on.
use Rattle.std.proofs.Math.Path.{◌≡◌, refl, ap}
use Rattle.std.proofs.Common.{sym, subst, ◌∙◌, lt-ltb, le-ltb, length-take, drop_of_length-le}
use Rattle.std.specs.Prelude.{Bool, ℕ, suc, ◌-◌, ◌≤◌, ◌<◌, length, drop}
use Rattle.std.proofs.Math.Bool.{true, false}
use mathlib.Core.List.{List, [], ◌∷◌, ◌++◌, append_assoc}
use native.Mathlib.Omega.{arith}
use Rattle.std.proofs.Math.ListN.{take}
use Rattle.definition.specs.Words.{when◌then◌else◌, ◌<?◌, ◌=?◌}
use Rattle.definition.specs.Bytes.{newline}
use Rattle.first_line.specs.Took.{Took, line_room}
use Rattle.lines.specs.Machine.{Machine}
use Rattle.newlines.specs.Newlines.{line_len, ends, len_true, len_false, len_nil, len_positive}
use Rattle.pieces.specs.Feed.{View, Fed, stop, joined, emptied, push, feed_in, go_on, in_true, in_false, in_nil}
use Rattle.pieces.specs.Holds.{held_most}
use Rattle.pieces.specs.Cap.{cap_append}

module _ {S O : Type 0} (m : Machine S O) where
  abbrev pub lined : Took S O → Fed S O
  lined k = record { view = emptied k.state; out = k.out; rest = [] }

  -- a piece without a newline but at its end
  unfoldable pub chunk_of : View S → List ℕ → Fed S O
  chunk_of v p =
      when ends p
      then lined (m.line v.state (take held_most (v.held ++ p)))
      else stop (record { state = v.state; held = take held_most (v.held ++ p) }) []

  -- a piece, and then on
  abbrev pub after_chunk : ℕ → Fed S O → List ℕ → Fed S O
  after_chunk room k t = joined k.out (go_on m (room - length k.out) k.view t)

  pub chunk_push : (v : View S) (c : ℕ) (q : List ℕ) → 0 < length q → chunk_of (push v c) q ≡ chunk_of v (c ∷ q)
  unfolding chunk_of ends
  chunk_push v c [] h = absurd (omega arith)
  chunk_push v c (d ∷ q) h =
      let e : take held_most (take held_most (v.held ++ c ∷ []) ++ d ∷ q) ≡ take held_most (v.held ++ c ∷ d ∷ q) =
      cap_append held_most (v.held ++ c ∷ []) (d ∷ q) ∙ ap (take held_most) (append_assoc v.held (c ∷ []) (d ∷ q)) in
      rw e

  pub go_nil : (room : ℕ) (v : View S) → go_on m room v [] ≡ stop v []
  unfolding go_on feed_in when◌then◌else◌
  go_nil room v = same (room <? line_room)
    where
      same : (b : Bool) → ◌≡◌ {A = Fed S O} (when b then stop v [] else stop v []) (stop v [])
      same true = refl
      same false = refl

  chunk_true : (v : View S) (c : ℕ) → c =? newline ≡ true → chunk_of v (c ∷ []) ≡ lined (m.line v.state (take held_most (v.held ++ c ∷ [])))
  unfolding chunk_of ends when◌then◌else◌
  chunk_true v c e = rw e

  chunk_false : (v : View S) (c : ℕ) → c =? newline ≡ false → chunk_of v (c ∷ []) ≡ stop (push v c) []
  unfolding chunk_of ends when◌then◌else◌
  chunk_false v c e = rw e

  -- the first n of l as a piece, and then on
  abbrev first_of : ℕ → View S → List ℕ → ℕ → Fed S O
  first_of room v l n = after_chunk room (chunk_of v (take n l)) (drop n l)

  chunk_end : (room : ℕ) (v : View S) (c : ℕ) (t : List ℕ) → c =? newline ≡ true → feed_in m room v (c ∷ t) ≡ first_of room v (c ∷ t) (line_len (c ∷ t))
  chunk_end room v c t e =
      in_true m room v c t e ∙ sym (ap (first_of room v (c ∷ t)) (len_true c t e) ∙ ap (λ (k : Fed S O). after_chunk room k t) (chunk_true v c e))

  chunk_last : (room : ℕ) (v : View S) (c : ℕ) → c =? newline ≡ false → feed_in m room v (c ∷ []) ≡ first_of room v (c ∷ []) (line_len (c ∷ []))
  chunk_last room v c e =
      in_false m room v c [] e ∙ in_nil m room (push v c)
      ∙ sym (ap (first_of room v (c ∷ [])) (len_false c [] e ∙ ap suc len_nil)
      ∙ ap (λ (k : Fed S O). after_chunk room k []) (chunk_false v c e) ∙ ap (joined []) (go_nil (room - 0) (push v c)))

  chunk_more : (room : ℕ) (v : View S) (c : ℕ) (t : List ℕ) → c =? newline ≡ false → 0 < length t
      → feed_in m room (push v c) t ≡ first_of room (push v c) t (line_len t) → feed_in m room v (c ∷ t) ≡ first_of room v (c ∷ t) (line_len (c ∷ t))
  chunk_more room v c t e h i =
      let g : 0 < line_len t = len_positive t h in
      let q : 0 < length (take (line_len t) t) = simp length-take (omega arith) in
      in_false m room v c t e ∙ i ∙ ap (λ (k : Fed S O). after_chunk room k (drop (line_len t) t)) (chunk_push v c (take (line_len t) t) q)
      ∙ sym (ap (first_of room v (c ∷ t)) (len_false c t e))

  in_cases : (room : ℕ) (v : View S) (c : ℕ) (t : List ℕ) (b : Bool) → c =? newline ≡ b
      → ((w : View S) → 0 < length t → feed_in m room w t ≡ first_of room w t (line_len t))
      → feed_in m room v (c ∷ t) ≡ first_of room v (c ∷ t) (line_len (c ∷ t))
  in_cases room v c t true e ih = chunk_end room v c t e
  in_cases room v c [] false e ih = chunk_last room v c e
  in_cases room v c (d ∷ t) false e ih = chunk_more room v c (d ∷ t) e (omega arith) (ih (push v c) (omega arith))

  pub in_chunk : (room : ℕ) (v : View S) (l : List ℕ) → 0 < length l → feed_in m room v l ≡ after_chunk room (chunk_of v (take (line_len l) l)) (drop (line_len l) l)
  in_chunk room v [] h = absurd (omega arith)
  in_chunk room v (c ∷ t) h = in_cases room v c t (c =? newline) refl (λ w g. in_chunk room w t g)

  pub go_room : (room : ℕ) (v : View S) (t : List ℕ) → line_room ≤ room → go_on m room v t ≡ feed_in m room v t
  unfolding go_on when◌then◌else◌
  go_room room v t h = rw (le-ltb room line_room h)

  pub go_short : (room : ℕ) (v : View S) (t : List ℕ) → room < line_room → go_on m room v t ≡ stop v t
  unfolding go_on when◌then◌else◌
  go_short room v t h = rw (lt-ltb room line_room h)

  pub go_out : (room : ℕ) (v : View S) (text : List ℕ) (at : ℕ) → length text ≤ at → go_on m room v (drop at text) ≡ stop v (drop at text)
  go_out room v text at h = let e : drop at text ≡ [] = drop_of_length-le text {i = at} h in rw e (go_nil room v)

-- ── Reading goes on ────────────────────────────────────────────────────────────────────────────────────────────────────────

module _ {S O : Type 0} (m : Machine S O) where
  abbrev Left : ℕ → Fed S O → Type 0
  Left n k = length k.rest ≤ n

  go_left : (room : ℕ) (v : View S) (t : List ℕ) → Left (length t) (feed_in m room v t) → Left (length t) (go_on m room v t)
  unfolding go_on when◌then◌else◌
  go_left room v t h = go (room <? line_room)
    where
      go : (b : Bool) → Left (length t) (when b then stop v t else feed_in m room v t)
      go true = omega arith
      go false = h

  one_less : (room : ℕ) (v : View S) (c : ℕ) (t : List ℕ) (b : Bool) → c =? newline ≡ b → ((r : ℕ) (w : View S) → Left (length t) (feed_in m r w t))
      → Left (length t) (feed_in m room v (c ∷ t))
  one_less room v c t true e ih = subst (Left (length t)) (sym (in_true m room v c t e)) (go_left _ _ t (ih _ _))
  one_less room v c t false e ih = subst (Left (length t)) (sym (in_false m room v c t e)) (ih room (push v c))

  in_left : (room : ℕ) (v : View S) (t : List ℕ) → Left (length t) (feed_in m room v t)
  in_left room v [] = subst (Left 0) (sym (in_nil m room v)) (omega arith)
  in_left room v (c ∷ t) = let h = one_less room v c t (c =? newline) refl (λ r w. in_left r w t) in omega arith

  -- some of any text is fed
  pub in_less : (room : ℕ) (v : View S) (t : List ℕ) → 0 < length t → length (feed_in m room v t).rest < length t
  in_less room v [] h = absurd (omega arith)
  in_less room v (c ∷ t) h = let g = one_less room v c t (c =? newline) refl (λ r w. in_left r w t) in omega arith

  -- with room for one event, some of any text is read
  pub some_less : (room : ℕ) (v : View S) (t : List ℕ) → line_room ≤ room → 0 < length t → length (go_on m room v t).rest < length t
  some_less room v t r h = subst (λ (k : Fed S O). length k.rest < length t) (sym (go_room m room v t r)) (in_less room v t h)
