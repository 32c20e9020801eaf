-- Newlines: how long a text's first line is, whether a piece ends with one, and whether there is none.
use Rattle.std.specs.Prelude.{◌≡◌, refl, Bool, true, false, ◌&&◌, not, List, [], ◌∷◌, ℕ, zero, suc, ◌+◌, ◌-◌, ◌≤◌, ◌<◌, length, take, drop, get_or}
use Rattle.std.proofs.Common.{sym, ap, ◌∙◌, arith, add-one, eq-eqb, ne_eqb, length-take, length-drop, drop_of_length-le, drop-cons, take_all, get_or-drop, get_or-take}
use Rattle.std.proofs.lemmas.Bool.{false≢true}
use Rattle.definition.specs.Words.{when◌then◌else◌, ◌=?◌}
use Rattle.definition.specs.Bytes.{newline}

-- how long the first line is, with its newline
unfoldable pub line_len : List ℕ → ℕ
line_len [] = 0
line_len (c ∷ t) = when c =? newline then 1 else suc (line_len t)

-- whether a piece ends with a newline
unfoldable pub ends : List ℕ → Bool
ends [] = false
ends (c ∷ []) = c =? newline
ends (c ∷ d ∷ t) = ends (d ∷ t)

-- no newline among these
unfoldable pub clean : List ℕ → Bool
clean [] = true
clean (c ∷ t) = when c =? newline then false else clean t

pub ends_last : (p : List ℕ) → 0 < length p → ends p ≡ (get_or p (length p - 1) 0 =? newline)
unfolding ends
ends_last [] h = absurd (omega arith)
ends_last (c ∷ []) h = refl
ends_last (c ∷ d ∷ t) h =
    let n : length (c ∷ d ∷ t) - 1 ≡ suc (length (d ∷ t) - 1) = omega arith in
    ends_last (d ∷ t) (omega arith) ∙ rw n

len_step : (l : List ℕ) (i : ℕ) → i < length l → line_len (drop i l) ≡ (when get_or l i 0 =? newline then 1 else suc (line_len (drop (i + 1) l)))
unfolding line_len
len_step l i h = let e : drop i l ≡ get_or l i 0 ∷ drop (i + 1) l = rw (add-one, drop-cons l i 0) in ap line_len e

pub len_stop : (l : List ℕ) (i : ℕ) → i < length l → get_or l i 0 ≡ newline → line_len (drop i l) ≡ 1
unfolding when◌then◌else◌
len_stop l i h e = len_step l i h ∙ rw (eq-eqb (get_or l i 0) newline e)

pub len_more : (l : List ℕ) (i : ℕ) → i < length l → (get_or l i 0 ≡ newline → ⊥) → line_len (drop i l) ≡ suc (line_len (drop (i + 1) l))
unfolding when◌then◌else◌
len_more l i h e = len_step l i h ∙ rw (ne_eqb (get_or l i 0) newline e)

pub len_end : (l : List ℕ) (i : ℕ) → length l ≤ i → line_len (drop i l) ≡ 0
unfolding line_len
len_end l i h = rw drop_of_length-le

pub len_positive : (t : List ℕ) → 0 < length t → 0 < line_len t
unfolding line_len when◌then◌else◌
len_positive [] h = absurd (omega arith)
len_positive (c ∷ t) h = pick (c =? newline)
  where
    pick : (b : Bool) → 0 < (when b then 1 else suc (line_len t))
    pick true = omega arith
    pick false = omega arith

len_case : (c : ℕ) (t : List ℕ) (b : Bool) → line_len t ≤ length t → (when b then 1 else suc (line_len t)) ≤ length (c ∷ t)
unfolding when◌then◌else◌
len_case c t true h = omega arith
len_case c t false h = omega arith

pub len_low : (t : List ℕ) → line_len t ≤ length t
unfolding line_len
len_low [] = omega arith
len_low (c ∷ t) = len_case c t (c =? newline) (len_low t)

pub len_true : (c : ℕ) (t : List ℕ) → c =? newline ≡ true → line_len (c ∷ t) ≡ 1
unfolding line_len when◌then◌else◌
len_true c t e = rw e

pub len_false : (c : ℕ) (t : List ℕ) → c =? newline ≡ false → line_len (c ∷ t) ≡ suc (line_len t)
unfolding line_len when◌then◌else◌
len_false c t e = rw e

pub len_nil : line_len [] ≡ 0
unfolding line_len
len_nil = refl

-- n bytes with no newline, and then one
pub len_clean : (n : ℕ) (l : List ℕ) → n < length l → clean (take n l) ≡ true → get_or l n 0 ≡ newline → line_len l ≡ n + 1
unfolding clean line_len when◌then◌else◌
len_clean n [] h c e = absurd (omega arith)
len_clean zero (a ∷ l) h c e = rw (eq-eqb a newline e)
len_clean (suc n) (a ∷ l) h c e = go (a =? newline) refl c (λ k. len_clean n l (omega arith) k e)
  where
    go : (b : Bool) → (a =? newline) ≡ b → (when b then false else clean (take n l)) ≡ true → (clean (take n l) ≡ true → line_len l ≡ n + 1)
        → (when b then 1 else suc (line_len l)) ≡ suc n + 1
    go true q k ih = absurd (false≢true k)
    go false q k ih = omega (arith, ih k)

pub clean_more : (l : List ℕ) (i : ℕ) → i < length l → clean (take (i + 1) l) ≡ (when get_or l i 0 =? newline then false else clean (take i l))
unfolding clean when◌then◌else◌
clean_more [] i h = absurd (omega arith)
clean_more (a ∷ l) zero h = refl
clean_more (a ∷ l) (suc i) h =
    let e : suc i + 1 ≡ suc (i + 1) = omega arith in
    ap (λ (n : ℕ). clean (take n (a ∷ l))) e ∙ ap (λ (b : Bool). when a =? newline then false else b) (clean_more l i (omega arith))
    ∙ swap (a =? newline) (get_or l i 0 =? newline) (clean (take i l))
  where
    swap : (x y k : Bool) → (when x then false else (when y then false else k)) ≡ (when y then false else (when x then false else k))
    swap true true k = refl
    swap true false k = refl
    swap false true k = refl
    swap false false k = refl

pub clean_next : (l : List ℕ) (i : ℕ) → i < length l → (clean (take i l) && not (get_or l i 0 =? newline)) ≡ clean (take (i + 1) l)
unfolding when◌then◌else◌
clean_next l i h = sym (clean_more l i h ∙ pick (get_or l i 0 =? newline) (clean (take i l)))
  where
    pick : (x k : Bool) → (when x then false else k) ≡ (k && not x)
    pick true true = refl
    pick true false = refl
    pick false true = refl
    pick false false = refl

-- a frame's line: 48 bytes with no newline, and then one
pub whole_line : (text : List ℕ) (at : ℕ) → 49 ≤ length text - at → get_or text (at + 48) 0 ≡ newline
    → clean (take 48 (take (length text - at) (drop at text))) ≡ true → at + 49 ≡ at + line_len (drop at text)
whole_line text at h n c =
    let all : take (length text - at) (drop at text) ≡ drop at text = take_all (length text - at) (drop at text) (simp length-drop (omega arith)) in
    let k : line_len (drop at text) ≡ 48 + 1 =
    len_clean 48 (drop at text) (simp length-drop (omega arith)) (ap (λ (x : List ℕ). clean (take 48 x)) (sym all) ∙ c) (get_or-drop at text 48 0 ∙ n) in
    omega arith

-- whether the piece up to e ends with a newline
pub piece_ends : (text : List ℕ) (at e : ℕ) → at < e → e ≤ length text → ends (take (e - at) (drop at text)) ≡ (get_or text (e - 1) 0 =? newline)
piece_ends text at e h k =
    let p = take (e - at) (drop at text) in
    let n : length p ≡ e - at = simp (length-take, length-drop) (omega arith) in
    let i : length p - 1 ≡ e - at - 1 = omega arith in
    let j : at + (e - at - 1) ≡ e - 1 = omega arith in
    let g : get_or p (length p - 1) 0 ≡ get_or text (e - 1) 0 =
    ap (λ (m : ℕ). get_or p m 0) i ∙ get_or-take (e - at) (drop at text) (e - at - 1) 0 (omega arith) ∙ get_or-drop at text (e - at - 1) 0
    ∙ ap (λ (m : ℕ). get_or text m 0) j in
    ends_last p (omega arith) ∙ ap (λ (x : ℕ). x =? newline) g
