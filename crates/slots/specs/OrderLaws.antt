-- Laws of order lists, and of bytes laid down, for those who call.
use Rattle.std.specs.Prelude.{◌≡◌, refl, Bool, true, false, List, [], ◌∷◌, ◌++◌, ℕ, zero, suc, ◌+◌, ◌-◌, ◌≤◌, ◌<◌, take, drop, get_or, set}
use Rattle.std.proofs.Math.Path.{sym}
use Rattle.std.proofs.Common.{ap, ◌∙◌, append_assoc, inl, inr, eq-or-lt_of_le, arith, length-drop, take_at, drop_at, drop-drop, length-take-le, eqb-true}
use Rattle.std.proofs.Math.ListN.{length, length-append}
use Rattle.std.proofs.Math.Seq.{take-nil, drop-nil}
use Rattle.std.proofs.lemmas.Bool.{eqb-false}
use Rattle.definition.specs.Words.{when◌then◌else◌, ◌=?◌}
use Rattle.definition.specs.Records.{Fields}
use Rattle.definition.specs.Bytes.{record_bytes}
use Rattle.slots.specs.Order.{place_by, shifted}
use Rattle.records.specs.Laid.{laid}

-- ── Cells behind the first ─────────────────────────────────────────────────────────────────────────────────────────────

pub get_d_tail : (l : List ℕ) (k : ℕ) → get_or (drop 1 l) k 0 ≡ get_or l (suc k) 0
get_d_tail [] k = refl
get_d_tail (x ∷ l) k = refl

take_tail : (n : ℕ) (l : List ℕ) → take n (drop 1 l) ≡ drop 1 (take (suc n) l)
take_tail n [] = take-nil n
take_tail n (x ∷ l) = refl

drop_tail : (n : ℕ) (l : List ℕ) → drop (suc n) l ≡ drop n (drop 1 l)
drop_tail n [] = sym (drop-nil n)
drop_tail n (x ∷ l) = refl

pub length_tail : (n : ℕ) (l : List ℕ) → n < length l → length (take n (drop 1 l)) ≡ n
length_tail n l h = length-take-le n (drop 1 l) (simp length-drop (omega arith))

one_less : (n : ℕ) → suc n - 1 ≡ n
one_less n = omega arith

-- ── The search ─────────────────────────────────────────────────────────────────────────────────────────────────────────

if_either : (P : ℕ → Type 0) (b : Bool) (s t : ℕ) → (b ≡ true → P s) → (b ≡ false → P t) → P (when b then s else t)
unfolding when◌then◌else◌
if_either P true s t f g = f refl
if_either P false s t f g = g refl

-- what holds of 0 where the front cell has it, and of one more than the place behind where not, holds of the place
place_either : (P : ℕ → Type 0) (f : ℕ → ℕ) (x n : ℕ) (l : List ℕ)
    → (f (get_or l 0 0) ≡ x → P 0) → ((f (get_or l 0 0) ≡ x → ⊥) → P (suc (place_by f x n (drop 1 l)))) → P (place_by f x (suc n) l)
unfolding place_by
place_either P f x n l hit miss =
    if_either P (f (get_or l 0 0) =? x) 0 (suc (place_by f x n (drop 1 l))) (λ e. hit (eqb-true _ _ e)) (λ e. miss (eqb-false _ _ e))

pub place_most : (f : ℕ → ℕ) (x n : ℕ) (l : List ℕ) → place_by f x n l ≤ n
unfolding place_by
place_most f x zero l = omega arith
place_most f x (suc n) l =
    place_either (λ (r : ℕ). r ≤ suc n) f x n l (λ _. omega arith) (λ _. omega (arith, place_most f x n (drop 1 l)))

-- where it is below n, it is there
pub place_found : (f : ℕ → ℕ) (x n : ℕ) (l : List ℕ) → place_by f x n l < n → f (get_or l (place_by f x n l) 0) ≡ x
place_found f x zero l = λ h. absurd (omega arith)
place_found f x (suc n) l =
    place_either (λ (r : ℕ). r < suc n → f (get_or l r 0) ≡ x) f x n l
    (λ e _. e)
    (λ _ h. rw (get_d_tail l (place_by f x n (drop 1 l))) at (place_found f x n (drop 1 l) (omega arith)))

-- and nowhere before
pub place_before : (f : ℕ → ℕ) (x n : ℕ) (l : List ℕ) (k : ℕ) → k < place_by f x n l → f (get_or l k 0) ≡ x → ⊥
place_before f x zero l k = λ h _. omega (arith, place_most f x 0 l)
place_before f x (suc n) l zero = place_either (λ (r : ℕ). 0 < r → f (get_or l 0 0) ≡ x → ⊥) f x n l (λ _ h _. omega arith) (λ other _. other)
place_before f x (suc n) l (suc k) =
    place_either (λ (r : ℕ). suc k < r → f (get_or l (suc k) 0) ≡ x → ⊥) f x n l
    (λ _ h _. omega arith)
    (λ _ h e. place_before f x n (drop 1 l) k (omega arith) (rw (get_d_tail l k) e))

-- none of the first i has it
abbrev pub Missed : (ℕ → ℕ) → ℕ → ℕ → List ℕ → Type 0
Missed f x i l = (k : ℕ) → k < i → f (get_or l k 0) ≡ x → ⊥

pub missed_more : (f : ℕ → ℕ) (x i : ℕ) (l : List ℕ) → Missed f x i l → (f (get_or l i 0) ≡ x → ⊥) → Missed f x (i + 1) l
missed_more f x i l m other k h e = elim (eq-or-lt_of_le {n = k} {m = i} (omega arith)) [ inl q ↦ other (rw q at e) | inr q ↦ m k q e ]

missed_tail : (f : ℕ → ℕ) (x i : ℕ) (l : List ℕ) → Missed f x (suc i) l → Missed f x i (drop 1 l)
missed_tail f x i l m k h e = m (suc k) (omega arith) (rw (get_d_tail l k) at e)

pub place_is : (f : ℕ → ℕ) (x n i : ℕ) (l : List ℕ) → i < n → Missed f x i l → f (get_or l i 0) ≡ x → place_by f x n l ≡ i
place_is f x zero i l h m e = absurd (omega arith)
place_is f x (suc n) zero l h m e = place_either (λ (r : ℕ). r ≡ 0) f x n l (λ _. refl) (λ other. absurd (other e))
place_is f x (suc n) (suc i) l h m e =
    place_either (λ (r : ℕ). r ≡ suc i) f x n l
    (λ yes. absurd (m 0 (omega arith) yes))
    (λ _. ap suc (place_is f x n i (drop 1 l) (omega arith) (missed_tail f x i l m) (rw (get_d_tail l i) e)))

pub place_none : (f : ℕ → ℕ) (x n : ℕ) (l : List ℕ) → Missed f x n l → place_by f x n l ≡ n
unfolding place_by
place_none f x zero l m = refl
place_none f x (suc n) l m =
    place_either (λ (r : ℕ). r ≡ suc n) f x n l
    (λ yes. absurd (m 0 (omega arith) yes))
    (λ _. ap suc (place_none f x n (drop 1 l) (missed_tail f x n l m)))

-- ── The shift ──────────────────────────────────────────────────────────────────────────────────────────────────────────

-- a 0 put in after n cells
abbrev gap : ℕ → List ℕ → List ℕ
gap n l = take n l ++ 0 ∷ drop n l

shifted_gap : (n : ℕ) (l : List ℕ) → shifted (suc n) l ≡ gap n (drop 1 l)
unfolding shifted
shifted_gap n l = rw (one_less n) (ap (λ (r : List ℕ). take n (drop 1 l) ++ 0 ∷ r) (drop_tail n l))

gap_front : (n : ℕ) (l : List ℕ) (k : ℕ) → k < n → get_or (gap n l) k 0 ≡ get_or l k 0
gap_front zero l k h = absurd (omega arith)
gap_front (suc n) [] zero h = refl
gap_front (suc n) [] (suc k) h = refl
gap_front (suc n) (x ∷ l) zero h = refl
gap_front (suc n) (x ∷ l) (suc k) h = gap_front n l k (omega arith)

gap_at : (n : ℕ) (l : List ℕ) → get_or (gap n l) n 0 ≡ 0
gap_at zero l = refl
gap_at (suc n) [] = refl
gap_at (suc n) (x ∷ l) = gap_at n l

gap_back : (n : ℕ) (l : List ℕ) (k : ℕ) → n ≤ k → get_or (gap n l) (suc k) 0 ≡ get_or l k 0
gap_back zero l k h = refl
gap_back (suc n) [] k h = refl
gap_back (suc n) (x ∷ l) zero h = absurd (omega arith)
gap_back (suc n) (x ∷ l) (suc k) h = gap_back n l k (omega arith)

gap_clear : (n : ℕ) (l : List ℕ) → ((k : ℕ) → n ≤ k → get_or l k 0 ≡ 0) → (k : ℕ) → n ≤ k → get_or (gap n l) k 0 ≡ 0
gap_clear zero l z zero h = refl
gap_clear zero l z (suc k) h = z k (omega arith)
gap_clear (suc n) [] z zero h = refl
gap_clear (suc n) [] z (suc k) h = refl
gap_clear (suc n) (x ∷ l) z zero h = absurd (omega arith)
gap_clear (suc n) (x ∷ l) z (suc k) h = gap_clear n l (λ j g. z (suc j) (omega arith)) k (omega arith)

gap_every : (P : ℕ → Type 0) (n : ℕ) (l : List ℕ) → P 0 → ((k : ℕ) → P (get_or l k 0)) → (k : ℕ) → P (get_or (gap n l) k 0)
gap_every P zero l z h zero = z
gap_every P zero l z h (suc k) = h k
gap_every P (suc n) [] z h zero = z
gap_every P (suc n) [] z h (suc k) = z
gap_every P (suc n) (x ∷ l) z h zero = h 0
gap_every P (suc n) (x ∷ l) z h (suc k) = gap_every P n l z (λ k. h (suc k)) k

pub length_shifted : (n : ℕ) (l : List ℕ) → 0 < n → n ≤ length l → length (shifted n l) ≡ length l
length_shifted zero l h k = absurd (omega arith)
length_shifted (suc n) l h k = rw (shifted_gap n l) (simp (length-append, length-drop, length_tail n l k) (omega arith))

pub take_shifted : (n : ℕ) (l : List ℕ) → 0 < n → n ≤ length l → take (n - 1) (shifted n l) ≡ drop 1 (take n l)
take_shifted zero l h k = absurd (omega arith)
take_shifted (suc n) l h k = rw (shifted_gap n l, one_less n) (take_at (take n (drop 1 l)) _ n (length_tail n l k) ∙ take_tail n l)

pub drop_shifted : (n : ℕ) (l : List ℕ) → 0 < n → n ≤ length l → drop (n - 1) (shifted n l) ≡ 0 ∷ drop n l
drop_shifted zero l h k = absurd (omega arith)
drop_shifted (suc n) l h k = rw (shifted_gap n l, one_less n, drop_tail n l) (drop_at (take n (drop 1 l)) _ n (length_tail n l k))

-- cells before the last of the n, the last, and those behind
pub shifted_front : (n : ℕ) (l : List ℕ) (k : ℕ) → k < n - 1 → get_or (shifted n l) k 0 ≡ get_or l (k + 1) 0
shifted_front zero l k h = absurd (omega arith)
shifted_front (suc n) l k h =
    let e : k + 1 ≡ suc k = omega arith in
    rw (shifted_gap n l, e) (gap_front n (drop 1 l) k (omega arith) ∙ get_d_tail l k)

pub shifted_last : (n : ℕ) (l : List ℕ) → 0 < n → get_or (shifted n l) (n - 1) 0 ≡ 0
shifted_last zero l h = absurd (omega arith)
shifted_last (suc n) l h = rw (shifted_gap n l, one_less n) (gap_at n (drop 1 l))

pub shifted_back : (n : ℕ) (l : List ℕ) (k : ℕ) → 0 < n → n ≤ k → get_or (shifted n l) k 0 ≡ get_or l k 0
shifted_back zero l k h g = absurd (omega arith)
shifted_back (suc n) l zero h g = absurd (omega arith)
shifted_back (suc n) l (suc k) h g = rw (shifted_gap n l) (gap_back n (drop 1 l) k (omega arith) ∙ get_d_tail l k)

-- zeros past the n stay, and one more stands before them
pub shifted_clear : (n : ℕ) (l : List ℕ) → 0 < n → ((k : ℕ) → n ≤ k → get_or l k 0 ≡ 0) → (k : ℕ) → n - 1 ≤ k → get_or (shifted n l) k 0 ≡ 0
shifted_clear zero l h z k g = absurd (omega arith)
shifted_clear (suc n) l h z k g =
    rw (shifted_gap n l) (gap_clear n (drop 1 l) (λ (j : ℕ) (q : n ≤ j). get_d_tail l j ∙ z (suc j) (omega arith)) k (omega arith))

-- what holds of every cell and of 0 still does
pub shifted_every : (P : ℕ → Type 0) (n : ℕ) (l : List ℕ) → 0 < n → P 0 → ((k : ℕ) → P (get_or l k 0)) → (k : ℕ) → P (get_or (shifted n l) k 0)
shifted_every P zero l h z every k = absurd (omega arith)
shifted_every P (suc n) l h z every k =
    rw (shifted_gap n l) (gap_every P n (drop 1 l) z (λ (j : ℕ). rw (get_d_tail l j) (every (suc j))) k)

pub shifted_below : (m n : ℕ) (l : List ℕ) → 0 < n → ((k : ℕ) → get_or l k 0 < m) → (k : ℕ) → get_or (shifted n l) k 0 < m
shifted_below m n l h below = shifted_every (λ (v : ℕ). v < m) n l h (omega (arith, below 0)) below

-- and a cell that is written
pub set_below : (m : ℕ) (l : List ℕ) (i v : ℕ) → v < m → ((k : ℕ) → get_or l k 0 < m) → (k : ℕ) → get_or (set l i v) k 0 < m
set_below m [] i v low below k = below k
set_below m (x ∷ l) zero v low below zero = low
set_below m (x ∷ l) zero v low below (suc k) = below (suc k)
set_below m (x ∷ l) (suc i) v low below zero = below zero
set_below m (x ∷ l) (suc i) v low below (suc k) = set_below m l i v low (λ (j : ℕ). below (suc j)) k

-- ── Bytes laid down ────────────────────────────────────────────────────────────────────────────────────────────────────

pub length_record : (serial : ℕ) (r : Fields) → length (record_bytes serial r) ≡ 16
unfolding record_bytes
length_record serial r = refl

pub length_laid : (l : List ℕ) (off : ℕ) (bs : List ℕ) → off + length bs ≤ length l → length (laid l off bs) ≡ length l
unfolding laid
length_laid l off bs h =
    let e : length (take off l) ≡ off = length-take-le off l (omega arith) in
    simp (length-append, length-drop, e) (omega arith)

-- what stands before and behind is kept, and what is laid behind continues it
pub take_laid : (l : List ℕ) (off : ℕ) (bs : List ℕ) → off ≤ length l → take off (laid l off bs) ≡ take off l
unfolding laid
take_laid l off bs h = take_at (take off l) _ off (length-take-le off l h)

module _ (l : List ℕ) (off : ℕ) (bs : List ℕ) (h : off + length bs ≤ length l) where
  laid_end : length (take off l ++ bs) ≡ off + length bs
  laid_end = length-append (take off l) bs ∙ ap (λ (r : ℕ). r + length bs) (length-take-le off l (omega arith))

  laid_split : laid l off bs ≡ (take off l ++ bs) ++ drop (off + length bs) l
  unfolding laid
  laid_split = sym (append_assoc (take off l) bs _)

  pub through_laid : take (off + length bs) (laid l off bs) ≡ take off l ++ bs
  through_laid = rw laid_split (take_at (take off l ++ bs) _ _ laid_end)

  pub drop_laid : drop (off + length bs) (laid l off bs) ≡ drop (off + length bs) l
  drop_laid = rw laid_split (drop_at (take off l ++ bs) _ _ laid_end)

  pub past_laid : (n : ℕ) → drop (off + length bs + n) (laid l off bs) ≡ drop (off + length bs + n) l
  past_laid n = rw (← drop-drop n (off + length bs) (laid l off bs), drop_laid) (drop-drop n (off + length bs) l)

  pub laid_laid : (cs : List ℕ) → laid (laid l off bs) (off + length bs) cs ≡ laid l off (bs ++ cs)
  unfolding laid
  laid_laid cs =
      let long : off + length (bs ++ cs) ≡ off + length bs + length cs = simp length-append (omega arith) in
      rw (through_laid, past_laid (length cs), long) (simp append_assoc)
