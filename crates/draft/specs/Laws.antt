-- One law for each exit, over variables.
use Rattle.std.specs.Prelude.{◌≡◌, refl, true, false, ℕ, zero, suc, ◌+◌, ◌-◌, ◌≤◌, ◌<◌, min, length, take, drop, get_or}
use Rattle.std.proofs.Common.{sym, ◌∙◌, arith, eq-eqb, eqb-true, length-append, length-drop, length-take, take-add, take-take, lt-ltb, le-ltb}
use Rattle.std.proofs.Math.Path.{ap, subst}
use Rattle.std.proofs.lemmas.Bool.{false≢true}
use mathlib.Core.List.{List, [], ◌∷◌, ◌++◌, append_assoc, append-nil}
use Rattle.definition.specs.Words.{when◌then◌else◌, ◌=?◌}
use Rattle.definition.specs.Booleans.{by_bool, by_eq, by_lt}
use Rattle.definition.specs.Bytes.{newline}
use Rattle.newlines.specs.Newlines.{line_len, len_true, len_false, len_positive, len_low}
use Rattle.spelling.specs.Spelling.{most}
use Rattle.notation.specs.declared.Said.{Said}
use Rattle.notation.specs.Notation.{says}
use Rattle.heading.specs.declared.Heading.{Heading}
use Rattle.heading.specs.declared.Heard.{Heard}
use Rattle.heading.specs.declared.Told.{Told}
use Rattle.heading.specs.declared.Told.TheVariants as tells
use Rattle.heading.specs.Heading.{blank, hears}
use Rattle.wording.specs.declared.Line.{Line}
use Rattle.wording.specs.Wording.{Reading, begun, reads, read_all, ended}
use Rattle.wording.specs.Held.{view_of}
use Rattle.draft.specs.declared.Draft.{Draft}
use Rattle.draft.specs.declared.Step.{Step}
use Rattle.laying.specs.Laying.{first_line, written, line_room, Lays}
use Rattle.laying.specs.Laws.{first_length, written_length, lays_nothing, lays_both, lays_length}
use Rattle.draft.specs.Draft.{Text, with_reading, told, Fault, faults_told, next_line, line_ended, byte_taken, text_taken, closed}
use Rattle.draft.specs.Steps.{mistake?, text_of, paused, Begins, Leaves, Stepped, EndsLine, TakesLine, GoesOn, Finishes}

-- ── A line ─────────────────────────────────────────────────────────────────────────────────────────────────────────────────

pub begins : (l : Line) (h : Heading) → view_of l ≡ begun → h ≡ blank → Begins (record { line = l; number = 1; heading = h })
begins l h s e = record { is = rw (e, s) }

pub counted : (n i : ℕ) → n < 18446744073709551616 → i ≡ min (n + 1) most → i ≡ next_line n
unfolding when◌then◌else◌
counted n i h e =
    by_lt n most (λ l. rw (lt-ltb n most l) (omega (arith, e))) (λ l. rw (le-ltb n most l) (omega (arith, e)))

-- a line ends: it was closed, heard and laid, and the next begins
pub line_ends : (d : Draft) (l b : Line) (s : Said) (k : Heard) (n m i : ℕ) (lent left : List ℕ) → view_of l ≡ ended (view_of d.line) → s ≡ says l.place → k ≡ hears d.heading s
    → Lays (written d.heading k.told) lent n left → view_of b ≡ begun → i ≡ next_line d.number
    → EndsLine d m lent (record { draft = record { line = b; number = i; heading = k.heading }; read = m; written = n; told = k.told; ended = l; number = d.number }) left
unfolding line_ended
line_ends d l b s k n m i lent left a e f w g j =
    let h : Heading = d.heading in
    let r : Reading = ended (view_of d.line) in
    let p : l.place ≡ r.place = ap (λ (x : Reading). x.place) a in
    let q : k ≡ hears h (says r.place) = f ∙ ap (hears h) (e ∙ ap says p) in
    record {
      read = refl;
      leaves = record {
        reading = g;
        line = j;
        heading = ap (λ (x : Heard). x.heading) q;
        mistakes = ap (λ (x : Heard). faults_told d.number x.told) q;
        laid = subst (λ (x : Heard). Lays (written h x.told) lent n left) q w;
      };
    }

ended_length : (d : Draft) → length (line_ended (text_of d)).out ≤ 98
unfolding line_ended
ended_length d = written_length d.heading (hears d.heading (says (ended (view_of d.line)).place)).told

-- ── A text ─────────────────────────────────────────────────────────────────────────────────────────────────────────────────

byte_part : (s : Text) (c : ℕ) → (c =? newline) ≡ false → byte_taken s c ≡ with_reading s (reads s.reading c)
unfolding when◌then◌else◌ byte_taken
byte_part s c b = rw b

-- the first line of a text, with its newline
line_newline : (s : Text) (c : ℕ) (t : List ℕ) (m : ℕ) → (c =? newline) ≡ true → 1 ≡ suc m
    → text_taken s (take (suc m) (c ∷ t)) ≡ line_ended (with_reading s (read_all s.reading (take m (c ∷ t))))
unfolding when◌then◌else◌ text_taken byte_taken read_all
line_newline s c t zero b e = rw b
line_newline s c t (suc m) b e = absurd (omega arith)

line_more : (s : Text) (c : ℕ) (t : List ℕ) (m : ℕ)
    → ((x : Text) (k : ℕ) → line_len t ≡ suc k → get_or t k 0 ≡ newline → text_taken x (take (suc k) t) ≡ line_ended (with_reading x (read_all x.reading (take k t))))
    → (c =? newline) ≡ false → suc (line_len t) ≡ suc m → get_or (c ∷ t) m 0 ≡ newline
    → text_taken s (take (suc m) (c ∷ t)) ≡ line_ended (with_reading s (read_all s.reading (take m (c ∷ t))))
unfolding when◌then◌else◌ text_taken byte_taken read_all
line_more s c t zero ih b e g = absurd (false≢true (sym b ∙ eq-eqb c newline g))
line_more s c t (suc k) ih b e g =
    ap (λ (x : Text). text_taken x (take (suc k) t)) (byte_part s c b) ∙ ih (with_reading s (reads s.reading c)) k (omega (arith, e)) g

taken_line : (s : Text) (t : List ℕ) (m : ℕ) → line_len t ≡ suc m → get_or t m 0 ≡ newline
    → text_taken s (take (suc m) t) ≡ line_ended (with_reading s (read_all s.reading (take m t)))
unfolding line_len when◌then◌else◌
taken_line s [] m e g = absurd (omega (arith, e))
taken_line s (c ∷ t) m e g =
    by_bool (c =? newline)
    (λ b. line_newline s c t m b (sym (len_true c t b) ∙ e))
    (λ b. line_more s c t m (λ x k. taken_line x t k) b (sym (len_false c t b) ∙ e) g)

-- a text without a newline
clean_more : (s : Text) (c : ℕ) (t : List ℕ) (n : ℕ)
    → ((x : Text) → (get_or t (line_len t - 1) 0 ≡ newline → ⊥) → text_taken x (take (line_len t) t) ≡ with_reading x (read_all x.reading (take (line_len t) t)))
    → (c =? newline) ≡ false → n ≡ line_len t → (get_or (c ∷ t) n 0 ≡ newline → ⊥)
    → text_taken s (take (suc (line_len t)) (c ∷ t)) ≡ with_reading s (read_all s.reading (take (suc (line_len t)) (c ∷ t)))
unfolding when◌then◌else◌ text_taken byte_taken read_all line_len
clean_more s c [] n ih b e g = rw b
clean_more s c (d ∷ t) zero ih b e g = absurd (omega (arith, e, len_positive (d ∷ t) (omega arith)))
clean_more s c (d ∷ t) (suc k) ih b e g =
    let z : line_len (d ∷ t) - 1 ≡ k = omega (arith, e) in
    ap (λ (x : Text). text_taken x (take (line_len (d ∷ t)) (d ∷ t))) (byte_part s c b)
    ∙ ih (with_reading s (reads s.reading c)) (λ q. g (ap (λ (i : ℕ). get_or (d ∷ t) i 0) (sym z) ∙ q))

less_one : {a b : ℕ} → a ≡ suc b → a - 1 ≡ b
less_one e = omega (arith, e)

taken_part : (s : Text) (t : List ℕ) → (get_or t (line_len t - 1) 0 ≡ newline → ⊥) → text_taken s (take (line_len t) t) ≡ with_reading s (read_all s.reading (take (line_len t) t))
unfolding line_len text_taken read_all
taken_part s [] g = refl
taken_part s (c ∷ t) g =
    by_bool (c =? newline)
    (λ b. absurd (g (ap (λ (i : ℕ). get_or (c ∷ t) (i - 1) 0) (len_true c t b) ∙ eqb-true c newline b)))
    (λ b.
    let e : line_len (c ∷ t) ≡ suc (line_len t) = len_false c t b in
    subst (λ (i : ℕ). text_taken s (take i (c ∷ t)) ≡ with_reading s (read_all s.reading (take i (c ∷ t)))) (sym e)
    (clean_more s c t (line_len t) (λ x. taken_part x t) b refl (λ q. g (ap (λ (i : ℕ). get_or (c ∷ t) i 0) (less_one e) ∙ q))))

-- a text has a first line
pub line_some : (t : List ℕ) (n : ℕ) → n ≡ 0 + line_len (drop 0 t) → 0 < length t → (n ≡ line_len t) × (1 ≤ n)
line_some t n e h = (omega (arith, e), omega (arith, e, len_positive t h))

module _ (d : Draft) (text lent left : List ℕ) (n : ℕ) (e : n ≡ line_len text) (l : Line) where
  -- with the line that was read so far
  abbrev pub further : Draft
  further = record { line = l; number = d.number; heading = d.heading }

  pub line_taken : (r : Step) → 1 ≤ n → get_or text (n - 1) 0 ≡ newline → view_of l ≡ read_all (view_of d.line) (take (n - 1) text) → EndsLine further n lent r left → TakesLine d text lent r left
  line_taken r h g s k =
      let m : line_len text ≡ suc (n - 1) = omega (arith, e) in
      let c : suc (n - 1) ≡ n = omega arith in
      let q : text_taken (text_of d) (take n text) ≡ line_ended (text_of further) =
      ap (λ (i : ℕ). text_taken (text_of d) (take i text)) (sym c) ∙ taken_line (text_of d) text (n - 1) m g
      ∙ ap (λ (x : Reading). line_ended (with_reading (text_of d) x)) (sym s) in
      record {
        read = k.read ∙ e;
        small = omega (arith, k.leaves.laid.count, ended_length further);
        leaves = subst (λ (x : Text). Stepped x lent r left) (sym (ap (λ (i : ℕ). text_taken (text_of d) (take i text)) k.read ∙ q)) k.leaves;
      }

  pub part_taken : (get_or text (n - 1) 0 ≡ newline → ⊥) → view_of l ≡ read_all (view_of d.line) (take n text) → (r : Step) → r ≡ paused further n 0 → TakesLine d text lent r lent
  part_taken g s r z =
      let q : text_taken (text_of d) (take n text) ≡ text_of further =
      subst (λ (i : ℕ). text_taken (text_of d) (take i text) ≡ with_reading (text_of d) (read_all (view_of d.line) (take i text))) (sym e)
      (taken_part (text_of d) text (λ y. g (ap (λ (i : ℕ). get_or text (i - 1) 0) e ∙ y))) ∙ ap (with_reading (text_of d)) (sym s) in
      rw z (record {
        read = e;
        small = omega arith;
        leaves = subst (λ (x : Text). Leaves x further [] lent 0 lent) (sym q)
            (record { reading = refl; line = refl; heading = refl; mistakes = refl; laid = lays_nothing lent });
      })

-- ── Pieces ─────────────────────────────────────────────────────────────────────────────────────────────────────────────────

pub taken_append : (s : Text) (a b : List ℕ) → text_taken s (a ++ b) ≡ text_taken (text_taken s a) b
unfolding text_taken
taken_append s [] b = refl
taken_append s (c ∷ a) b = taken_append (byte_taken s c) a b

-- what was told before stands before what follows, and changes nothing of it
pub record Ahead (p : List ℕ) (m : List Fault) (s b : Text) : Type 0 where
  pub reading : s.reading ≡ b.reading
  pub line : s.line ≡ b.line
  pub heading : s.heading ≡ b.heading
  pub mistakes : s.mistakes ≡ m ++ b.mistakes
  pub out : s.out ≡ p ++ b.out

module _ (p : List ℕ) (m : List Fault) where
  ahead_told : (s b : Text) (k : Heard) → Ahead p m s b → Ahead p m (told s k) (told b k)
  ahead_told s b k a = record {
    reading = refl;
    line = ap next_line a.line;
    heading = refl;
    mistakes = ap (λ (n : ℕ). s.mistakes ++ faults_told n k.told) a.line ∙ ap (λ (l : List Fault). l ++ faults_told b.line k.told) a.mistakes
        ∙ append_assoc m b.mistakes (faults_told b.line k.told);
    out = ap (λ (h : Heading). s.out ++ written h k.told) a.heading ∙ ap (λ (l : List ℕ). l ++ written b.heading k.told) a.out
        ∙ append_assoc p b.out (written b.heading k.told);
  }

  ahead_ended : (s b : Text) → Ahead p m s b → Ahead p m (line_ended s) (line_ended b)
  unfolding line_ended
  ahead_ended s b a =
      let k : Heard = hears b.heading (says (ended b.reading).place) in
      let e : hears s.heading (says (ended s.reading).place) ≡ k =
      ap (λ (h : Heading). hears h (says (ended s.reading).place)) a.heading ∙ ap (λ (r : Reading). hears b.heading (says (ended r).place)) a.reading in
      subst (λ (x : Heard). Ahead p m (told s x) (told b k)) (sym e) (ahead_told s b k a)

  ahead_byte : (s b : Text) (c : ℕ) → Ahead p m s b → Ahead p m (byte_taken s c) (byte_taken b c)
  unfolding byte_taken when◌then◌else◌
  ahead_byte s b c a =
      by_bool (c =? newline) (λ t. rw t (ahead_ended s b a))
      (λ t. rw t (record { reading = ap (λ (r : Reading). reads r c) a.reading; line = a.line; heading = a.heading; mistakes = a.mistakes; out = a.out }))

  ahead_text : (s b : Text) (t : List ℕ) → Ahead p m s b → Ahead p m (text_taken s t) (text_taken b t)
  unfolding text_taken
  ahead_text s b [] a = a
  ahead_text s b (c ∷ t) a = ahead_text (byte_taken s c) (byte_taken b c) t (ahead_byte s b c a)

module _ (s : Text) (d : Draft) (r : view_of d.line ≡ s.reading) (l : d.number ≡ s.line) (h : d.heading ≡ s.heading) where
  ahead_here : Ahead s.out s.mistakes s (text_of d)
  ahead_here = record { reading = sym r; line = sym l; heading = sym h; mistakes = sym (append-nil s.mistakes); out = sym (append-nil s.out) }

  -- what follows is what follows the day under way
  pub follows : (t : List ℕ) → Ahead s.out s.mistakes (text_taken s t) (text_taken (text_of d) t)
  follows t = ahead_text s.out s.mistakes s (text_of d) t ahead_here

  pub follows_end : Ahead s.out s.mistakes (closed (line_ended s)) (closed (line_ended (text_of d)))
  follows_end =
      let x : Text = line_ended s in
      let b : Text = line_ended (text_of d) in
      let a = ahead_ended s.out s.mistakes s (text_of d) ahead_here in
      record {
        reading = a.reading;
        line = a.line;
        heading = a.heading;
        mistakes = a.mistakes;
        out = ap (λ (y : Heading). x.out ++ first_line y) a.heading ∙ ap (λ (o : List ℕ). o ++ first_line b.heading) a.out
            ∙ append_assoc s.out b.out (first_line b.heading);
      }

module _ (s : Text) (d : Draft) (m : List Fault) (lent : List ℕ) (n : ℕ) (left : List ℕ) (k : Leaves s d m lent n left) where
  -- a step more, into the tail
  leaves_on : (x b : Text) (e : Draft) (i : List Fault) (j : ℕ) (y : List ℕ) → Ahead s.out s.mistakes x b → Leaves b e i (take (length left - n) (drop n left)) j y
      → Leaves x e (m ++ i) lent (n + j) (take n left ++ (y ++ drop (length left - n) (drop n left)))
  leaves_on x b e i j y a g = record {
    reading = g.reading ∙ sym a.reading;
    line = g.line ∙ sym a.line;
    heading = g.heading ∙ sym a.heading;
    mistakes = ap (λ (l : List Fault). l ++ i) k.mistakes ∙ ap (λ (l : List Fault). s.mistakes ++ l) g.mistakes ∙ sym a.mistakes;
    laid = subst (λ (t : List ℕ). Lays t lent (n + j) (take n left ++ (y ++ drop (length left - n) (drop n left)))) (sym a.out)
        (lays_both s.out b.out lent left y n j k.laid g.laid);
  }

  pub leaves_more : (t : List ℕ) (r : Step) (y : List ℕ) → Stepped (text_taken (text_of d) t) (take (length left - n) (drop n left)) r y
      → Leaves (text_taken s t) r.draft (m ++ faults_told r.number r.told) lent (n + r.written) (take n left ++ (y ++ drop (length left - n) (drop n left)))
  leaves_more t r y g = leaves_on (text_taken s t) (text_taken (text_of d) t) r.draft (faults_told r.number r.told) r.written y (follows s d k.reading k.line k.heading t) g

-- ── The end ────────────────────────────────────────────────────────────────────────────────────────────────────────────────

pub end_left : (d : Draft) (lent : List ℕ) (r : Step) (left : List ℕ) → EndsLine d 0 lent r left → 147 ≤ length lent
    → (r.written ≤ length left) × (49 ≤ length (take (length left - r.written) (drop r.written left)))
end_left d lent r left k g =
    let p = k.leaves.laid in
    let n : r.written ≤ 98 = omega (arith, p.count, ended_length d) in
    let e : length left ≡ length lent = lays_length _ lent left r.written p (omega (arith, n)) in
    (omega (arith, n, e), simp (length-take, length-drop) (omega (arith, n, e)))

pub finished : (d : Draft) (lent : List ℕ) (r : Step) (left y : List ℕ) (m : ℕ) → EndsLine d 0 lent r left
    → Lays (first_line r.draft.heading) (take (length left - r.written) (drop r.written left)) m y
    → Finishes d lent (record { draft = r.draft; read = r.read; written = r.written + m; told = r.told; ended = r.ended; number = r.number })
    (take r.written left ++ (y ++ drop (length left - r.written) (drop r.written left)))
finished d lent r left y m k f =
    let g = k.leaves in
    let q = ap first_line g.heading in
    record {
      few = omega (arith, g.laid.count, ended_length d, f.count, first_length r.draft.heading);
      leaves = record {
        reading = g.reading;
        line = g.line;
        heading = g.heading;
        mistakes = g.mistakes;
        laid = lays_both _ _ lent left y r.written m g.laid (subst (λ (t : List ℕ). Lays t (take (length left - r.written) (drop r.written left)) m y) q f);
      };
    }

pub end_small : (d : Draft) (lent : List ℕ) (r : Step) (left : List ℕ) (g : Heading) (a y : List ℕ) (m : ℕ) → EndsLine d 0 lent r left → Lays (first_line g) a m y
    → r.written + m < 18446744073709551616
end_small d lent r left g a y m k f = omega (arith, k.leaves.laid.count, ended_length d, f.count, first_length g)

-- ── As much as there is room for ───────────────────────────────────────────────────────────────────────────────────────────

no_mistake : (n : ℕ) (t : Told) → false ≡ mistake? t → faults_told n t ≡ []
no_mistake n tells.Nothing e = refl
no_mistake n (tells.Event m x) e = refl
no_mistake n (tells.Mistake x) e = absurd (false≢true e)

-- before a turn
pub record Going (d₀ : Draft) (text out₀ out : List ℕ) (d : Draft) (at w : ℕ) : Type 0 where
  pub within : at ≤ length text
  pub fits : w ≤ length out₀
  pub long : length out ≡ length out₀
  pub fresh : at ≡ 0 → w ≡ 0
  pub leaves : Leaves (text_taken (text_of d₀) (take at text)) d [] out₀ w out

pub going_start : (d : Draft) (text out : List ℕ) → Going d text out out d 0 0
unfolding text_taken
going_start d text out = record {
  within = omega arith;
  fits = omega arith;
  long = refl;
  fresh = λ e. refl;
  leaves = record { reading = refl; line = refl; heading = refl; mistakes = refl; laid = lays_nothing out };
}

module _ (d₀ : Draft) (text out₀ out : List ℕ) (d : Draft) (at w : ℕ) (g : Going d₀ text out₀ out d at w) where
  abbrev pub rest : List ℕ
  rest = take (length text - at) (drop at text)

  abbrev pub room : List ℕ
  room = take (length out - w) (drop w out)

  abbrev pub back : List ℕ → List ℕ
  back y = take w out ++ (y ++ drop (length out - w) (drop w out))

  pub going_room : length out - w < 98 → (0 < length text → line_room ≤ length out₀ → 0 < at)
  going_room h a b = by_eq at 0 (λ e. absurd (omega (arith, h, b, g.fresh e, g.long))) (λ e. omega (arith, e))

  pub going_length : (n : ℕ) → n ≡ line_len rest → at < length text → (0 < n) × (n ≤ length text - at)
  going_length n e h =
      let l : length rest ≡ length text - at = simp (length-take, length-drop) (omega (arith, h)) in
      (omega (arith, e, len_positive rest (omega (arith, l, h))), omega (arith, e, len_low rest, l))

  pub going_more : (r : Step) (y : List ℕ) → at < length text → TakesLine d rest room r y → Leaves (text_taken (text_of d₀) (take (at + r.read) text)) r.draft (faults_told r.number r.told) out₀ (w + r.written) (back y)
  going_more r y h t =
      let n = going_length r.read t.read h in
      let q : take at text ++ take r.read rest ≡ take (at + r.read) text =
      ap (λ (x : List ℕ). take at text ++ x) (take-take r.read (length text - at) (drop at text) n.1) ∙ sym (take-add at r.read text) in
      let z : text_taken (text_taken (text_of d₀) (take at text)) (take r.read rest) ≡ text_taken (text_of d₀) (take (at + r.read) text) =
      sym (taken_append (text_of d₀) (take at text) (take r.read rest)) ∙ ap (text_taken (text_of d₀)) q in
      subst (λ (x : Text). Leaves x r.draft (faults_told r.number r.told) out₀ (w + r.written) (back y)) z
      (leaves_more (text_taken (text_of d₀) (take at text)) d [] out₀ w out g.leaves (take r.read rest) r y t.leaves)

  pub back_length : (y : List ℕ) → length y ≡ length room → length (back y) ≡ length out
  back_length y e =
      let a : length room ≡ length out - w = simp (length-take, length-drop) (omega arith) in
      length-append (take w out) (y ++ drop (length out - w) (drop w out)) ∙ ap (λ (i : ℕ). length (take w out) + i) (length-append y (drop (length out - w) (drop w out)))
      ∙ simp (length-take, length-drop) (omega (arith, e, a, g.fits, g.long))

  pub going_again : (r : Step) (y : List ℕ) → at < length text → 98 ≤ length out - w → TakesLine d rest room r y → length y ≡ length room → false ≡ mistake? r.told
      → Going d₀ text out₀ (back y) r.draft (at + r.read) (w + r.written)
  going_again r y h k t e m =
      let n = going_length r.read t.read h in
      record {
        within = omega (arith, n.1, h);
        fits = omega (arith, t.small, k, g.long, g.fits);
        long = back_length y e ∙ g.long;
        fresh = λ z. absurd (omega (arith, z, n.0));
        leaves = subst (λ (i : List Fault). Leaves (text_taken (text_of d₀) (take (at + r.read) text)) r.draft i out₀ (w + r.written) (back y)) (no_mistake r.number r.told m) (going_more r y h t);
      }

  pub going_mistake : (r : Step) (y : List ℕ) → at < length text → 98 ≤ length out - w → TakesLine d rest room r y
      → GoesOn d₀ text out₀ (record { draft = r.draft; read = at + r.read; written = w + r.written; told = r.told; ended = r.ended; number = r.number }) (back y)
  going_mistake r y h k t =
      let n = going_length r.read t.read h in
      record {
        within = omega (arith, n.1, h);
        fits = omega (arith, t.small, k, g.long, g.fits);
        moves = λ a b. omega (arith, n.0);
        leaves = going_more r y h t;
      }

  pub going_paused : (r : Step) → r ≡ paused d at w → (0 < length text → line_room ≤ length out₀ → 0 < at) → GoesOn d₀ text out₀ r out
  going_paused r e m = rw e (record { within = g.within; fits = g.fits; moves = m; leaves = g.leaves })
