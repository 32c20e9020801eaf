-- One law for each exit, over variables.
use Rattle.std.specs.Prelude.{◌≡◌, refl, Bool, true, false, ℕ, ◌+◌, ◌-◌, ◌≤◌, ◌<◌, length, take, drop}
use Rattle.std.proofs.Common.{sym, ap, subst, ◌∙◌, arith, le-ltb, length-append, length-drop, length-take}
use mathlib.Core.List.{List, [], ◌++◌}
use Rattle.definition.specs.Words.{when◌then◌else◌}
use Rattle.definition.specs.Refusals.{first, malformed}
use Rattle.definition.specs.Bytes.{frame_bytes, frame_of}
use Rattle.definition.specs.Writing as Definition
use Rattle.definition.specs.Writing.{options_line, event_line, Writing, NotWritten, writing_tests, write_options, write_event}
use Rattle.definition.specs.DayRoundTrip.{length_options, length_event}
use Rattle.definition.specs.declared.Event.{Event}
use Rattle.definition.specs.declared.Frame.{Frame}
use Rattle.definition.specs.declared.Options.{Options}
use Rattle.big_endian.specs.Laws.{tail_more}
use Rattle.std.specs.Prelude.{Result}
use Rattle.definition.specs.declared.Refusal.{Refusal}
use Rattle.writing.specs.Writes.{Writes}
use Rattle.heading.specs.declared.Heading.{Heading}
use Rattle.heading.specs.declared.Told.{Told}
use Rattle.heading.specs.Heading.{options_of}
use Rattle.heading.specs.declared.Told.TheVariants as tells
use Rattle.laying.specs.Laying.{first_line, frame_line, written, Lays, bytes_in}

first_cases : (b : Bool) (l : List ℕ) → length l ≡ 49 → length (when b then [] else l) ≤ 49
unfolding when◌then◌else◌
first_cases true l e = omega arith
first_cases false l e = omega arith

pub first_length : (h : Heading) → length (first_line h) ≤ 49
first_length h = first_cases h.is_begun (options_line (options_of h)) (length_options (options_of h))

frame_cases : (f : Frame) (b : Bool) → malformed f ≡ b → length (when b then [] else event_line f) ≤ 49
unfolding when◌then◌else◌
frame_cases f true e = omega arith
frame_cases f false e = omega (arith, length_event f e)

frame_length_lem : (f : Frame) → length (frame_line f) ≤ 49
frame_length_lem f = frame_cases f (malformed f) refl

pub written_length : (h : Heading) (t : Told) → length (written h t) ≤ 98
written_length h tells.Nothing = omega arith
written_length h (tells.Event t e) =
    let f : Frame = frame_of (frame_bytes e t) in
    omega (arith, length-append (first_line h) (frame_line f), first_length h, frame_length_lem f)
written_length h (tells.Mistake x) = omega arith

pub lays_nothing : (l : List ℕ) → Lays [] l 0 l
lays_nothing l = record { count = refl; out = refl }

-- what a writer lays
text_in : Writing → List ℕ
text_in (NotWritten r) = []
text_in (Definition.Written t) = t

writes_lays : (w : Writing) (l : List ℕ) (r : Result ℕ Refusal) (l' : List ℕ) (k : ℕ) → Writes w l r l' → k ≡ bytes_in r → Lays (text_in w) l k l'
unfolding text_in
writes_lays (NotWritten r) l x l' k w e = record { count = e ∙ ap bytes_in w.answer; out = w.out }
writes_lays (Definition.Written t) l x l' k w e = record { count = e ∙ ap bytes_in w.answer; out = w.out }

options_text : (n : ℕ) (o : Options) → 49 ≤ n → text_in (write_options n o) ≡ options_line o
unfolding text_in write_options writing_tests first when◌then◌else◌
options_text n o h = rw (le-ltb n 49 h)

event_cases : (n : ℕ) (f : Frame) (b : Bool) → malformed f ≡ b → 49 ≤ n → text_in (write_event n f) ≡ (when b then [] else event_line f)
unfolding text_in write_event writing_tests first when◌then◌else◌
event_cases n f true e h = rw (le-ltb n 49 h, e)
event_cases n f false e h = rw (le-ltb n 49 h, e)

module _ (h : Heading) (l : List ℕ) where
  pub first_none : h.is_begun ≡ true → Lays (first_line h) l 0 l
  unfolding when◌then◌else◌
  first_none e = rw e (lays_nothing l)

  pub first_laid : (o : Options) (r : Result ℕ Refusal) (l' : List ℕ) (k : ℕ) → h.is_begun ≡ false → o ≡ options_of h → 49 ≤ length l → Writes (write_options (length l) o) l r l'
      → k ≡ bytes_in r → Lays (first_line h) l k l'
  unfolding when◌then◌else◌
  first_laid o r l' k e q g w n =
      rw (e, ← q) (subst (λ (t : List ℕ). Lays t l k l') (options_text (length l) o g) (writes_lays (write_options (length l) o) l r l' k w n))

pub event_laid : (e : Event) (t : ℕ) (b l : List ℕ) (r : Result ℕ Refusal) (l' : List ℕ) (k : ℕ) → b ≡ frame_bytes e t → 49 ≤ length l
    → Writes (write_event (length l) (frame_of b)) l r l' → k ≡ bytes_in r → Lays (frame_line (frame_of (frame_bytes e t))) l k l'
event_laid e t b l r l' k q g w n =
    let f : Frame = frame_of b in
    subst (λ (x : List ℕ). Lays (frame_line (frame_of x)) l k l') q
    (subst (λ (x : List ℕ). Lays x l k l') (event_cases (length l) f (malformed f) refl g) (writes_lays (write_event (length l) f) l r l' k w n))

-- one text, and another in the tail behind it
pub lays_both : (a b l m y : List ℕ) (n k : ℕ) → Lays a l n m → Lays b (take (length m - n) (drop n m)) k y
    → Lays (a ++ b) l (n + k) (take n m ++ (y ++ drop (length m - n) (drop n m)))
lays_both a b l m y n k p q =
    let c : length a ≡ n = sym p.count in
    let d : length (a ++ b) ≡ n + k = length-append a b ∙ omega (arith, p.count, q.count) in
    let e : m ≡ a ++ drop n l = p.out ∙ ap (λ (i : ℕ). a ++ drop i l) c in
    let g : y ≡ b ++ drop k (take (length m - n) (drop n m)) = q.out ∙ ap (λ (i : ℕ). b ++ drop i (take (length m - n) (drop n m))) (sym q.count) in
    record { count = sym d; out = tail_more n k a b l m y c e g ∙ ap (λ (i : ℕ). (a ++ b) ++ drop i l) (sym d) }

-- the lent bytes keep their length
pub lays_length : (a l m : List ℕ) (n : ℕ) → Lays a l n m → n ≤ length l → length m ≡ length l
lays_length a l m n p h =
    ap length p.out ∙ length-append a (drop (length a) l) ∙ omega (arith, length-drop (length a) l, p.count)

-- the tail behind the options' line has room for an event
pub room_left : (h : Heading) (l m : List ℕ) (n : ℕ) → Lays (first_line h) l n m → 98 ≤ length l → (n ≤ length m) × (49 ≤ length (take (length m - n) (drop n m)))
room_left h l m n p g =
    let k : n ≤ 49 = omega (arith, p.count, first_length h) in
    let e : length m ≡ length l = lays_length (first_line h) l m n p (omega arith) in
    (omega (arith, k, e), simp (length-take, length-drop) (omega (arith, k, e)))

pub event_written : (h : Heading) (t : Told) (now : ℕ) (e : Event) {l m : List ℕ} {n : ℕ} → t ≡ tells.Event now e
    → Lays (first_line h ++ frame_line (frame_of (frame_bytes e now))) l n m → Lays (written h t) l n m
event_written h t now e q p = rw q p

pub sum_small : (h : Heading) (f : Frame) (a b x y : List ℕ) (n k : ℕ) → Lays (first_line h) a n x → Lays (frame_line f) b k y → n + k < 18446744073709551616
sum_small h f a b x y n k p q = omega (arith, p.count, q.count, first_length h, frame_length_lem f)
