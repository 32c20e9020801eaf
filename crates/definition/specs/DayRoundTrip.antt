-- A day's text, read, is its options and events; a text that is read as options and events is their text. And what the writer
-- refuses as malformed is what the pool does.
use Rattle.std.specs.Prelude.{◌≡◌, refl, Bool, true, false, List, [], ◌∷◌, ◌++◌, map, ℕ, ◌+◌, ◌*◌, ◌/◌, ◌%◌, ◌≤◌, ◌<◌, length, drop}
use Rattle.std.proofs.Common.{ap, sym, ◌∙◌, true≢false, append_assoc, arith, length-append, ne_eqb, lt-ltb, le-ltb}
use Rattle.std.specs.Prelude.{Option, None as none, Some as some}
use Rattle.definition.specs.Words.{when◌then◌else◌, ◌<?◌, ◌=?◌, any?}
use Rattle.definition.specs.Booleans.{by_bool}
use Rattle.definition.specs.Pool.{Pool}
use Rattle.definition.specs.Steps.{Out}
use Rattle.definition.specs.Refusals.{Test, ◌if◌, first, refusal_no, kind_tests, tests, causeless, malformed, Refused, verdict, outcome, step, enough_room}
use Rattle.definition.specs.Bytes.{day_line_length, frame_bytes, options_bytes, newline, digit_of, hex_of, line_of, frame_of_line, options_of_line}
use Rattle.definition.specs.Day.{before, lines_of}
use Rattle.definition.specs.Writing.{options_line, event_line, event_lines, day_text, writing_tests}
use Rattle.definition.specs.Laws.{not_first}
use Rattle.definition.specs.HexLaws.{length_line_of}
use Rattle.definition.specs.RoundTrip.{Writable, written_read, read_written, Storable, options_written_read, options_read_written, frame_length_lem, options_length}
use Rattle.definition.specs.Types.{Options, Event, CheckOut, WarmPool, Abandon, CheckIn, Clear, MarkAsReady, Succeeded, SucceededForPool, Failed, Maintenance, FillPool, Pin, ReturnToPinner, TakeFromPinner, Close, Frame, Good, Bad, Refusal, OutputShort, Malformed}

-- the text's lines: one that is read as the options, and others that are read as the frames
pub record DayRead (text : List ℕ) (o : Options) (fs : List Frame) : Type 0 where
  pub head : List ℕ
  pub others : List (List ℕ)
  pub lines : lines_of text ≡ head ∷ others
  pub options : options_of_line head ≡ some o
  pub frames : map frame_of_line others ≡ fs

pub data AllWritable : List Frame → Type 0 where
  no_frame : AllWritable []
  frame_more : (e : Event) (now : ℕ) {fs : List Frame} → Writable e now → AllWritable fs → AllWritable (Good e now ∷ fs)

-- ── Written, then read ─────────────────────────────────────────────────────────────────────────────────────────────────

digit_cases : (n : ℕ) (b : Bool) → (when b then 48 + n else 87 + n) =? newline ≡ false
unfolding when◌then◌else◌
digit_cases n true = ne_eqb (48 + n) 10 (λ e. omega arith)
digit_cases n false = ne_eqb (87 + n) 10 (λ e. omega arith)

-- a digit is no newline
no_newline : (n : ℕ) → digit_of n =? newline ≡ false
unfolding digit_of
no_newline n = digit_cases n (n <? 10)

digits_first : (bs t : List ℕ) → lines_of (hex_of bs ++ newline ∷ t) ≡ (hex_of bs ++ newline ∷ []) ∷ lines_of t
unfolding lines_of hex_of when◌then◌else◌
digits_first [] t = refl
digits_first (b ∷ bs) t = rw (no_newline (b / 16), no_newline (b % 16), digits_first bs t)

-- a line at the front of a text is the first of its lines
pub line_first : (bs t : List ℕ) → lines_of (line_of bs ++ t) ≡ line_of bs ∷ lines_of t
unfolding line_of
line_first bs t = ap lines_of (append_assoc (hex_of bs) (newline ∷ []) t) ∙ digits_first bs t

events_read : {fs : List Frame} → AllWritable fs → map frame_of_line (lines_of (event_lines fs)) ≡ fs
unfolding event_lines event_line lines_of
events_read no_frame = refl
events_read (frame_more e now {fs} w ws) = rw (line_first (frame_bytes e now) (event_lines fs), written_read e now w, events_read ws)

pub day_written_read : (o : Options) (fs : List Frame) → Storable o → AllWritable fs → DayRead (day_text o fs) o fs
unfolding day_text options_line
day_written_read o fs s ws = record {
  head = line_of (options_bytes o);
  others = lines_of (event_lines fs);
  lines = line_first (options_bytes o) (event_lines fs);
  options = options_written_read o s;
  frames = events_read ws;
}

-- ── Read, then written ─────────────────────────────────────────────────────────────────────────────────────────────────

abbrev joined : List (List ℕ) → List ℕ
joined [] = []
joined (l ∷ ls) = l ++ joined ls

before_joined : (c : ℕ) (ls : List (List ℕ)) → joined (before c ls) ≡ c ∷ joined ls
before_joined c [] = refl
before_joined c (l ∷ ls) = refl

one_joined : (c : ℕ) (b : Bool) (ls : List (List ℕ)) → joined (when b then (c ∷ []) ∷ ls else before c ls) ≡ c ∷ joined ls
unfolding when◌then◌else◌
one_joined c true ls = refl
one_joined c false ls = before_joined c ls

-- the lines of a text, one behind the other, are the text
lines_joined : (t : List ℕ) → joined (lines_of t) ≡ t
unfolding lines_of
lines_joined [] = refl
lines_joined (c ∷ t) = one_joined c (c =? newline) (lines_of t) ∙ ap (λ (l : List ℕ). c ∷ l) (lines_joined t)

-- where none is malformed, the first is not, and none of the others
pub sound_first : (f : Frame) (fs : List Frame) → any? malformed (f ∷ fs) ≡ false → (malformed f ≡ false) × (any? malformed fs ≡ false)
unfolding when◌then◌else◌
sound_first f fs h = by_bool (malformed f) (λ t. absurd (true≢false (rw t at h))) (λ t. (t, rw t at h))

-- lines that are read as events are the events' lines
record AreLines (ls : List (List ℕ)) (fs : List Frame) : Type 0 where
  same : joined ls ≡ event_lines fs
  writable : AllWritable fs

event_line_lem : (l : List ℕ) (f : Frame) → frame_of_line l ≡ f → malformed f ≡ false → {ls : List (List ℕ)} {fs : List Frame} → AreLines ls fs → AreLines (l ∷ ls) (f ∷ fs)
unfolding event_lines event_line
event_line_lem l Bad q h r = absurd (true≢false h)
event_line_lem l (Good e now) q h {ls} {fs} r =
    let i = read_written l e now q in
    record { same = rw (i.same, r.same); writable = frame_more e now i.writable r.writable }

events_written : (ls : List (List ℕ)) → any? malformed (map frame_of_line ls) ≡ false → AreLines ls (map frame_of_line ls)
unfolding event_lines
events_written [] h = record { same = refl; writable = no_frame }
events_written (l ∷ ls) h =
    let s = sound_first (frame_of_line l) (map frame_of_line ls) h in
    event_line_lem l (frame_of_line l) refl s.0 (events_written ls s.1)

pub record IsDay (text : List ℕ) (o : Options) (fs : List Frame) : Type 0 where
  pub same : day_text o fs ≡ text
  pub storable : Storable o
  pub writable : AllWritable fs

pub day_read_written : (text : List ℕ) (o : Options) (fs : List Frame) → DayRead text o fs → any? malformed fs ≡ false → IsDay text o fs
unfolding day_text options_line
day_read_written text o fs d h =
    let i = options_read_written d.head o d.options in
    let e : AreLines d.others fs = rw d.frames at (events_written d.others (rw d.frames h)) in
    record {
      same = rw (← i.same, ← e.same) (sym (ap joined d.lines) ∙ lines_joined text);
      storable = i.storable;
      writable = e.writable;
    }

-- ── Lengths ────────────────────────────────────────────────────────────────────────────────────────────────────────────

pub length_options : (o : Options) → length (options_line o) ≡ day_line_length
unfolding options_line
length_options o = length_line_of (options_bytes o) ∙ omega (arith, options_length o)

pub length_event : (f : Frame) → malformed f ≡ false → length (event_line f) ≡ day_line_length
unfolding event_line
length_event Bad h = absurd (true≢false h)
length_event (Good e now) h = length_line_of (frame_bytes e now) ∙ omega (arith, frame_length_lem e now)

length_events : (fs : List Frame) → any? malformed fs ≡ false → length (event_lines fs) ≡ day_line_length * length fs
unfolding event_lines
length_events [] h = refl
length_events (f ∷ fs) h =
    let s = sound_first f fs h in
    length-append (event_line f) (event_lines fs) ∙ omega (arith, length_event f s.0, length_events fs s.1)

pub day_length : (o : Options) (fs : List Frame) → any? malformed fs ≡ false → length (day_text o fs) ≡ day_line_length * (length fs + 1)
unfolding day_text
day_length o fs h = length-append (options_line o) (event_lines fs) ∙ omega (arith, length_options o, length_events fs h)

-- ── The tests ──────────────────────────────────────────────────────────────────────────────────────────────────────────

-- room comes first, whatever the events are
module _ (room lines : ℕ) (fs : List Frame) where
  pub short_first : room < day_line_length * lines → first (writing_tests room lines fs) ≡ some OutputShort
  unfolding writing_tests first when◌then◌else◌
  short_first h = rw (lt-ltb room (day_line_length * lines) h)

  pub malformed_next : day_line_length * lines ≤ room → any? malformed fs ≡ true → first (writing_tests room lines fs) ≡ some Malformed
  unfolding writing_tests first when◌then◌else◌
  malformed_next h t = rw (le-ltb room (day_line_length * lines) h, t)

  pub all_pass : day_line_length * lines ≤ room → any? malformed fs ≡ false → first (writing_tests room lines fs) ≡ none
  unfolding writing_tests first when◌then◌else◌
  all_pass h s = rw (le-ltb room (day_line_length * lines) h, s)

  pub passed_sound : first (writing_tests room lines fs) ≡ none → any? malformed fs ≡ false
  unfolding writing_tests
  passed_sound h = (not_first Malformed _ _ (not_first OutputShort _ _ h).1).0

-- ── Malformed ──────────────────────────────────────────────────────────────────────────────────────────────────────────

-- a test for refusal 2
abbrev for_malformed : Test → Bool
for_malformed (r if b) = refusal_no r =? 2

never_malformed : (ts : List Test) → any? for_malformed ts ≡ false → first ts ≡ some Malformed → ⊥
unfolding first when◌then◌else◌
never_malformed [] n h = let z : ◌≡◌ {A = ℕ} 0 1 = cc in absurd (omega arith)
never_malformed ((r if true) ∷ ts) n h = let e : r ≡ Malformed = cc in absurd (true≢false (rw e at n))
never_malformed ((r if false) ∷ ts) n h =
    by_bool (refusal_no r =? 2) (λ t. absurd (true≢false (rw t at n))) (λ t. never_malformed ts (rw t at n) h)

kind_never : (p : Pool) (e : Event) (now : ℕ) → any? for_malformed (kind_tests p e now) ≡ false
unfolding when◌then◌else◌
kind_never p (CheckOut n) now = refl
kind_never p (WarmPool n) now = refl
kind_never p (Abandon n) now = refl
kind_never p (CheckIn n errored executing let_go) now = refl
kind_never p (Clear timeout cause) now = refl
kind_never p MarkAsReady now = refl
kind_never p (Succeeded n) now = refl
kind_never p (SucceededForPool n opened) now = refl
kind_never p (Failed n) now = refl
kind_never p Maintenance now = refl
kind_never p FillPool now = refl
kind_never p (Pin n) now = refl
kind_never p (ReturnToPinner n) now = refl
kind_never p (TakeFromPinner n) now = refl
kind_never p Close now = refl

-- the pool refuses it as malformed, whatever its state
pub malformed_refused : (p : Pool) (f : Frame) → malformed f ≡ true → step p f enough_room ≡ Refused Malformed
unfolding step tests first when◌then◌else◌
malformed_refused p Bad h = refl
malformed_refused p (Good e now) h = rw h

refusal_in_lem : (t : Option Refusal) (o : Out Pool) (r : Refusal) → verdict t o ≡ Refused r → t ≡ some r
refusal_in_lem none o r h = let z : ◌≡◌ {A = ℕ} 0 1 = cc in absurd (omega arith)
refusal_in_lem (some s) o r h = let e : s ≡ r = cc in ap some e

-- and nothing else
pub refused_malformed : (p : Pool) (f : Frame) → step p f enough_room ≡ Refused Malformed → malformed f ≡ true
unfolding step tests first when◌then◌else◌
refused_malformed p Bad h = refl
refused_malformed p (Good e now) h =
    let others : List Test = drop 2 (tests p (Good e now) enough_room) in
    let g : (when causeless e then some Malformed else first others) ≡ some Malformed =
    refusal_in_lem (first (tests p (Good e now) enough_room)) (outcome (Good e now) p) Malformed h in
    by_bool (causeless e) (λ t. t) (λ t. absurd (never_malformed others (kind_never p e now) (rw t at g)))
