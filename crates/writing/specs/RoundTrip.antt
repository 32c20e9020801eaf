-- What is written is read back, and what was read is written again, for a line and for a whole day: of any answer and any bytes
-- that the contracts allow.
use Rattle.std.specs.Prelude.{◌≡◌, refl, false, List, [], ◌∷◌, ◌++◌, ℕ, zero, suc, ◌+◌, ◌*◌, ◌/◌, ◌%◌, ◌≤◌, ◌<◌, length, take, drop}
use Rattle.std.proofs.Common.{ap, sym, ◌∙◌, true≢false, arith, length-append, take_at, drop_at}
use Rattle.std.specs.Prelude.{Option, None as none, Some as some}
use Rattle.definition.specs.Words.{any?}
use Rattle.definition.specs.Refusals.{first, causeless, malformed}
use Rattle.definition.specs.Bytes.{day_line_length, frame_bytes, frame_of, frame_of_line, options_of_line}
use Rattle.definition.specs.Writing as Definition
use Rattle.definition.specs.Writing.{Writing, NotWritten, unless, frames_from, frames_in, options_line, event_line, day_text, writing_tests, write_options, write_event, write_day}
use Rattle.definition.specs.HexLaws.{Bytes, none8, more8}
use Rattle.definition.specs.RoundTrip.{Writable, Storable, frame_good, frame_bytes_lem, frame_length_lem, frame_read, line_good, read_written, options_written_read, options_read_written}
use Rattle.definition.specs.DayRoundTrip.{DayRead, AllWritable, no_frame, frame_more, sound_first, length_options, length_event, day_length, short_first, all_pass, passed_sound, day_written_read, day_read_written}
use Rattle.definition.specs.declared.Event.{Event}
use Rattle.definition.specs.declared.Frame.{Frame}
use Rattle.definition.specs.declared.Frame.TheVariants.{Good, Bad}
use Rattle.definition.specs.declared.Options.{Options}
use Rattle.definition.specs.declared.Refusal.{Refusal}
use Rattle.definition.specs.declared.Refusal.TheVariants.{OutputShort}
use Rattle.std.specs.Prelude.{Result, Ok, Err}
use Rattle.writing.specs.Writes.{Writes}
use Rattle.writing.specs.Laws.{bytes_take, bytes_drop, sound_length, sound_line, count_whole, one_alone}

-- ── The answer ─────────────────────────────────────────────────────────────────────────────────────────────────────────────

-- nothing is left open
pub written_once : {w : Writing} {lent : List ℕ} {r r' : Result ℕ Refusal} {left left' : List ℕ} → Writes w lent r left → Writes w lent r' left' → (r ≡ r') × (left ≡ left')
written_once a b = (a.answer ∙ sym b.answer, a.out ∙ sym b.out)

pub refused_stays : (w : Writing) (lent : List ℕ) (r : Result ℕ Refusal) (left : List ℕ) (x : Refusal) → Writes w lent r left → r ≡ Err x → left ≡ lent
refused_stays (NotWritten y) lent r left x a e = a.out
refused_stays (Definition.Written t) lent r left x a e =
    let q : Err x ≡ Ok (length t) = sym e ∙ a.answer in
    let z : ◌≡◌ {A = ℕ} 0 1 = cc in absurd (omega arith)

-- where bytes were written, no test held, and the text stands in front
record Front (t : Option Refusal) (text : List ℕ) (n : ℕ) (left : List ℕ) : Type 0 where
  passed : t ≡ none
  front : take n left ≡ text

in_front : (t : Option Refusal) (text lent : List ℕ) (r : Result ℕ Refusal) (left : List ℕ) (n : ℕ) → Writes (unless t text) lent r left → r ≡ Ok n → Front t text n left
in_front none text lent r left n a e =
    let q : Ok n ≡ Ok (length text) = sym e ∙ a.answer in
    let k : n ≡ length text = cc in
    record { passed = refl; front = ap (take n) a.out ∙ take_at text (drop (length text) lent) n (sym k) }
in_front (some x) text lent r left n a e =
    let q : Ok n ≡ Err x = sym e ∙ a.answer in
    let z : ◌≡◌ {A = ℕ} 0 1 = cc in absurd (omega arith)

-- a text is the answer, and stands at the front of what was lent
pub record Leaves (text lent : List ℕ) (r : Result ℕ Refusal) (left : List ℕ) : Type 0 where
  pub answer : r ≡ Ok (length text)
  pub out : left ≡ text ++ drop (length text) lent

leaves : (t : Option Refusal) (text lent : List ℕ) (r : Result ℕ Refusal) (left : List ℕ) → t ≡ none → Writes (unless t text) lent r left → Leaves text lent r left
leaves none text lent r left e a = record { answer = a.answer; out = a.out }
leaves (some x) text lent r left e a = let z : ◌≡◌ {A = ℕ} 0 1 = cc in absurd (omega arith)

-- ── Too short ──────────────────────────────────────────────────────────────────────────────────────────────────────────────

too_short : (room lines : ℕ) (fs : List Frame) (text lent : List ℕ) (r : Result ℕ Refusal) (left : List ℕ) → room < day_line_length * lines
    → Writes (unless (first (writing_tests room lines fs)) text) lent r left → r ≡ Err OutputShort
too_short room lines fs text lent r left h a = rw (short_first room lines fs h) at a.answer

-- a text of one line, or of one line more than there are events, has no room, whatever the events are
pub options_short_refused : (o : Options) (lent : List ℕ) (r : Result ℕ Refusal) (left : List ℕ) → length lent < day_line_length
    → Writes (write_options (length lent) o) lent r left → r ≡ Err OutputShort
unfolding write_options
options_short_refused o lent r left h a = too_short (length lent) 1 [] (options_line o) lent r left h a

pub event_short_refused : (f : Frame) (lent : List ℕ) (r : Result ℕ Refusal) (left : List ℕ) → length lent < day_line_length
    → Writes (write_event (length lent) f) lent r left → r ≡ Err OutputShort
unfolding write_event
event_short_refused f lent r left h a = too_short (length lent) 1 (f ∷ []) (event_line f) lent r left h a

pub short_refused : (o : Options) (fs : List Frame) (lent : List ℕ) (r : Result ℕ Refusal) (left : List ℕ) → length lent < day_line_length * (length fs + 1)
    → Writes (write_day (length lent) o fs) lent r left → r ≡ Err OutputShort
unfolding write_day
short_refused o fs lent r left h a = too_short (length lent) (length fs + 1) fs (day_text o fs) lent r left h a

-- ── Options ────────────────────────────────────────────────────────────────────────────────────────────────────────────────

pub options_back : (o : Options) (lent : List ℕ) (r : Result ℕ Refusal) (left : List ℕ) (n : ℕ) → Storable o
    → Writes (write_options (length lent) o) lent r left → r ≡ Ok n → options_of_line (take n left) ≡ some o
unfolding write_options options_line
options_back o lent r left n s a e =
    let f = in_front (first (writing_tests (length lent) 1 [])) (options_line o) lent r left n a e in
    ap options_of_line f.front ∙ options_written_read o s

pub options_again : (l : List ℕ) (o : Options) (lent : List ℕ) (r : Result ℕ Refusal) (left : List ℕ) → options_of_line l ≡ some o → length l ≤ length lent
    → Writes (write_options (length lent) o) lent r left → Leaves l lent r left
unfolding write_options options_line
options_again l o lent r left q h a =
    let s : l ≡ options_line o = (options_read_written l o q).same in
    let k : day_line_length ≤ length lent = omega (arith, ap length s, length_options o) in
    rw s (leaves (first (writing_tests (length lent) 1 [])) (options_line o) lent r left (all_pass (length lent) 1 [] k refl) a)

-- ── An event ───────────────────────────────────────────────────────────────────────────────────────────────────────────────

-- bytes that are an event, as a line, are read as that event
line_back : (b : List ℕ) → Bytes b → malformed (frame_of b) ≡ false → frame_of_line (event_line (frame_of b)) ≡ frame_of b
unfolding frame_of_line
line_back b h s = rw (sound_line b h s, line_good b h (sound_length b s))

pub event_back : (b lent : List ℕ) (r : Result ℕ Refusal) (left : List ℕ) (n : ℕ) → Bytes b
    → Writes (write_event (length lent) (frame_of b)) lent r left → r ≡ Ok n → frame_of_line (take n left) ≡ frame_of b
unfolding write_event
event_back b lent r left n h a e =
    let f = in_front (first (writing_tests (length lent) 1 (frame_of b ∷ []))) (event_line (frame_of b)) lent r left n a e in
    let s = sym (one_alone (frame_of b)) ∙ passed_sound (length lent) 1 (frame_of b ∷ []) f.passed in
    ap frame_of_line f.front ∙ line_back b h s

-- from an event with its time
pub event_given_back : (e : Event) (now : ℕ) (lent : List ℕ) (r : Result ℕ Refusal) (left : List ℕ) → Writable e now → causeless e ≡ false → day_line_length ≤ length lent
    → Writes (write_event (length lent) (frame_of (frame_bytes e now))) lent r left
    → (r ≡ Ok day_line_length) × (frame_of_line (take day_line_length left) ≡ Good e now)
unfolding write_event
event_given_back e now lent r left w c h a =
    let b : List ℕ = frame_bytes e now in
    let g : frame_of b ≡ Good e now = frame_good e now w in
    let s : malformed (frame_of b) ≡ false = ap malformed g ∙ c in
    let l = leaves (first (writing_tests (length lent) 1 (frame_of b ∷ []))) (event_line (frame_of b)) lent r left
    (all_pass (length lent) 1 (frame_of b ∷ []) h (one_alone (frame_of b) ∙ s)) a in
    let k : r ≡ Ok day_line_length = l.answer ∙ ap Ok (length_event (frame_of b) s) in
    (k, event_back b lent r left day_line_length (frame_bytes_lem e now) a k ∙ g)

pub event_again : (l : List ℕ) (e : Event) (now : ℕ) (lent : List ℕ) (r : Result ℕ Refusal) (left : List ℕ) → frame_of_line l ≡ Good e now → causeless e ≡ false → length l ≤ length lent
    → Writes (write_event (length lent) (frame_of (frame_bytes e now))) lent r left → Leaves l lent r left
unfolding write_event event_line
event_again l e now lent r left q c h a =
    let i = read_written l e now q in
    let g : frame_of (frame_bytes e now) ≡ Good e now = frame_good e now i.writable in
    let s : l ≡ event_line (Good e now) = i.same in
    let k : day_line_length ≤ length lent = omega (arith, ap length s, length_event (Good e now) c) in
    let a' : Writes (write_event (length lent) (Good e now)) lent r left = rw g at a in
    rw s (leaves (first (writing_tests (length lent) 1 (Good e now ∷ []))) (event_line (Good e now)) lent r left
    (all_pass (length lent) 1 (Good e now ∷ []) k (one_alone (Good e now) ∙ c)) a')

-- ── A day ──────────────────────────────────────────────────────────────────────────────────────────────────────────────────

frame_writable : (b : List ℕ) (f : Frame) → Bytes b → frame_of b ≡ f → malformed f ≡ false → {fs : List Frame} → AllWritable fs → AllWritable (f ∷ fs)
frame_writable b Bad h q s ws = absurd (true≢false s)
frame_writable b (Good e now) h q s ws = frame_more e now (frame_read b e now h q).writable ws

frames_writable : (n : ℕ) (b : List ℕ) → Bytes b → any? malformed (frames_from n b) ≡ false → AllWritable (frames_from n b)
unfolding frames_from
frames_writable zero b h s = no_frame
frames_writable (suc n) b h s =
    let m = sound_first (frame_of (take 24 b)) (frames_from n (drop 24 b)) s in
    frame_writable (take 24 b) (frame_of (take 24 b)) (bytes_take h 24) refl m.0 (frames_writable n (drop 24 b) (bytes_drop h 24) m.1)

pub day_back : (o : Options) (b lent : List ℕ) (r : Result ℕ Refusal) (left : List ℕ) (n : ℕ) → Storable o → Bytes b
    → Writes (write_day (length lent) o (frames_in b)) lent r left → r ≡ Ok n → DayRead (take n left) o (frames_in b)
unfolding write_day frames_in
day_back o b lent r left n s h a e =
    let fs : List Frame = frames_in b in
    let f = in_front (first (writing_tests (length lent) (length fs + 1) fs)) (day_text o fs) lent r left n a e in
    let t : any? malformed fs ≡ false = passed_sound (length lent) (length fs + 1) fs f.passed in
    rw f.front (day_written_read o fs s (frames_writable _ b h t))

-- events as bytes, one behind the other
unfoldable pub frames_bytes : List Frame → List ℕ
frames_bytes [] = []
frames_bytes (Good e now ∷ fs) = frame_bytes e now ++ frames_bytes fs
frames_bytes (Bad ∷ fs) = frames_bytes fs

bytes_append : {a b : List ℕ} → Bytes a → Bytes b → Bytes (a ++ b)
bytes_append none8 h = h
bytes_append (more8 x g r) h = more8 x g (bytes_append r h)

pub frames_bytes_lem : {fs : List Frame} → AllWritable fs → Bytes (frames_bytes fs)
unfolding frames_bytes
frames_bytes_lem no_frame = none8
frames_bytes_lem (frame_more e now w ws) = bytes_append (frame_bytes_lem e now) (frames_bytes_lem ws)

length_frames_bytes : {fs : List Frame} → AllWritable fs → length (frames_bytes fs) ≡ 24 * length fs
unfolding frames_bytes
length_frames_bytes no_frame = refl
length_frames_bytes (frame_more e now {fs} w ws) =
    length-append (frame_bytes e now) (frames_bytes fs) ∙ omega (arith, frame_length_lem e now, length_frames_bytes ws)

frames_from_lem : {fs : List Frame} → AllWritable fs → frames_from (length fs) (frames_bytes fs) ≡ fs
unfolding frames_from frames_bytes
frames_from_lem no_frame = refl
frames_from_lem (frame_more e now {fs} w ws) =
    rw (take_at (frame_bytes e now) (frames_bytes fs) 24 (frame_length_lem e now), drop_at (frame_bytes e now) (frames_bytes fs) 24 (frame_length_lem e now), frame_good e now w, frames_from_lem ws)

-- and they are those events again
pub frames_in_lem : {fs : List Frame} → AllWritable fs → frames_in (frames_bytes fs) ≡ fs
unfolding frames_in
frames_in_lem {fs} ws =
    let n : length (frames_bytes fs) ≡ 24 * length fs = length_frames_bytes ws in
    let z : length (frames_bytes fs) % 24 ≡ 0 = omega (arith, n) in
    let k : length (frames_bytes fs) / 24 ≡ length fs = omega (arith, n) in
    ap (λ (j : ℕ). frames_from j (frames_bytes fs)) (count_whole (length (frames_bytes fs)) z ∙ k) ∙ frames_from_lem ws

-- the events of any day that was read are bytes again
pub record AsBytes (fs : List Frame) : Type 0 where
  pub given : List ℕ
  pub bytes : Bytes given
  pub same : frames_in given ≡ fs

pub day_as_bytes : (text : List ℕ) (o : Options) (fs : List Frame) → DayRead text o fs → any? malformed fs ≡ false → AsBytes fs
day_as_bytes text o fs d s =
    let w = (day_read_written text o fs d s).writable in
    record { given = frames_bytes fs; bytes = frames_bytes_lem w; same = frames_in_lem w }

pub day_again : (text : List ℕ) (o : Options) (fs : List Frame) (b lent : List ℕ) (r : Result ℕ Refusal) (left : List ℕ) → DayRead text o fs → any? malformed fs ≡ false
    → frames_in b ≡ fs → length text ≤ length lent → Writes (write_day (length lent) o (frames_in b)) lent r left → Leaves text lent r left
unfolding write_day
day_again text o fs b lent r left d s q h a =
    let t : day_text o fs ≡ text = (day_read_written text o fs d s).same in
    let k : day_line_length * (length fs + 1) ≤ length lent = omega (arith, ap length t, day_length o fs s) in
    let a' : Writes (write_day (length lent) o fs) lent r left = rw q at a in
    rw (← t) (leaves (first (writing_tests (length lent) (length fs + 1) fs)) (day_text o fs) lent r left (all_pass (length lent) (length fs + 1) fs k s) a')
