-- Whatever the text in words, what is written for it is a day that the writer writes, of the options and events told.
use Rattle.std.specs.Prelude.{◌≡◌, Bool, ℕ, ◌+◌, ◌*◌, ◌≤◌, ◌<◌, length, is_some}
use Rattle.std.proofs.Math.Path.{refl, sym, ap}
use Rattle.std.proofs.Common.{subst, ◌∙◌, true≢false, arith}
use Rattle.std.proofs.Math.Bool.{true, false}
use Rattle.std.proofs.lemmas.Bool.{false≢true}
use mathlib.Core.List.{List, [], ◌∷◌, ◌++◌, append_assoc, append-nil}
use Rattle.std.specs.Prelude.{Option}
use Rattle.definition.specs.Words.{when◌then◌else◌, any?}
use Rattle.definition.proofs.Sentences.{if_both}
use Rattle.definition.specs.Refusals.{malformed, causeless}
use Rattle.definition.specs.Bytes.{day_line_length, frame_bytes, frame_of}
use Rattle.definition.specs.Writing.{options_line, event_line, event_lines, day_text, Written, unless, write_day}
use Rattle.definition.specs.RoundTrip.{Writable, Storable, frame_good}
use Rattle.definition.specs.DayRoundTrip.{DayRead, AllWritable, no_frame, frame_more, sound_first, day_written_read, all_pass}
use Rattle.definition.specs.declared.Event.{Event}
use Rattle.definition.specs.declared.Frame.{Frame}
use Rattle.definition.specs.declared.Frame.TheVariants.{Good}
use Rattle.definition.specs.declared.Options.{Options}
use Rattle.definition.specs.declared.Refusal.{Refusal}
use Rattle.notation.specs.declared.Setting.{Setting}
use Rattle.notation.specs.declared.Setting.TheVariants.{Maximum, Minimum, MaxConnecting}
use Rattle.notation.specs.declared.Expected.{Expected}
use Rattle.notation.specs.declared.Expected.TheVariants.{NoOption, OtherOption}
use Rattle.notation.specs.declared.Place.{Place}
use Rattle.notation.specs.declared.Said.{Said}
use Rattle.notation.specs.declared.Said.TheVariants as line
use Rattle.notation.specs.Notation.{says}
use Rattle.notation.specs.Good.{Fits, fits_start, fits_takes, fits_says, fits_option_says, fits_idle_says}
use Rattle.wording.specs.Wording.{Reading, word_takes, behind, end_word, begun, reads, ended}
use Rattle.heading.specs.declared.Heading.{Heading}
use Rattle.heading.specs.declared.Told.TheVariants as tells
use Rattle.heading.specs.Heading.{options_of, has, with_setting, with_idle, with_event, heard, option, hears}
use Rattle.laying.specs.Laying.{first_line, frame_line}
use Rattle.draft.specs.Draft.{Text, start, with_reading, told, line_ended, byte_taken, text_taken, closed, day_told}

-- ── The line under way ─────────────────────────────────────────────────────────────────────────────────────────────────────

abbrev FitsAt : Reading → Type 0
FitsAt r = Fits r.place

fits_word : (p : Place) (w : List ℕ) → Fits p → Fits (word_takes p w)
unfolding word_takes
fits_word p w h = if_both Fits (λ e. tt) (λ e. fits_takes p w h)

fits_behind : (w : List ℕ) (q : Place) → Fits q → FitsAt (behind w q)
fits_behind w q h = if_both FitsAt (λ e. h) (λ e. h)

fits_end_word : (p : Place) (w : List ℕ) → Fits p → FitsAt (end_word p w)
unfolding end_word
fits_end_word p w h = if_both FitsAt (λ e. h) (λ e. fits_behind w (word_takes p w) (fits_word p w h))

module _ (r : Reading) (h : FitsAt r) where
  fits_reads : (c : ℕ) → FitsAt (reads r c)
  unfolding reads
  fits_reads c =
      let e : FitsAt (end_word r.place r.word) = fits_end_word r.place r.word h in
      if_both FitsAt (λ a. h) (λ a. if_both FitsAt (λ b. e) (λ b. if_both FitsAt (λ d. e) (λ d. h)))

  fits_ended : FitsAt (ended r)
  unfolding ended
  fits_ended = if_both FitsAt (λ e. h) (λ e. fits_end_word r.place r.word h)

-- ── One event more ─────────────────────────────────────────────────────────────────────────────────────────────────────────

lines_more : (fs : List Frame) (f : Frame) → event_lines (fs ++ f ∷ []) ≡ event_lines fs ++ event_line f
unfolding event_lines
lines_more [] f = append-nil (event_line f)
lines_more (g ∷ fs) f = ap (λ (l : List ℕ). event_line g ++ l) (lines_more fs f) ∙ sym (append_assoc (event_line g) (event_lines fs) (event_line f))

day_more : (o : Options) (fs : List Frame) (f : Frame) → day_text o fs ++ event_line f ≡ day_text o (fs ++ f ∷ [])
unfolding day_text
day_more o fs f = append_assoc (options_line o) (event_lines fs) (event_line f) ∙ ap (λ (l : List ℕ). options_line o ++ l) (sym (lines_more fs f))

day_none : (o : Options) → options_line o ≡ day_text o []
unfolding day_text event_lines
day_none o = sym (append-nil (options_line o))

sound_more : (fs : List Frame) (f : Frame) → any? malformed fs ≡ false → malformed f ≡ false → any? malformed (fs ++ f ∷ []) ≡ false
unfolding when◌then◌else◌
sound_more [] f h k = rw k
sound_more (g ∷ fs) f h k = let s = sound_first g fs h in rw s.0 (sound_more fs f s.1 k)

writable_more : {fs : List Frame} (e : Event) (now : ℕ) → AllWritable fs → Writable e now → AllWritable (fs ++ Good e now ∷ [])
writable_more e now no_frame w = frame_more e now w no_frame
writable_more e now (frame_more d t v vs) w = frame_more d t v (writable_more e now vs w)

frame_sound : (f : Frame) → malformed f ≡ false → frame_line f ≡ event_line f
unfolding when◌then◌else◌
frame_sound f h = rw h

frame_told : (e : Event) (now : ℕ) → causeless e ≡ false → Writable e now → frame_line (frame_of (frame_bytes e now)) ≡ event_line (Good e now)
frame_told e now c w = ap frame_line (frame_good e now w) ∙ frame_sound (Good e now) c

-- ── A text ─────────────────────────────────────────────────────────────────────────────────────────────────────────────────

-- nothing is written before the first event, and from there on what is written is a day
abbrev pub day_out : Heading → List Frame → List ℕ
day_out h fs = when h.is_begun then day_text (options_of h) fs else []

pub record Sound (s : Text) : Type 0 where
  pub place : Fits s.reading.place
  pub storable : Storable (options_of s.heading)
  pub writable : AllWritable s.frames
  pub sound : any? malformed s.frames ≡ false
  pub first : s.heading.is_begun ≡ false → s.frames ≡ []
  pub out : s.out ≡ day_out s.heading s.frames

pub sound_start : Sound start
unfolding when◌then◌else◌
sound_start = record {
  place = fits_start;
  storable = record { maximum = omega arith; minimum = omega arith; connecting = omega arith; idle = omega arith };
  writable = no_frame;
  sound = refl;
  first = λ e. refl;
  out = refl;
}

-- before the first event other options change nothing that is written
out_options : (b : Bool) (o p : Options) (fs : List Frame) → (b ≡ true → p ≡ o) → (when b then day_text o fs else []) ≡ (when b then day_text p fs else [])
unfolding when◌then◌else◌
out_options true o p fs k = ap (λ (x : Options). day_text x fs) (sym (k refl))
out_options false o p fs k = refl

-- the options' line before the first event, and none behind it
out_closed : (b : Bool) (o : Options) (fs : List Frame) (out : List ℕ) → (b ≡ false → fs ≡ []) → out ≡ (when b then day_text o fs else [])
    → out ++ (when b then [] else options_line o) ≡ day_text o fs
unfolding when◌then◌else◌
out_closed true o fs out p q = append-nil out ∙ q
out_closed false o fs out p q = ap (λ (l : List ℕ). l ++ options_line o) q ∙ day_none o ∙ ap (day_text o) (sym (p refl))

module _ (h : Heading) (n : ℕ) where
  setting_begun : (s : Setting) → (with_setting h s n).is_begun ≡ h.is_begun
  setting_begun Maximum = refl
  setting_begun Minimum = refl
  setting_begun MaxConnecting = refl

  setting_storable : (s : Setting) → Storable (options_of h) → n < 4294967296 → Storable (options_of (with_setting h s n))
  setting_storable Maximum k l = record { maximum = l; minimum = k.minimum; connecting = k.connecting; idle = k.idle }
  setting_storable Minimum k l = record { maximum = k.maximum; minimum = l; connecting = k.connecting; idle = k.idle }
  setting_storable MaxConnecting k l = record { maximum = k.maximum; minimum = k.minimum; connecting = l; idle = k.idle }

  idle_storable : Storable (options_of h) → n < 18446744073709551616 → Storable (options_of (with_idle h n))
  idle_storable k l = record { maximum = k.maximum; minimum = k.minimum; connecting = k.connecting; idle = l }

module _ (s : Text) (k : Sound s) where
  abbrev h : Heading
  h = s.heading

  text_closed : s.out ++ first_line h ≡ day_text (options_of h) s.frames
  text_closed = out_closed h.is_begun (options_of h) s.frames s.out k.first k.out

  -- a line that tells no event
  quiet : (x : Text) → x.reading ≡ begun → x.frames ≡ s.frames ++ [] → x.out ≡ s.out ++ [] → Storable (options_of x.heading)
      → x.heading.is_begun ≡ h.is_begun → (h.is_begun ≡ true → options_of x.heading ≡ options_of h) → Sound x
  quiet x a b c d e g =
      let i : x.frames ≡ s.frames = b ∙ append-nil s.frames in
      record {
        place = subst FitsAt (sym a) fits_start;
        storable = d;
        writable = subst AllWritable (sym i) k.writable;
        sound = ap (any? malformed) i ∙ k.sound;
        first = λ z. i ∙ k.first (sym e ∙ z);
        out = c ∙ append-nil s.out ∙ k.out ∙ out_options h.is_begun (options_of h) (options_of x.heading) s.frames g
            ∙ ap (λ (b : Bool). when b then day_text (options_of x.heading) s.frames else []) (sym e) ∙ ap (day_out x.heading) (sym i);
      }

  told_nothing : Sound (told s (heard h tells.Nothing))
  told_nothing = quiet (told s (heard h tells.Nothing)) refl refl refl k.storable refl (λ z. refl)

  told_mistake : (x : Expected) → Sound (told s (heard h (tells.Mistake x)))
  told_mistake x = quiet (told s (heard h (tells.Mistake x))) refl refl refl k.storable refl (λ z. refl)

  option_cases : (b given : Bool) (g : Heading) → h.is_begun ≡ b → Storable (options_of g) → g.is_begun ≡ h.is_begun
      → Sound (told s (when b then heard h (tells.Mistake NoOption) else when given then heard h (tells.Mistake OtherOption) else heard g tells.Nothing))
  unfolding when◌then◌else◌
  option_cases true given g q d e = told_mistake NoOption
  option_cases false true g q d e = told_mistake OtherOption
  option_cases false false g q d e = quiet (told s (heard g tells.Nothing)) refl refl refl d e (λ z. absurd (false≢true (sym q ∙ z)))

  told_option : (given : Bool) (g : Heading) → Storable (options_of g) → g.is_begun ≡ h.is_begun → Sound (told s (option h given g))
  told_option given g d e = option_cases h.is_begun given g refl d e

  told_event : (now : ℕ) (e : Event) → (causeless e ≡ false) × Writable e now → Sound (told s (heard (with_event h) (tells.Event now e)))
  unfolding when◌then◌else◌
  told_event now e w =
      let f : Frame = frame_of (frame_bytes e now) in
      record {
        place = fits_start;
        storable = k.storable;
        writable = writable_more e now k.writable w.1;
        sound = sound_more s.frames (Good e now) k.sound w.0;
        first = λ z. absurd (true≢false z);
        out = sym (append_assoc s.out (first_line h) (frame_line f)) ∙ ap (λ (l : List ℕ). l ++ frame_line f) text_closed
            ∙ ap (λ (l : List ℕ). day_text (options_of h) s.frames ++ l) (frame_told e now w.0 w.1) ∙ day_more (options_of h) s.frames (Good e now);
      }

  told_said : (p : Place) → Fits p → (l : Said) → says p ≡ l → Sound (told s (hears h l))
  told_said p f line.Nothing q = told_nothing
  told_said p f (line.Option i n) q = told_option (has h i) (with_setting h i n) (setting_storable h n i k.storable (fits_option_says p f q)) (setting_begun h n i)
  told_said p f (line.IdleLimit n) q = told_option (is_some h.idle) (with_idle h n) (idle_storable h n k.storable (fits_idle_says p f q)) refl
  told_said p f (line.Event t e) q = told_event t e (fits_says p f q)
  told_said p f (line.Mistake x) q = told_mistake x

  pub sound_ended : Sound (line_ended s)
  unfolding line_ended
  sound_ended = told_said (ended s.reading).place (fits_ended s.reading k.place) (says (ended s.reading).place) refl

  sound_reads : (c : ℕ) → Sound (with_reading s (reads s.reading c))
  sound_reads c = record {
    place = fits_reads s.reading k.place c;
    storable = k.storable;
    writable = k.writable;
    sound = k.sound;
    first = k.first;
    out = k.out;
  }

pub sound_byte : (s : Text) (c : ℕ) → Sound s → Sound (byte_taken s c)
unfolding byte_taken
sound_byte s c k = if_both Sound (λ e. sound_ended s k) (λ e. sound_reads s k c)

pub sound_text : (s : Text) (t : List ℕ) → Sound s → Sound (text_taken s t)
unfolding text_taken
sound_text s [] k = k
sound_text s (c ∷ t) k = sound_text (byte_taken s c) t (sound_byte s c k)

-- ── A day ──────────────────────────────────────────────────────────────────────────────────────────────────────────────────

-- what was written is the day of what was told, and a day can hold all of it
pub record TellsDay (s : Text) : Type 0 where
  pub out : s.out ≡ day_text (options_of s.heading) s.frames
  pub storable : Storable (options_of s.heading)
  pub writable : AllWritable s.frames
  pub sound : any? malformed s.frames ≡ false

sound_closed : (s : Text) → Sound s → TellsDay (closed s)
sound_closed s k = record { out = text_closed s k; storable = k.storable; writable = k.writable; sound = k.sound }

module _ (t : List ℕ) where
  pub day_told_lem : TellsDay (day_told t)
  unfolding day_told
  day_told_lem =
      let s : Text = text_taken start t in
      sound_closed (line_ended s) (sound_ended s (sound_text start t sound_start))

  -- read, it gives back what was told
  pub told_read : DayRead (day_told t).out (options_of (day_told t).heading) (day_told t).frames
  told_read =
      let s : Text = day_told t in
      let d : TellsDay s = day_told_lem in
      subst (λ (l : List ℕ). DayRead l (options_of s.heading) s.frames) (sym d.out) (day_written_read (options_of s.heading) s.frames d.storable d.writable)

  -- and where there is room the writer writes the same
  pub told_written : (room : ℕ) → day_line_length * (length (day_told t).frames + 1) ≤ room
      → write_day room (options_of (day_told t).heading) (day_told t).frames ≡ Written (day_told t).out
  unfolding write_day
  told_written room h =
      let s : Text = day_told t in
      let d : TellsDay s = day_told_lem in
      ap (λ (r : Option Refusal). unless r (day_text (options_of s.heading) s.frames)) (all_pass room (length s.frames + 1) s.frames h d.sound)
      ∙ ap Written (sym d.out)
