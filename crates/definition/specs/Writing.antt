-- A day written from its options and events, the other way round of reading it.
use Rattle.std.specs.Prelude.{List, [], ◌∷◌, ◌++◌, ℕ, zero, suc, ◌+◌, ◌*◌, ◌/◌, ◌%◌, length, take, drop}
use Rattle.std.specs.Prelude.{Option, None as none, Some as some}
use Rattle.definition.specs.Words.{when◌then◌else◌, ◌<?◌, ◌=?◌, any?}
use Rattle.definition.specs.Refusals.{Test, ◌if◌, first, malformed}
use Rattle.definition.specs.Bytes.{frame_length, day_line_length, frame_bytes, frame_of, options_bytes, line_of}
use Rattle.definition.specs.Types.{Options, Frame, Good, Bad, Refusal, OutputShort, Malformed}

-- ── The text ───────────────────────────────────────────────────────────────────────────────────────────────────────────

-- options as they are given: a 0 stays 0, and a number out of range stays what it is
unfoldable pub options_line : Options → List ℕ
options_line o = line_of (options_bytes o)

-- an event with its time; what is no event has no line
unfoldable pub event_line : Frame → List ℕ
event_line (Good e now) = line_of (frame_bytes e now)
event_line Bad = []

unfoldable pub event_lines : List Frame → List ℕ
event_lines [] = []
event_lines (f ∷ fs) = event_line f ++ event_lines fs

unfoldable pub day_text : Options → List Frame → List ℕ
day_text o fs = options_line o ++ event_lines fs

-- ── Events as bytes ────────────────────────────────────────────────────────────────────────────────────────────────────

-- how many frames so many bytes are; a last piece that is too short counts
unfoldable pub frames_count : ℕ → ℕ
frames_count n = n / frame_length + (when n % frame_length =? 0 then 0 else 1)

-- frames one behind the other; a last piece that is too short is one more, a bad one
unfoldable pub frames_from : (count : ℕ) → List ℕ → List Frame
frames_from zero b = []
frames_from (suc n) b = frame_of (take frame_length b) ∷ frames_from n (drop frame_length b)

unfoldable pub frames_in : List ℕ → List Frame
frames_in b = frames_from (frames_count (length b)) b

-- ── The tests, in order ────────────────────────────────────────────────────────────────────────────────────────────────

-- of a text of so many lines, in which these events stand; nothing else is refused
unfoldable pub writing_tests : (room lines : ℕ) → List Frame → List Test
writing_tests room lines fs = (OutputShort if room <? day_line_length * lines) ∷ (Malformed if any? malformed fs) ∷ []

-- a text at the front of what was lent, or a refusal
pub data Writing : Type 0 where
  NotWritten : Refusal → Writing
  Written : (text : List ℕ) → Writing

abbrev pub unless : Option Refusal → (text : List ℕ) → Writing
unless none t = Written t
unless (some r) t = NotWritten r

unfoldable pub write_options : (room : ℕ) → Options → Writing
write_options room o = unless (first (writing_tests room 1 [])) (options_line o)

unfoldable pub write_event : (room : ℕ) → Frame → Writing
write_event room f = unless (first (writing_tests room 1 (f ∷ []))) (event_line f)

unfoldable pub write_day : (room : ℕ) → Options → List Frame → Writing
write_day room o fs = unless (first (writing_tests room (length fs + 1) fs)) (day_text o fs)

-- what is lent afterwards: bytes past the text stay, and all of them do where nothing was written
abbrev pub laid : Writing → (lent : List ℕ) → List ℕ
laid (NotWritten r) l = l
laid (Written t) l = t ++ drop (length t) l
