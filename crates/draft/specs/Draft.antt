-- A day in words, line by line: what its lines tell, and the day that is written.
use Rattle.std.specs.Prelude.{List, [], ◌∷◌, ◌++◌, ℕ, ◌+◌}
use Rattle.definition.specs.Words.{when◌then◌else◌, ◌=?◌, ◌<?◌}
use Rattle.definition.specs.Bytes.{newline}
use Rattle.definition.specs.declared.Frame.{Frame}
use Rattle.definition.specs.declared.Frame.TheVariants.{Good}
use Rattle.notation.specs.declared.Expected.{Expected}
use Rattle.notation.specs.Notation.{says}
use Rattle.spelling.specs.Spelling.{most}
use Rattle.wording.specs.Wording.{Reading, begun, reads, ended}
use Rattle.heading.specs.declared.Heading.{Heading}
use Rattle.heading.specs.declared.Heard.{Heard}
use Rattle.heading.specs.declared.Told.{Told}
use Rattle.heading.specs.declared.Told.TheVariants as tells
use Rattle.heading.specs.Heading.{blank, hears}
use Rattle.laying.specs.Laying.{first_line, written}

abbrev pub frames_told : Told → List Frame
frames_told tells.Nothing = []
frames_told (tells.Event t e) = Good e t ∷ []
frames_told (tells.Mistake x) = []

-- a mistake: in which line, and what should have come
pub record Fault : Type 0 where
  pub line : ℕ
  pub what : Expected

abbrev pub faults_told : (line : ℕ) → Told → List Fault
faults_told n tells.Nothing = []
faults_told n (tells.Event t e) = []
faults_told n (tells.Mistake x) = record { line = n; what = x } ∷ []

-- lines are counted from 1, as far as 64 bits go
abbrev pub next_line : ℕ → ℕ
next_line n = when n <? most then n + 1 else n

-- a text so far: the line under way and its number, the heading, the events, the mistakes, and the bytes of the day
pub record Text : Type 0 where
  pub reading : Reading
  pub line : ℕ
  pub heading : Heading
  pub frames : List Frame
  pub mistakes : List Fault
  pub out : List ℕ

abbrev pub start : Text
start = record { reading = begun; line = 1; heading = blank; frames = []; mistakes = []; out = [] }

abbrev pub with_reading : Text → Reading → Text
with_reading s r = record { reading = r; line = s.line; heading = s.heading; frames = s.frames; mistakes = s.mistakes; out = s.out }

abbrev pub told : Text → Heard → Text
told s k = record {
  reading = begun;
  line = next_line s.line;
  heading = k.heading;
  frames = s.frames ++ frames_told k.told;
  mistakes = s.mistakes ++ faults_told s.line k.told;
  out = s.out ++ written s.heading k.told;
}

unfoldable pub line_ended : Text → Text
line_ended s = told s (hears s.heading (says (ended s.reading).place))

unfoldable pub byte_taken : Text → ℕ → Text
byte_taken s c = when c =? newline then line_ended s else with_reading s (reads s.reading c)

unfoldable pub text_taken : Text → List ℕ → Text
text_taken s [] = s
text_taken s (c ∷ t) = text_taken (byte_taken s c) t

-- the text's end ends its last line; a day without events is its options' line
abbrev pub closed : Text → Text
closed s = record { reading = s.reading; line = s.line; heading = s.heading; frames = s.frames; mistakes = s.mistakes; out = s.out ++ first_line s.heading }

-- a day in words, whole
unfoldable pub day_told : List ℕ → Text
day_told t = closed (line_ended (text_taken start t))
