-- What the code says of a text in words: the text so far, and the bytes laid.
use Rattle.std.specs.Prelude.{◌≡◌, Bool, true, false, List, [], ℕ, ◌*◌, ◌≤◌, ◌<◌, length, take}
use Rattle.definition.specs.Bytes.{day_line_length}
use Rattle.heading.specs.declared.Told.{Told}
use Rattle.heading.specs.declared.Told.TheVariants as tells
use Rattle.newlines.specs.Newlines.{line_len}
use Rattle.wording.specs.Held.{view_of}
use Rattle.draft.specs.declared.Draft.{Draft}
use Rattle.draft.specs.declared.Step.{Step}
use Rattle.laying.specs.Laying.{line_room, Lays}
use Rattle.draft.specs.Draft.{Text, Fault, start, faults_told, text_taken, line_ended, closed}

abbrev pub mistake? : Told → Bool
mistake? tells.Nothing = false
mistake? (tells.Event t e) = false
mistake? (tells.Mistake x) = true

-- the text's end writes a line more than a line does
abbrev pub end_room : ℕ
end_room = 3 * day_line_length

-- a text from here on
abbrev pub text_of : Draft → Text
text_of d = record { reading = view_of d.line; line = d.number; heading = d.heading; frames = []; mistakes = []; out = [] }

pub record Begins (d : Draft) : Type 0 where
  pub is : text_of d ≡ start

-- the text s is left as this day under way, with these mistakes, and its bytes at the front of what was lent
pub record Leaves (s : Text) (d : Draft) (m : List Fault) (lent : List ℕ) (n : ℕ) (left : List ℕ) : Type 0 where
  pub reading : view_of d.line ≡ s.reading
  pub line : d.number ≡ s.line
  pub heading : d.heading ≡ s.heading
  pub mistakes : m ≡ s.mistakes
  pub laid : Lays s.out lent n left

-- nothing is told
abbrev pub paused : Draft → (read written : ℕ) → Step
paused d n w = record { draft = d; read = n; written = w; told = tells.Nothing; ended = d.line; number = d.number }

-- by a step
abbrev pub Stepped : Text → (lent : List ℕ) → Step → (left : List ℕ) → Type 0
Stepped s lent r left = Leaves s r.draft (faults_told r.number r.told) lent r.written left

pub record EndsLine (d : Draft) (n : ℕ) (lent : List ℕ) (r : Step) (left : List ℕ) : Type 0 where
  pub read : r.read ≡ n
  pub leaves : Stepped (line_ended (text_of d)) lent r left

pub record TakesLine (d : Draft) (text lent : List ℕ) (r : Step) (left : List ℕ) : Type 0 where
  pub read : r.read ≡ line_len text
  pub small : r.written ≤ line_room
  pub leaves : Stepped (text_taken (text_of d) (take r.read text)) lent r left

-- where there is a text, and room for a line, some of it is read
pub record GoesOn (d : Draft) (text lent : List ℕ) (r : Step) (left : List ℕ) : Type 0 where
  pub within : r.read ≤ length text
  pub fits : r.written ≤ length lent
  pub moves : 0 < length text → line_room ≤ length lent → 0 < r.read
  pub leaves : Stepped (text_taken (text_of d) (take r.read text)) lent r left

pub record Finishes (d : Draft) (lent : List ℕ) (r : Step) (left : List ℕ) : Type 0 where
  pub few : r.written ≤ end_room
  pub leaves : Stepped (closed (line_ended (text_of d))) lent r left
