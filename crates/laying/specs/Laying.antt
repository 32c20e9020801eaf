-- What is written for what a line of words tells.
use Rattle.std.specs.Prelude.{◌≡◌, List, [], ◌++◌, ℕ, ◌*◌, length, drop}
use Rattle.definition.specs.Words.{when◌then◌else◌}
use Rattle.definition.specs.Refusals.{malformed}
use Rattle.definition.specs.Bytes.{day_line_length, frame_bytes, frame_of}
use Rattle.definition.specs.Writing.{options_line, event_line}
use Rattle.definition.specs.declared.Frame.{Frame}
use Rattle.std.specs.Prelude.{Result, Ok, Err}
use Rattle.definition.specs.declared.Refusal.{Refusal}
use Rattle.heading.specs.declared.Heading.{Heading}
use Rattle.heading.specs.declared.Told.{Told}
use Rattle.heading.specs.Heading.{options_of}
use Rattle.heading.specs.declared.Told.TheVariants as tells

-- the options' line goes out with the first event, since none can follow it
abbrev pub first_line : Heading → List ℕ
first_line h = when h.is_begun then [] else options_line (options_of h)

-- what a writer makes of a frame; that it refuses none of these stands in Days
abbrev pub frame_line : Frame → List ℕ
frame_line f = when malformed f then [] else event_line f

abbrev pub written : Heading → Told → List ℕ
written h tells.Nothing = []
written h (tells.Event t e) = first_line h ++ frame_line (frame_of (frame_bytes e t))
written h (tells.Mistake x) = []

-- that is two lines at most
abbrev pub line_room : ℕ
line_room = 2 * day_line_length

-- ── In the code ────────────────────────────────────────────────────────────────────────────────────────────────────────────

-- how many bytes a writer wrote
abbrev pub bytes_in : Result ℕ Refusal → ℕ
bytes_in (Err r) = 0
bytes_in (Ok n) = n

-- a text at the front of lent bytes
pub record Lays (text : List ℕ) (lent : List ℕ) (n : ℕ) (left : List ℕ) : Type 0 where
  pub count : n ≡ length text
  pub out : left ≡ text ++ drop (length text) lent
