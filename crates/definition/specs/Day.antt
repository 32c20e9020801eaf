-- A whole day's text gives its log's text. Any bytes at all are a day.
use Rattle.std.specs.Prelude.{List, [], ◌∷◌, ◌++◌, ℕ, ◌+◌, ◌%◌, min, length, take}
use Rattle.std.specs.Prelude.{Option, None as none, Some as some}
use Rattle.definition.specs.Words.{when◌then◌else◌, ◌=?◌}
use Rattle.definition.specs.Pool.{Pool}
use Rattle.definition.specs.Records.{Record, fields, fields_of}
use Rattle.definition.specs.Refusals.{refusal_no, Result, Refused, Accepted, step, after, enough_room, Making, NotMade, Made, make}
use Rattle.definition.specs.Bytes.{serial_of, record_bytes, newline, line_of, frame_of_line, options_of_line}
use Rattle.definition.specs.Types.{Options, Refusal, Malformed}

-- ── Lines ──────────────────────────────────────────────────────────────────────────────────────────────────────────────

abbrev pub before : ℕ → List (List ℕ) → List (List ℕ)
before c [] = (c ∷ []) ∷ []
before c (l ∷ ls) = (c ∷ l) ∷ ls

-- each newline ends one, however long it is; what stands behind the last newline is a line too
unfoldable pub lines_of : List ℕ → List (List ℕ)
lines_of [] = []
lines_of (c ∷ t) = when c =? newline then (c ∷ []) ∷ lines_of t else before c (lines_of t)

-- ── The log ────────────────────────────────────────────────────────────────────────────────────────────────────────────

-- a record, with the count of those before it; or a line that was refused, which takes no serial
pub data Entry : Type 0 where
  Said : (written : ℕ) → Record → Entry
  RefusedLine : Refusal → (line : ℕ) → Entry

unfoldable pub entry_bytes : Entry → List ℕ
entry_bytes (Said written r) = record_bytes (serial_of written) (fields_of r)
entry_bytes (RefusedLine r line) = record_bytes 0 (fields 32 (refusal_no r) (line % 4294967296) 0)

unfoldable pub numbered : ℕ → List Record → List Entry
numbered written [] = []
numbered written (r ∷ rs) = Said written r ∷ numbered (written + 1) rs

unfoldable pub text_of : List Entry → List ℕ
text_of [] = []
text_of (e ∷ es) = line_of (entry_bytes e) ++ text_of es

-- ── A run over lines ───────────────────────────────────────────────────────────────────────────────────────────────────

abbrev pub entries_of : Pool → (line : ℕ) → Result → List Entry
entries_of p line (Refused r) = RefusedLine r line ∷ []
entries_of p line (Accepted o) = numbered p.written o.records

unfoldable pub frames : Pool → (line : ℕ) → List (List ℕ) → List Entry
frames p line [] = []
frames p line (l ∷ ls) =
    let r = step p (frame_of_line l) enough_room in
    entries_of p line r ++ frames (after p r).pool (line + 1) ls

pub record Day : Type 0 where
  pub log : List Entry
  pub used : ℕ

-- without a pool nothing can follow
abbrev pub bad_options : Refusal → Day
bad_options r = record { log = RefusedLine r 1 ∷ []; used = 0 }

abbrev pub opened : Making → (budget : ℕ) → List (List ℕ) → Day
opened (NotMade r) budget ls = bad_options r
opened (Made p) budget ls = record { log = frames p 2 (take budget ls); used = min budget (length ls) }

abbrev pub chosen : Option Options → (budget : ℕ) → List (List ℕ) → Day
chosen none budget ls = bad_options Malformed
chosen (some o) budget ls = opened (make o) budget ls

-- lines are counted from that of the options; an empty text is refused like a bad one
unfoldable pub day : (budget : ℕ) → List (List ℕ) → Day
day budget [] = bad_options Malformed
day budget (l ∷ ls) = chosen (options_of_line l) budget ls

unfoldable pub log_of : (budget : ℕ) → (text : List ℕ) → List ℕ
log_of budget text = text_of (day budget (lines_of text)).log

unfoldable pub frames_used : (budget : ℕ) → (text : List ℕ) → ℕ
frames_used budget text = (day budget (lines_of text)).used
