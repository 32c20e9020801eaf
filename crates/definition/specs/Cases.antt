-- The description's day, its idle edges and its two calls with id 5: ten cases, one statement; the whole day as text, and one with
-- refused lines; and a record of each kind in bytes.
use Rattle.std.specs.Prelude.{◌≡◌, refl, true, false, List, [], ◌∷◌, ◌++◌, map, ℕ, zero, suc, ◌/◌, ◌%◌, take, get_or}
use Rattle.definition.specs.Words.{when◌then◌else◌}
use Rattle.definition.specs.Pool.{Pool, fresh, with_defaults, in_range}
use Rattle.definition.specs.Records.{Record, ConnectionCreated, ConnectionReady, ConnectionCheckedIn, ConnectionClosed, PoolReady, PoolCleared, PoolShut, Interrupt, Replied, Pooled, Establishing, Warmed, Cleared, Gone, Unheard, told, fields_of}
use Rattle.definition.specs.Steps.{◌>>◌, leave_lent, leave_pending, shelve, lend_out, create_pending_connection, create_many, close_perished, enter, queue, request, check_in, mark_as_ready, succeeded, remove_perished, ensure_min_connections, maintenance, handle, can_service, establish, lend, take_available, check_out, serve_front, service, event}
use Rattle.definition.specs.Refusals.{refusal_no, first, tests, Result, Refused, Accepted, outcome, step, Call, run, enough_room, make}
use Rattle.definition.specs.Bytes.{be4, be8, at4, at8, frame_of_fields, frame_of, options_of, record_bytes, digit_of, value_of, hex_of, unhex, newline, line_of, bytes_of, frame_of_line, options_of_line}
use Rattle.definition.specs.Day.{numbered, entry_bytes, text_of, lines_of, frames, day, log_of, frames_used}
use Rattle.definition.specs.Types.{Options, Idle, Stale, Error, Dropped, PoolClosed}

-- the bytes of a frame and of a record, written as the description spaces them
abbrev pub frame : ℕ → ℕ → ℕ → ℕ → List ℕ
frame kind id now second = be4 kind ++ (be4 id ++ (be8 now ++ be8 second))

abbrev pub said : ℕ → ℕ → ℕ → ℕ → List ℕ
said kind serial id other = be4 kind ++ (be4 serial ++ (be4 id ++ be4 other))

-- ── Ten cases ──────────────────────────────────────────────────────────────────────────────────────────────────────────

-- a pool of these options that has taken this history is given the frame: a refusal's number, or 0 and records
pub record Case : Type 0 where
  pub options : Options
  pub history : List (List ℕ)
  pub given : List ℕ
  pub refusal : ℕ
  pub records : List (List ℕ)

abbrev pub case : Options → List (List ℕ) → List ℕ → ℕ → List (List ℕ) → Case
case o h f n rs = record { options = o; history = h; given = f; refusal = n; records = rs }

abbrev pub idle_after : ℕ → Options
idle_after t = record { maximum = 0; minimum = 0; connecting = 0; idle = t }

unfoldable pub the_day : List (List ℕ)
the_day =
    frame 0x06000000 0x00000000 0x0000000000000005 0x0000000000000000 ∷
    frame 0x01000000 0x00000001 0x0000000000000006 0x0000000000000000 ∷
    frame 0x07000000 0x00000001 0x0000000000000007 0x0000000000000000 ∷
    frame 0x04000000 0x00000001 0x0000000000000009 0x0000000000000008 ∷
    frame 0x01000000 0x00000002 0x0000000000000009 0x0000000000000000 ∷
    frame 0x04010000 0x00000001 0x000000000000000a 0x0000000000000009 ∷ []

-- request 5 of a new pool, at time 0
unfoldable pub five : List ℕ
five = frame 0x01000000 5 0 0

-- maintenance: connection 1 of the day is available since time 8
unfoldable pub maintain : ℕ → List ℕ
maintain now = frame 0x0a000000 0 now 0

-- frame k of the day, after those before it
unfoldable pub day_case : ℕ → List (List ℕ) → Case
day_case k rs = case (idle_after 0) (take k the_day) (get_or the_day k []) 0 rs

unfoldable pub cases : List Case
cases =
    day_case 0 (said 0x05000000 0 0 0 ∷ []) ∷
    day_case 1 (said 0x01000000 1 1 0 ∷ said 0x11000000 2 1 1 ∷ []) ∷
    day_case 2 (said 0x02000000 3 1 0 ∷ []) ∷
    day_case 3 (said 0x03000000 4 1 0 ∷ []) ∷
    day_case 4 (said 0x10000000 5 2 1 ∷ []) ∷
    day_case 5 (said 0x03000000 6 1 0 ∷ said 0x04030000 7 1 0 ∷ []) ∷
    case (idle_after 100) (take 4 the_day) (maintain 107) 0 [] ∷
    case (idle_after 100) (take 4 the_day) (maintain 108) 0 (said 0x04010000 5 1 100 ∷ []) ∷
    case (idle_after 0) [] five 0 (said 0x13000000 0 5 0 ∷ []) ∷
    case (idle_after 0) (five ∷ []) five 6 [] ∷ []

pub record Answer : Type 0 where
  pub refusal : ℕ
  pub records : List (List ℕ)

abbrev pub expected : Case → Answer
expected c = record { refusal = c.refusal; records = c.records }

abbrev pub answer_of : Pool → Result → Answer
answer_of p (Refused r) = record { refusal = refusal_no r; records = [] }
answer_of p (Accepted o) = record { refusal = 0; records = map entry_bytes (numbered p.written o.records) }

abbrev pub called : List ℕ → Call
called b = record { frame = frame_of b; room = enough_room }

unfoldable pub answered : Case → Answer
answered c =
    let p = (run (map called c.history) (fresh (with_defaults c.options))).pool in
    answer_of p (step p (frame_of c.given) enough_room)

pub ten_cases : map answered cases ≡ map expected cases
unfolding answered cases day_case the_day five maintain run step tests first outcome frame_of frame_of_fields at4 at8 event handle request queue mark_as_ready succeeded check_in maintenance remove_perished close_perished ensure_min_connections create_many service can_service serve_front check_out take_available lend establish create_pending_connection told leave_lent leave_pending shelve lend_out enter ◌>>◌ when◌then◌else◌ numbered entry_bytes record_bytes
ten_cases = refl

-- ── The whole day ──────────────────────────────────────────────────────────────────────────────────────────────────────

-- a line of so many digits
pub digits : ℕ → ℕ → List ℕ
digits zero x = []
digits (suc n) x = digits n (x / 16) ++ digit_of (x % 16) ∷ []

pub in_lines : ℕ → List ℕ → List ℕ
in_lines n [] = []
in_lines n (x ∷ xs) = digits n x ++ newline ∷ in_lines n xs

pub day_text : List ℕ
day_text =
    in_lines 48
    (0x00000000_00000000_0000000000000000_0000000000000000 ∷
    0x06000000_00000000_0000000000000005_0000000000000000 ∷
    0x01000000_00000001_0000000000000006_0000000000000000 ∷
    0x07000000_00000001_0000000000000007_0000000000000000 ∷
    0x04000000_00000001_0000000000000009_0000000000000008 ∷
    0x01000000_00000002_0000000000000009_0000000000000000 ∷
    0x04010000_00000001_000000000000000a_0000000000000009 ∷ [])

pub day_log : List ℕ
day_log =
    in_lines 32
    (0x05000000_00000000_00000000_00000000 ∷
    0x01000000_00000001_00000001_00000000 ∷
    0x11000000_00000002_00000001_00000001 ∷
    0x02000000_00000003_00000001_00000000 ∷
    0x03000000_00000004_00000001_00000000 ∷
    0x10000000_00000005_00000002_00000001 ∷
    0x03000000_00000006_00000001_00000000 ∷
    0x04030000_00000007_00000001_00000000 ∷ [])

pub whole_day : log_of 100 day_text ≡ day_log
unfolding day_text day_log in_lines digits log_of text_of day lines_of frames make in_range options_of_line options_of frame_of_line bytes_of unhex value_of digit_of line_of hex_of step tests first outcome frame_of frame_of_fields at4 at8 event handle request queue mark_as_ready succeeded check_in service can_service serve_front check_out take_available lend establish create_pending_connection told leave_lent leave_pending shelve lend_out enter ◌>>◌ when◌then◌else◌ numbered entry_bytes record_bytes
whole_day = refl

pub whole_day_used : frames_used 100 day_text ≡ 6
unfolding frames_used day_text in_lines digits day lines_of make in_range options_of_line options_of bytes_of unhex value_of digit_of at4 at8 when◌then◌else◌
whole_day_used = refl

-- ── Refused lines ──────────────────────────────────────────────────────────────────────────────────────────────────────

-- the same day, and behind it request 5 twice, a line of kind 0, and half a line
pub longer_text : List ℕ
longer_text =
    day_text
    ++ (in_lines 48
    (0x01000000_00000005_000000000000000b_0000000000000000 ∷
    0x01000000_00000005_000000000000000b_0000000000000000 ∷
    0x00000000_00000000_000000000000000b_0000000000000000 ∷ [])
    ++ digits 24 0x06000000_00000000_0000000b)

-- the first 5 is served; each of the others is told by its number as a line, and takes no serial
pub longer_log : List ℕ
longer_log =
    day_log
    ++ in_lines 32
    (0x01000000_00000008_00000002_00000000 ∷
    0x11000000_00000009_00000005_00000002 ∷
    0x20060000_00000000_00000009_00000000 ∷
    0x20020000_00000000_0000000a_00000000 ∷
    0x20020000_00000000_0000000b_00000000 ∷ [])

pub refused_lines : log_of 100 longer_text ≡ longer_log
unfolding longer_text longer_log day_text day_log in_lines digits log_of text_of day lines_of frames make in_range options_of_line options_of frame_of_line bytes_of unhex value_of digit_of line_of hex_of step tests first outcome frame_of frame_of_fields at4 at8 event handle request queue mark_as_ready succeeded check_in service can_service serve_front check_out take_available lend establish create_pending_connection told leave_lent leave_pending shelve lend_out enter ◌>>◌ when◌then◌else◌ numbered entry_bytes record_bytes
refused_lines = refl

-- they count as frames used, as far as the budget goes
pub refused_lines_used : (frames_used 100 longer_text ≡ 10) × (frames_used 9 longer_text ≡ 9)
unfolding frames_used longer_text day_text in_lines digits day lines_of make in_range options_of_line options_of bytes_of unhex value_of digit_of at4 at8 when◌then◌else◌
refused_lines_used = (refl, refl)

-- a first line that is none, that does not begin with zeros, that asks for 65: that one record, and nothing of what follows
pub bad_start : ℕ → List ℕ
bad_start x = in_lines 48 (x ∷ 0x06000000_00000000_0000000000000005_0000000000000000 ∷ [])

pub refused_options :
    (log_of 100 [] ≡ in_lines 32 (0x20020000_00000000_00000001_00000000 ∷ []))
    × (log_of 100 (bad_start 0x01000000_00000000_0000000000000000_0000000000000000) ≡ in_lines 32 (0x20020000_00000000_00000001_00000000 ∷ []))
    × (log_of 100 (bad_start 0x00000000_00000041_0000000000000000_0000000000000000) ≡ in_lines 32 (0x200a0000_00000000_00000001_00000000 ∷ []))
unfolding bad_start in_lines digits log_of text_of day lines_of make in_range options_of_line options_of bytes_of unhex value_of digit_of line_of hex_of at4 at8 when◌then◌else◌ entry_bytes record_bytes
refused_options = (refl, refl, refl)

pub refused_options_used : frames_used 100 (bad_start 0x00000000_00000041_0000000000000000_0000000000000000) ≡ 0
unfolding frames_used bad_start in_lines digits day lines_of make in_range options_of_line options_of bytes_of unhex value_of digit_of at4 at8 when◌then◌else◌
refused_options_used = refl

-- ── A record of each kind ──────────────────────────────────────────────────────────────────────────────────────────────

-- of serial 7; connection 1, request 2, cause 3, generation 4, five lent, an age of 6
pub in_bytes : Record → List ℕ
in_bytes r = record_bytes 7 (fields_of r)

pub each_record :
    map in_bytes
    (ConnectionCreated 1 ∷ ConnectionReady 1 ∷ ConnectionCheckedIn 1 ∷
    ConnectionClosed Idle 1 6 ∷ ConnectionClosed Stale 1 0 ∷ ConnectionClosed Error 1 0 ∷ ConnectionClosed Dropped 1 0 ∷ ConnectionClosed PoolClosed 1 0 ∷
    PoolReady ∷ PoolCleared false 3 4 ∷ PoolCleared true 3 4 ∷ PoolShut ∷ Interrupt 5 ∷
    Replied 2 (Pooled 1) ∷ Replied 2 (Establishing 1) ∷ Replied 2 Warmed ∷ Replied 2 (Cleared 3) ∷ Replied 2 Gone ∷ Replied 2 Unheard ∷ [])
    ≡ said 0x01000000 7 1 0 ∷ said 0x02000000 7 1 0 ∷ said 0x03000000 7 1 0 ∷
    said 0x04010000 7 1 6 ∷ said 0x04020000 7 1 0 ∷ said 0x04030000 7 1 0 ∷ said 0x04040000 7 1 0 ∷ said 0x04050000 7 1 0 ∷
    said 0x05000000 7 0 0 ∷ said 0x06000000 7 3 4 ∷ said 0x06010000 7 3 4 ∷ said 0x07000000 7 0 0 ∷ said 0x08000000 7 0 5 ∷
    said 0x10000000 7 2 1 ∷ said 0x11000000 7 2 1 ∷ said 0x12000000 7 2 0 ∷ said 0x13000000 7 2 3 ∷ said 0x14000000 7 2 0 ∷ said 0x15000000 7 2 0 ∷ []
unfolding in_bytes record_bytes when◌then◌else◌
each_record = refl
