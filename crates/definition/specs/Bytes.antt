-- Frames, options and records as bytes, all numbers big-endian; bytes as lines of lower-case hexadecimal.
use Rattle.std.specs.Prelude.{Bool, true, false, List, [], ◌∷◌, ◌++◌, ℕ, ◌+◌, ◌*◌, ◌-◌, ◌/◌, ◌%◌, length, get_or, take}
use Rattle.std.specs.Prelude.{Option, None as none, Some as some}
use Rattle.definition.specs.Words.{when◌then◌else◌, ◌<?◌, ◌=?◌}
use Rattle.definition.specs.Events.{parts_of}
use Rattle.definition.specs.Records.{Fields}
use Rattle.definition.specs.Types.{Options, Event, CheckOut, WarmPool, Abandon, CheckIn, Clear, MarkAsReady, Succeeded, SucceededForPool, Failed, Maintenance, FillPool, Pin, ReturnToPinner, TakeFromPinner, Close, Frame, Good, Bad}

-- ── Numbers ────────────────────────────────────────────────────────────────────────────────────────────────────────────

-- of 4 and of 8 bytes: as bytes, and where they stand among bytes
abbrev pub be4 : ℕ → List ℕ
be4 x = (x / 16777216 % 256) ∷ (x / 65536 % 256) ∷ (x / 256 % 256) ∷ (x % 256) ∷ []

abbrev pub be8 : ℕ → List ℕ
be8 x = be4 (x / 4294967296) ++ be4 (x % 4294967296)

unfoldable pub at4 : List ℕ → ℕ → ℕ
at4 l i = get_or l i 0 * 16777216 + get_or l (i + 1) 0 * 65536 + get_or l (i + 2) 0 * 256 + get_or l (i + 3) 0

unfoldable pub at8 : List ℕ → ℕ → ℕ
at8 l i = at4 l i * 4294967296 + at4 l (i + 4)

-- ── Frames ─────────────────────────────────────────────────────────────────────────────────────────────────────────────

-- a frame in bytes, and as a line of a day: two digits a byte, and a newline
abbrev pub frame_length : ℕ
frame_length = 24

abbrev pub day_line_length : ℕ
day_line_length = 2 * frame_length + 1

-- a byte each for the kind, the flags and two zeros, then the id in 4 and the two times in 8 each
unfoldable pub frame_bytes : Event → (now : ℕ) → List ℕ
frame_bytes e now = (parts_of e).kind ∷ (parts_of e).flags ∷ 0 ∷ 0 ∷ (be4 (parts_of e).id ++ (be8 now ++ be8 (parts_of e).second))

abbrev pub need : Bool → Frame → Frame
need b f = when b then f else Bad

-- what a kind has no use for is 0: the flags and the second time, and below the id as well
abbrev pub plain : (flags second : ℕ) → Frame → Frame
plain flags second f = need (flags =? 0) (need (second =? 0) f)

abbrev pub bare : (flags id second : ℕ) → Frame → Frame
bare flags id second f = need (id =? 0) (plain flags second f)

-- the low bit: it met an error; the next: an answer is still under way
abbrev pub check_in_frame : (flags id now second : ℕ) → Frame
check_in_frame flags id now second =
    when flags =? 0 then Good (CheckIn id false false second) now else
    when flags =? 1 then Good (CheckIn id true false second) now else
    when flags =? 2 then Good (CheckIn id false true second) now else
    need (flags =? 3) (Good (CheckIn id true true second) now)

-- flag 1 network timeout
abbrev pub clear_frame : (flags id now second : ℕ) → Frame
clear_frame flags id now second =
    when flags =? 0 then plain 0 second (Good (Clear false id) now) else
    need (flags =? 1) (plain 0 second (Good (Clear true id) now))

-- no other number is a kind
unfoldable pub frame_of_fields : (kind flags id now second : ℕ) → Frame
frame_of_fields kind flags id now second =
    when kind =? 1 then plain flags second (Good (CheckOut id) now) else
    when kind =? 2 then plain flags second (Good (WarmPool id) now) else
    when kind =? 3 then plain flags second (Good (Abandon id) now) else
    when kind =? 4 then check_in_frame flags id now second else
    when kind =? 5 then clear_frame flags id now second else
    when kind =? 6 then bare flags id second (Good MarkAsReady now) else
    when kind =? 7 then plain flags second (Good (Succeeded id) now) else
    when kind =? 8 then plain flags 0 (Good (SucceededForPool id second) now) else
    when kind =? 9 then plain flags second (Good (Failed id) now) else
    when kind =? 10 then bare flags id second (Good Maintenance now) else
    when kind =? 11 then bare flags id second (Good FillPool now) else
    when kind =? 12 then plain flags second (Good (Pin id) now) else
    when kind =? 13 then plain flags second (Good (ReturnToPinner id) now) else
    when kind =? 14 then plain flags second (Good (TakeFromPinner id) now) else
    when kind =? 15 then bare flags id second (Good Close now) else
    Bad

-- any bytes are a frame, if only a bad one
unfoldable pub frame_of : List ℕ → Frame
frame_of b =
    need (length b =? frame_length) (need (get_or b 2 0 =? 0) (need (get_or b 3 0 =? 0)
    (frame_of_fields (get_or b 0 0) (get_or b 1 0) (at4 b 4) (at8 b 8) (at8 b 16))))

-- ── Options ────────────────────────────────────────────────────────────────────────────────────────────────────────────

-- the first four bytes have no use
unfoldable pub options_bytes : Options → List ℕ
options_bytes o = 0 ∷ 0 ∷ 0 ∷ 0 ∷ (be4 o.maximum ++ (be4 o.minimum ++ (be4 o.connecting ++ be8 o.idle)))

unfoldable pub options_of : List ℕ → Option Options
options_of b =
    when length b =? frame_length
    then (when at4 b 0 =? 0 then some (record { maximum = at4 b 4; minimum = at4 b 8; connecting = at4 b 12; idle = at8 b 16 }) else none)
    else none

-- ── Records ────────────────────────────────────────────────────────────────────────────────────────────────────────────

-- 32 bits are printed, so the count wraps
abbrev pub serial_of : (written : ℕ) → ℕ
serial_of written = written % 4294967296

-- bytes 2 and 3 have no use
unfoldable pub record_bytes : (serial : ℕ) → Fields → List ℕ
record_bytes serial r = r.kind ∷ r.reason ∷ 0 ∷ 0 ∷ (be4 serial ++ (be4 r.id ++ be4 r.other))

-- ── Hexadecimal ────────────────────────────────────────────────────────────────────────────────────────────────────────

-- the digit of a number below 16: 0 to 9, a to f
unfoldable pub digit_of : ℕ → ℕ
digit_of n = when n <? 10 then 48 + n else 87 + n

-- the number of a digit
unfoldable pub value_of : ℕ → Option ℕ
value_of c =
    when c <? 48 then none else
    when c <? 58 then some (c - 48) else
    when c <? 97 then none else
    when c <? 103 then some (c - 87) else
    none

unfoldable pub hex_of : List ℕ → List ℕ
hex_of [] = []
hex_of (b ∷ bs) = digit_of (b / 16) ∷ digit_of (b % 16) ∷ hex_of bs

-- two digits make a byte, and bytes follow it
abbrev pub paired : Option ℕ → Option ℕ → Option (List ℕ) → Option (List ℕ)
paired (some h) (some l) (some bs) = some ((h * 16 + l) ∷ bs)
paired (some h) (some l) none = none
paired (some h) none bs = none
paired none l bs = none

unfoldable pub unhex : List ℕ → Option (List ℕ)
unhex [] = some []
unhex (a ∷ []) = none
unhex (a ∷ b ∷ ds) = paired (value_of a) (value_of b) (unhex ds)

-- a line keeps its newline
abbrev pub newline : ℕ
newline = 10

unfoldable pub line_of : List ℕ → List ℕ
line_of bs = hex_of bs ++ newline ∷ []

-- the bytes of a line of 48 digits and a newline
unfoldable pub bytes_of : List ℕ → Option (List ℕ)
bytes_of l = when length l =? day_line_length then (when get_or l 48 0 =? newline then unhex (take 48 l) else none) else none

abbrev pub or_bad : Option (List ℕ) → Frame
or_bad none = Bad
or_bad (some b) = frame_of b

unfoldable pub frame_of_line : List ℕ → Frame
frame_of_line l = or_bad (bytes_of l)

abbrev pub or_none : Option (List ℕ) → Option Options
or_none none = none
or_none (some b) = options_of b

unfoldable pub options_of_line : List ℕ → Option Options
options_of_line l = or_none (bytes_of l)
