-- WHAT WAS ASKED FOR, of the code that runs, in the order of the three demands. Proved proves each line by one theorem.
--
-- `entry p bytes out` is what a call leaves: pool, output and answer. The contracts of `entry::step`, and of `in_place::event` for a pool
-- that is lent, say that the code leaves just that. `Typed p` says of the pool value p what its type in the code says.
use Rattle.std.specs.Prelude.{◌≡◌, true, List, [], ◌∷◌, ◌++◌, map, ◌⊎◌, ℕ, ◌+◌, ◌*◌, ◌≤◌, length, take, drop}
use Rattle.std.specs.Prelude.{Some as some}
use Rattle.definition.specs.Words.{when◌then◌else◌}
use Rattle.definition.specs.Pool as D
use Rattle.definition.specs.Pool.{fresh, with_defaults, in_range}
use Rattle.definition.specs.Records.{record_length}
use Rattle.definition.specs.Refusals as R
use Rattle.definition.specs.Refusals.{enough_room, room_records}
use Rattle.definition.specs.Bytes.{frame_of, frame_of_line, options_of_line}
use Rattle.definition.specs.Day as Day
use Rattle.definition.specs.Day.{Entry, Said, RefusedLine, frames, lines_of, numbered, text_of, frames_used}
use Rattle.definition.specs.declared.Options.{Options}
use Rattle.definition.specs.declared.Refusal as declared
use Rattle.promises.specs.Promises.{log_of, standing, Placed, HandsOutFree, InOrder, LogInTime, InTime, InTimeFrom}
use Rattle.promises.specs.Runs.{accepted}
use Rattle.slots.specs.View.{SlotPool}
use Rattle.std.specs.declared.result.Result.TheVariants.{Ok, Err}
use Rattle.refinement.specs.Stands.{Stands}
use Rattle.refinement.specs.Rules.{Rules, lists_of}
use Rattle.printing.specs.Printed.{entries_bytes}
use Rattle.columns.specs.View.{view_of}
use Rattle.pool.specs.Making.{making}
use Rattle.pool.specs.declared.Pool.{Pool}
use Rattle.rules.specs.Exact.{Exactly}
use Rattle.entry.specs.Entry.{Entered, entry, keeps, refusal_in, records_in}
use Rattle.entry.specs.Tested.{Typed}
use Rattle.entry.specs.Meaning.{Meant, Lend, calls, left, short_or_bad}
use Rattle.first_line.specs.Took.{line_room}
use Rattle.lines.specs.OnSlots.{on_slots}
use Rattle.pieces.specs.Feed.{finish}
use Rattle.runs.specs.Code.{view_in}
use Rattle.runs.specs.declared.Session.{Session}
use Rattle.session.specs.Code.{opening, Finishes}
use Rattle.replay.specs.Calls.{feed, ended}
use Rattle.replay.specs.Days.{Prefix, day_in}
use Rattle.replay.specs.Sessions.{SoFar}

-- ── 1. Any event, on any pool value, with any output buffer, is accepted or refused ────────────────────────────────────

-- refused: by one of the twelve numbers, and no byte of pool or output is changed
pub record IsRefused (p : Pool) (out : List ℕ) (w : Entered) : Type 0 where
  pub number : (1 ≤ refusal_in w.outcome) × (refusal_in w.outcome ≤ 12)
  pub none_written : records_in w.outcome ≡ 0
  pub pool_stays : w.pool ≡ p
  pub out_stays : w.out ≡ out

-- accepted: no more records than there is room for, at the output's front; what stands behind them is as it was; and the pool that is left
-- keeps every structure rule
pub record IsAccepted (out : List ℕ) (w : Entered) : Type 0 where
  pub number : refusal_in w.outcome ≡ 0
  pub few : records_in w.outcome ≤ room_records
  pub long : length w.out ≡ length out
  pub rest_stays : drop (record_length * records_in w.outcome) w.out ≡ drop (record_length * records_in w.outcome) out
  pub structure : Rules (view_of w.pool)

abbrev pub Demand1 : Type 0
Demand1 = (p : Pool) → Typed p → (bytes out : List ℕ) → IsRefused p out (entry p bytes out) ⊎ IsAccepted out (entry p bytes out)

-- ── 2. New state and records are the definition's ──────────────────────────────────────────────────────────────────────

-- the definition's answer to a call on a pool value: on the lists that the value stands for, where it keeps the structure rules, which
-- `keeps` tells exactly; else it is refused, as 1 or 2
abbrev pub defined : Pool → (bytes out : List ℕ) → R.Result
defined p bytes out = when keeps p then R.step (lists_of (view_of p)) (frame_of bytes) (length out) else R.Refused (short_or_bad out)

-- what the code leaves means that answer: the same refusal with all as it was; or the new lists, and the records, bytes and serials and all
pub record Demand2For (p : Pool) (bytes out : List ℕ) : Type 0 where
  pub structure_test : Exactly (keeps p) (view_of p)
  pub answer : Meant p out (entry p bytes out) (defined p bytes out)

abbrev pub Demand2 : Type 0
Demand2 = (p : Pool) → Typed p → (bytes out : List ℕ) → Demand2For p bytes out

-- ── 3. Over any events ─────────────────────────────────────────────────────────────────────────────────────────────────

-- What is promised of calls to a fresh pool with options o, of all records that they give, and of the lists m of the pool that they leave:
-- each connection created and not yet closed is in exactly one place, and there are never more than the maximum; what is handed out is
-- free; requests are answered in order of arrival, once; and in time, in this log and whatever is called after.
pub record Kept (o : Options) (cs : List R.Call) (m : D.Pool) : Type 0 where
  pub connections : Placed o.maximum (log_of o cs) m
  pub hands_out_free : HandsOutFree o
  pub requests : InOrder (accepted (fresh o) cs) (log_of o cs) m
  pub in_time : LogInTime o cs
  pub in_time_after : InTime o

-- (a) Any calls of any made pool. `left cs p` is the pool that the code leaves; `laid_by` are the bytes of all records that it laid down.
unfoldable pub laid_by : List Lend → Pool → List ℕ
laid_by [] p = []
laid_by (c ∷ cs) p =
    let w = entry p c.bytes c.out in
    take (record_length * records_in w.outcome) w.out ++ laid_by cs w.pool

pub record Demand3For (asked : Options) (cs : List Lend) : Type 0 where
  pub structure : Rules (view_of (left cs (making asked).pool))
  pub kept : Kept (with_defaults asked) (calls cs) (lists_of (view_of (left cs (making asked).pool)))
  pub log : laid_by cs (making asked).pool ≡ entries_bytes (numbered 0 (log_of (with_defaults asked) (calls cs)))

abbrev pub Demand3Calls : Type 0
Demand3Calls = (asked : Options) → (making asked).outcome ≡ Ok 0 → (cs : List Lend) → Demand3For asked cs

-- (b) Any text of a day whatever. Its lines after the options line, as many as the budget allows, are frames.
abbrev pub line_calls : List (List ℕ) → List R.Call
line_calls ls = map (λ l. record { frame = frame_of_line l; room = enough_room }) ls

-- the records among what a log says
abbrev pub said_in : List Entry → List Entry
said_in [] = []
said_in (Said written r ∷ es) = Said written r ∷ said_in es
said_in (RefusedLine r line ∷ es) = said_in es

-- the pool at the text's end
abbrev pub last_pool : (budget : ℕ) → (text : List ℕ) → SlotPool
last_pool budget text = (ended on_slots (feed on_slots (opening budget) text)).state.pool

-- the replay, whose contract speaks of `day_in`, writes the definition's log where there is room for it, and else a beginning of it
pub record Replayed (budget : ℕ) (text : List ℕ) (room : ℕ) : Type 0 where
  pub begins : Prefix (day_in room budget text).took.out (Day.log_of budget text)
  pub whole : length (Day.log_of budget text) + line_room ≤ room → (day_in room budget text).whole ≡ true
  pub log : (day_in room budget text).whole ≡ true → (day_in room budget text).took.out ≡ Day.log_of budget text
  pub used : (day_in room budget text).whole ≡ true → (day_in room budget text).took.state.used ≡ frames_used budget text

-- and so does a day under way, from its beginning through pieces of any cut, each with any output, to its end (`SoFar`: the text was read
-- so far, and the log is all that was written)
abbrev pub Streamed : (budget : ℕ) → (text : List ℕ) → Type 0
Streamed budget text =
    (log : List ℕ) (s : Session) (before after : List ℕ) (used n : ℕ) → SoFar budget text log s
    → Finishes (finish on_slots (view_in s).state (view_in s).held) before after used n
    → (log ++ take n after ≡ Day.log_of budget text) × (used ≡ frames_used budget text)

-- with good options: the log's records are those of the run, and all that is promised of a run holds of them and of the last pool
pub record Runs (budget : ℕ) (text : List ℕ) : Type 0 where
  pub asked : Options
  pub first : List ℕ
  pub rest : List (List ℕ)
  pub are_lines : lines_of text ≡ first ∷ rest
  pub is_asked : options_of_line first ≡ some asked
  pub in_range_lem : in_range (with_defaults asked) ≡ true
  pub log : Day.log_of budget text ≡ text_of (frames (fresh (with_defaults asked)) 2 (take budget rest))
  pub records : said_in (frames (fresh (with_defaults asked)) 2 (take budget rest)) ≡ numbered 0 (log_of (with_defaults asked) (line_calls (take budget rest)))
  pub structure : Rules (last_pool budget text)
  pub kept : Kept (with_defaults asked) (line_calls (take budget rest)) (lists_of (last_pool budget text))

-- without: the log is the one line that says so
pub record EndsAtOnce (budget : ℕ) (text : List ℕ) : Type 0 where
  pub refusal : declared.Refusal
  pub log : Day.log_of budget text ≡ text_of (RefusedLine refusal 1 ∷ [])
  pub none_used : frames_used budget text ≡ 0

pub record Demand3ForDay (budget : ℕ) (text : List ℕ) : Type 0 where
  pub replayed : (room : ℕ) → Replayed budget text room
  pub streamed : Streamed budget text
  pub day : Runs budget text ⊎ EndsAtOnce budget text

abbrev pub Demand3Days : Type 0
Demand3Days = (budget : ℕ) (text : List ℕ) → Demand3ForDay budget text

-- (c) Any calls of any pool value that keeps the structure rules, whoever made it: what they leave keeps them too, stands for what the
-- definition leaves, has never more connections than its maximum and every id in one place; and whoever it takes on is answered in time.
pub record GoesOn (p : Pool) (cs : List Lend) : Type 0 where
  pub structure : Rules (view_of (left cs p))
  pub pool : Stands (view_of (left cs p)) (R.run (calls cs) (lists_of (view_of p))).pool
  pub at_most : D.total (lists_of (view_of (left cs p))) ≤ (left cs p).head.options.maximum
  pub one_place : (i : ℕ) → standing i (lists_of (view_of (left cs p))) ≤ 1
  pub in_time : InTimeFrom (lists_of (view_of (left cs p)))

abbrev pub Demand3Any : Type 0
Demand3Any = (p : Pool) → Typed p → keeps p ≡ true → (cs : List Lend) → GoesOn p cs
