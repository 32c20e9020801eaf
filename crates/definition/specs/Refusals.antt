-- The twelve refusals, one call, and a run of calls.
use Rattle.std.specs.Prelude.{Bool, true, false, not, ◌&&◌, ◌||◌, List, [], ◌∷◌, ℕ, zero, suc, ◌+◌, ◌-◌, ◌*◌, ◌/◌, length}
use Rattle.std.specs.Prelude.{Option, None as none, Some as some}
use Rattle.definition.specs.Words.{when◌then◌else◌, ◌<?◌, ◌≤?◌, ◌=?◌, any?}
use Rattle.definition.specs.Pool.{Pool, fresh, slot_count, queue_length, with_defaults, in_range, with_clock, with_written, is_closed, has, has_in, find, unpinned, pinned, pinned_in_use, for_request, in_background}
use Rattle.definition.specs.Events.{parts_of}
use Rattle.definition.specs.Records.{record_length}
use Rattle.definition.specs.Steps.{Out, Act, nothing, ◌>>◌, event, kind_no, ◌to◌holds◌}
use Rattle.definition.specs.Types.{Options, Event, CheckOut, WarmPool, Abandon, CheckIn, Clear, MarkAsReady, Succeeded, SucceededForPool, Failed, Maintenance, FillPool, Pin, ReturnToPinner, TakeFromPinner, Close, Frame, Good, Bad, Refusal, OutputShort, Malformed, ClockBack, AfterClose, NumbersSpent, OldRequest, QueueFull, WrongState, WrongTime, OptionsOutOfRange, NotWaiting, AlreadyPinned}

abbrev pub refusal_no : Refusal → ℕ
refusal_no OutputShort = 1
refusal_no Malformed = 2
refusal_no ClockBack = 3
refusal_no AfterClose = 4
refusal_no NumbersSpent = 5
refusal_no OldRequest = 6
refusal_no QueueFull = 7
refusal_no WrongState = 8
refusal_no WrongTime = 9
refusal_no OptionsOutOfRange = 10
refusal_no NotWaiting = 11
refusal_no AlreadyPinned = 12

-- ── The table ──────────────────────────────────────────────────────────────────────────────────────────────────────────

pub data Test : Type 0 where
  ◌if◌ : Refusal → Bool → Test

-- the first test that holds
unfoldable pub first : List Test → Option Refusal
first [] = none
first ((r if b) ∷ ts) = when b then some r else first ts

abbrev pick : Bool → ℕ → ℕ → ℕ
pick true a b = a
pick false a b = b

-- the first power of two, from k on, that is not below n; at most f doublings
abbrev pub power_from : (f k n : ℕ) → ℕ
power_from zero k n = k
power_from (suc f) k n = pick (n ≤? k) k (power_from f (2 * k) n)

-- the room that any event's records fit in: a close writes most, one for each connection and each waiter, and one more
abbrev pub enough_room : ℕ
enough_room = power_from 32 1 (record_length * (slot_count + queue_length + 1))

abbrev pub room_records : ℕ
room_records = enough_room / record_length

-- an event may take ids while the next one is at most this, and then takes at most one for each slot and one more
abbrev pub last_next_id : ℕ
last_next_id = 4294967296 - 2 * slot_count

abbrev pub most_next_id : ℕ
most_next_id = last_next_id + slot_count + 1

abbrev pub last_generation : ℕ
last_generation = 4294967295

infix 3 ◌if◌
-- 6 and 7, of a request
abbrev pub request_tests : Pool → ℕ → List Test
request_tests p n = (OldRequest if n ≤? p.last_request) ∷ (QueueFull if queue_length ≤? length p.waiting) ∷ []

-- 9: a time that is still to come, or that lies before the connection was last made, lent or named by an event that was taken
abbrev pub wrong_time : (second last now : ℕ) → Bool
wrong_time second last now = now <? second || second <? last

-- the tests of one kind of event
abbrev pub kind_tests : Pool → Event → ℕ → List Test
kind_tests p (CheckOut n) now = request_tests p n
kind_tests p (WarmPool n) now = request_tests p n
kind_tests p (Abandon n) now = (NotWaiting if not (any? (λ w. w.id =? n && not w.abandoned) p.waiting)) ∷ []
kind_tests p (CheckIn n errored executing let_go) now =
    (WrongState if not (has n p.lent)) ∷
    (WrongTime if wrong_time let_go (find n p.lent).time now) ∷ []
kind_tests p (Clear timeout cause) now = []
kind_tests p MarkAsReady now = []
kind_tests p (Succeeded n) now = (WrongState if not (has_in for_request n p.pending)) ∷ []
kind_tests p (SucceededForPool n opened) now =
    (WrongState if not (has_in in_background n p.pending)) ∷
    (WrongTime if wrong_time opened (find n p.pending).time now) ∷ []
kind_tests p (Failed n) now = (WrongState if not (has n p.pending)) ∷ []
kind_tests p Maintenance now = []
kind_tests p FillPool now = []
kind_tests p (Pin n) now =
    (AlreadyPinned if has_in pinned n p.lent) ∷
    (WrongState if not (has_in unpinned n p.lent)) ∷ []
kind_tests p (ReturnToPinner n) now = (WrongState if not (has_in pinned_in_use n p.lent)) ∷ []
kind_tests p (TakeFromPinner n) now = (WrongState if not (has_in pinned n p.lent)) ∷ []
kind_tests p Close now = []

-- 2: a clear that names no cause
abbrev pub causeless : Event → Bool
causeless e = kind_no e =? 5 && (parts_of e).id =? 0

-- 2, whatever the pool: what is no event, or a clear that names no cause
abbrev pub malformed : Frame → Bool
malformed Bad = true
malformed (Good e now) = causeless e

-- 4: after the close only what happens to a connection that is out, or on its way, is heard
abbrev pub taken_after_close : Event → Bool
taken_after_close e = kind_no e =? 4 || 7 to 9 holds kind_no e || 12 to 14 holds kind_no e

-- 5: an event other than the close might run out of ids on a pool that is not closed; or a clear has no generation left
abbrev pub numbers_spent : Pool → Event → Bool
numbers_spent p e =
    not (is_closed p.state) && not (kind_no e =? 15) && last_next_id <? p.next_id || kind_no e =? 5 && p.generation =? last_generation

-- all tests of a frame, in the order in which they are made
unfoldable pub tests : Pool → Frame → (room : ℕ) → List Test
tests p Bad room = (OutputShort if room <? enough_room) ∷ (Malformed if true) ∷ []
tests p (Good e now) room =
    (OutputShort if room <? enough_room) ∷
    (Malformed if causeless e) ∷
    (ClockBack if now <? p.clock) ∷
    (AfterClose if is_closed p.state && not (taken_after_close e)) ∷
    (NumbersSpent if numbers_spent p e) ∷
    kind_tests p e now

-- ── One call, and a run of calls ───────────────────────────────────────────────────────────────────────────────────────

pub data Result : Type 0 where
  Refused : Refusal → Result
  Accepted : Out Pool → Result

-- the records of an event are counted at its end
abbrev pub counted : Out Pool → Out Pool
counted o = record { pool = with_written o.pool (o.pool.written + length o.records); records = o.records }

-- what an accepted frame does
unfoldable pub outcome : Frame → Act Pool
outcome (Good e now) p = counted (event e (with_clock p now))
outcome Bad p = nothing p

abbrev pub verdict : Option Refusal → Out Pool → Result
verdict none o = Accepted o
verdict (some r) o = Refused r

unfoldable pub step : Pool → Frame → (room : ℕ) → Result
step p f room = verdict (first (tests p f room)) (outcome f p)

-- a refused call changes nothing and says nothing
abbrev pub after : Pool → Result → Out Pool
after p (Refused r) = nothing p
after p (Accepted o) = o

-- a frame, and the room that is lent for its records
pub record Call : Type 0 where
  pub frame : Frame
  pub room : ℕ

unfoldable pub run : List Call → Act Pool
run [] p = nothing p
run (c ∷ cs) p = ((λ q. after q (step q c.frame c.room)) >> run cs) p

-- ── Making a pool ──────────────────────────────────────────────────────────────────────────────────────────────────────

pub data Making : Type 0 where
  NotMade : Refusal → Making
  Made : Pool → Making

-- a 0 is never out of range where it means the default
unfoldable pub make : Options → Making
make o = when in_range (with_defaults o) then Made (fresh (with_defaults o)) else NotMade OptionsOutOfRange
