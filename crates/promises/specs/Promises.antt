-- THE PROMISES, apart from their proofs, which Proved gives. Each is said of every list of calls to a fresh pool: frames good and bad,
-- calls refused and accepted, any room lent. Log and Runs have the words.
use Rattle.std.specs.Prelude.{◌≡◌, ◌⊎◌, ℕ, suc, ◌+◌, ◌*◌, ◌≤◌, ◌<◌, min, length}
use Rattle.std.specs.Prelude.{None as none}
use mathlib.Core.List.{List, [], ◌∷◌, ◌++◌, Memᴰ}
use Rattle.definition.specs.Pool.{Pool, fresh, slot_count, total, most_age, with_defaults, with_clock}
use Rattle.definition.specs.Records.{record_length}
use Rattle.definition.specs.declared.Record.{Record}
use Rattle.definition.specs.declared.Record.TheVariants.{ConnectionClosed, Replied}
use Rattle.definition.specs.declared.Reply.TheVariants.{Pooled}
use Rattle.definition.specs.Steps.{Out, handle, service}
use Rattle.definition.specs.Refusals.{first, tests, Call, after, run, enough_room, room_records, Made, make}
use Rattle.definition.specs.declared.Options.{Options}
use Rattle.definition.specs.declared.ClosedReason.{ClosedReason}
use Rattle.definition.specs.declared.ClosedReason.TheVariants.{Idle, Stale, Error, Dropped, PoolClosed}
use Rattle.definition.specs.declared.Event.{Event}
use Rattle.definition.specs.declared.Frame.TheVariants.{Good}
use Rattle.definition.specs.Log.{created, closed, answered, numbers, ids, often, Rising}
use Rattle.promises.specs.Runs.{result, next, taken, accepted, puts, times}

-- the pool that the calls leave, and all their records
abbrev pub pool_after : Options → List Call → Pool
pool_after o calls = (run calls (fresh o)).pool

abbrev pub log_of : Options → List Call → List Record
log_of o calls = (run calls (fresh o)).records

-- how often connection i stands in the three lists together
abbrev pub standing : ℕ → Pool → ℕ
standing i p = often i (numbers p.available) + often i (numbers p.lent) + often i (numbers p.pending)

-- The pool that is made is a fresh one whose minimum is not above its maximum, and its maximum not above slot_count.
pub record Fresh (asked : Options) (p : Pool) : Type 0 where
  pub is_fresh : p ≡ fresh (with_defaults asked)
  pub ordered : p.options.minimum ≤ p.options.maximum
  pub small : p.options.maximum ≤ slot_count

abbrev pub MadeFresh : Type 0
MadeFresh = (asked : Options) (p : Pool) → make asked ≡ Made p → Fresh asked p

-- (a) Connections: of a log and the pool that it leaves, those created and not yet closed are each in exactly one of available, lent and
-- pending, once.
pub record Placed (maximum : ℕ) (log : List Record) (p : Pool) : Type 0 where
  -- a connection is created as often as it is closed and stands in the lists
  pub balance : (i : ℕ) → often i (created log) ≡ often i (closed log) + standing i p
  -- none is created twice
  pub once : (i : ℕ) → often i (created log) ≤ 1
  -- so: one that was created and isn't closed stands in the lists exactly once,
  pub open_ones_stand : (i : ℕ) → 1 ≤ often i (created log) → often i (closed log) ≡ 0 → standing i p ≡ 1
  -- and one that stands in the lists stands there once, was created, and isn't closed
  pub stands_once : (i : ℕ) → 1 ≤ standing i p → standing i p ≡ 1
  pub standing_was_created : (i : ℕ) → 1 ≤ standing i p → often i (created log) ≡ 1
  pub standing_is_open : (i : ℕ) → 1 ≤ standing i p → often i (closed log) ≡ 0
  -- there are never more than the maximum
  pub at_most : total p ≤ maximum

abbrev pub Connections : Options → List Call → Type 0
Connections o calls = Placed o.maximum (log_of o calls) (pool_after o calls)

-- Reply 16 is only for one that is free: where an event that passes every test comes to its service stage, in the pool q that its own stage
-- leaves, a connection that the service stage hands out stands on the available list, once, and is neither lent nor pending.
pub record Free (i : ℕ) (q : Pool) : Type 0 where
  pub is_available : often i (numbers q.available) ≡ 1
  pub not_lent : often i (numbers q.lent) ≡ 0
  pub not_pending : often i (numbers q.pending) ≡ 0

abbrev pub HandsOutFree : Options → Type 0
HandsOutFree o =
    (before : List Call) (e : Event) (now room : ℕ) → first (tests (pool_after o before) (Good e now) room) ≡ none
    → let q = (handle e (with_clock (pool_after o before) now)).pool in
    (r i : ℕ) → Memᴰ (Replied r (Pooled i)) (service q).records → Free i q

-- (b) Requests: of those accepted, a log, and the pool that it leaves, those accepted are those answered, in order of the log, and then
-- those still waiting, front to back.
pub record InOrder (accepted : List ℕ) (log : List Record) (p : Pool) : Type 0 where
  pub in_order : accepted ≡ answered log ++ ids p.waiting
  -- the numbers accepted strictly rise,
  pub accepted_rise : Rising 0 accepted
  -- so those answered do: the order of answers is that of arrival,
  pub answered_rise : Rising 0 (answered log)
  -- and nobody is answered twice
  pub answered_once : (i : ℕ) → often i (answered log) ≤ 1

abbrev pub Requests : Options → List Call → Type 0
Requests o calls = InOrder (accepted (fresh o) calls) (log_of o calls) (pool_after o calls)

-- (c) In time. A call that accepts request n answers it, or leaves it at the queue's end: behind those who waited before the call, save
-- whom the call answered. With k of them ahead, n has its answer by the end of the (k+1)th later call that puts a connection on the
-- available list of a Ready pool.
pub record Waits (n : ℕ) (p : Pool) (o : Out Pool) : Type 0 where
  pub ahead : List ℕ
  pub behind_them : ids o.pool.waiting ≡ ahead ++ n ∷ []
  pub who_waited : ids p.waiting ≡ answered o.records ++ ahead
  pub then_answered : (later : List Call) → suc (length ahead) ≤ times puts o.pool later → Memᴰ n (answered (run later o.pool).records)

abbrev pub InTimeFrom : Pool → Type 0
InTimeFrom p =
    (call : Call) (n : ℕ) → taken call.frame (result p call) ≡ n ∷ []
    → let o = after p (result p call) in
    Memᴰ n (answered o.records) ⊎ Waits n p o

abbrev pub InTime : Options → Type 0
InTime o = (before : List Call) → InTimeFrom (pool_after o before)

-- So the log of any calls answers whoever one of them took, once as many calls after that one put a connection there as waited at its
-- end, the one that was taken among them.
abbrev pub LogInTime : Options → List Call → Type 0
LogInTime o calls =
    (before : List Call) (call : Call) (later : List Call) (n : ℕ) → calls ≡ before ++ call ∷ later
    → taken call.frame (result (pool_after o before) call) ≡ n ∷ []
    → length (next (pool_after o before) call).waiting ≤ times puts (next (pool_after o before) call) later
    → Memᴰ n (answered (log_of o calls))

-- So it is with all counted who waited before the call, too: that is never fewer.
abbrev pub InTimeBeforeFrom : Pool → Type 0
InTimeBeforeFrom p =
    (call : Call) (later : List Call) (n : ℕ) → taken call.frame (result p call) ≡ n ∷ []
    → suc (length p.waiting) ≤ times puts (next p call) later
    → Memᴰ n (answered (run (call ∷ later) p).records)

abbrev pub InTimeBefore : Options → Type 0
InTimeBefore o = (before : List Call) → InTimeBeforeFrom (pool_after o before)

-- (d) A service stage closes no more connections than it found available, in any pool at all.
abbrev pub FewClosed : Type 0
FewClosed = (p : Pool) → length (closed (service p).records) ≤ length p.available

-- A call writes no more records than the room that is asked for has place for.
pub record FewRecords (o : Options) (before : List Call) (call : Call) : Type 0 where
  pub at_most : length (after (pool_after o before) (result (pool_after o before) call)).records ≤ room_records
  pub room_for_all : record_length * length (after (pool_after o before) (result (pool_after o before) call)).records ≤ enough_room

-- (e) The pool counts its records: the next record's serial is the number of those in the log.
abbrev pub Serials : Options → List Call → Type 0
Serials o calls = (pool_after o calls).written ≡ length (log_of o calls)

-- (f) Ages: a connection that the log closes as idle was available for as long as the idle limit, and the record says how long, up to
-- most_age; of one that is closed for another reason no age is told.
abbrev pub AgeSaid : (limit : ℕ) → ClosedReason → (other : ℕ) → Type 0
AgeSaid limit Idle age = (0 < limit) × (min limit most_age ≤ age) × (age ≤ most_age)
AgeSaid limit Stale other = other ≡ 0
AgeSaid limit Error other = other ≡ 0
AgeSaid limit Dropped other = other ≡ 0
AgeSaid limit PoolClosed other = other ≡ 0

abbrev pub Ages : Options → List Call → Type 0
Ages o calls = (reason : ClosedReason) (c other : ℕ) → Memᴰ (ConnectionClosed reason c other) (log_of o calls) → AgeSaid o.idle reason other
