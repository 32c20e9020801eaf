-- What a pool says: records of what happened, and replies to requests.
use Rattle.std.specs.Prelude.{Bool, ℕ, ◌+◌, ◌*◌}
use Rattle.definition.specs.Words.{when◌then◌else◌}
use Rattle.definition.specs.Pool.{Waiter}
use Rattle.definition.specs.Types.{ClosedReason, Idle, Stale, Error, Dropped, PoolClosed}
pub use Rattle.definition.specs.Types.{Reply, Pooled, Establishing, Warmed, Cleared, Gone, Unheard, Record, ConnectionCreated, ConnectionReady, ConnectionCheckedIn, ConnectionClosed, PoolReady, PoolCleared, PoolShut, Interrupt, Replied}

-- what a waiter is told: 21 in the reply's place where it was abandoned
unfoldable pub told : Reply → Waiter → Record
told r w = Replied w.id (when w.abandoned then Unheard else r)

-- ── Their numbers ──────────────────────────────────────────────────────────────────────────────────────────────────────

abbrev pub reason_no : ClosedReason → ℕ
reason_no Idle = 1
reason_no Stale = 2
reason_no Error = 3
reason_no Dropped = 4
reason_no PoolClosed = 5

-- a record in bytes, and as a line of the log: two digits a byte, and a newline
abbrev pub record_length : ℕ
record_length = 16

abbrev pub log_line_length : ℕ
log_line_length = 2 * record_length + 1

-- the fields of a record beside its serial
pub record Fields : Type 0 where
  pub kind : ℕ
  pub reason : ℕ
  pub id : ℕ
  pub other : ℕ

abbrev pub fields : ℕ → ℕ → ℕ → ℕ → Fields
fields k r i o = record { kind = k; reason = r; id = i; other = o }

abbrev pub reply_fields : ℕ → Reply → Fields
reply_fields request (Pooled c) = fields 16 0 request c
reply_fields request (Establishing c) = fields 17 0 request c
reply_fields request Warmed = fields 18 0 request 0
reply_fields request (Cleared cause) = fields 19 0 request cause
reply_fields request Gone = fields 20 0 request 0
reply_fields request Unheard = fields 21 0 request 0

abbrev pub fields_of : Record → Fields
fields_of (ConnectionCreated c) = fields 1 0 c 0
fields_of (ConnectionReady c) = fields 2 0 c 0
fields_of (ConnectionCheckedIn c) = fields 3 0 c 0
fields_of (ConnectionClosed r c other) = fields 4 (reason_no r) c other
fields_of PoolReady = fields 5 0 0 0
fields_of (PoolCleared timeout cause generation) = fields 6 (when timeout then 1 else 0) cause generation
fields_of PoolShut = fields 7 0 0 0
fields_of (Interrupt lent) = fields 8 0 0 lent
fields_of (Replied request r) = reply_fields request r
