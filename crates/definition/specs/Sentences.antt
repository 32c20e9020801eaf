-- Single sentences of the description, each as a law of the steps: what the promises alone would let pass.
use Rattle.std.proofs.Math.Path.{◌≡◌}
use Rattle.std.specs.Prelude.{Bool, ℕ, ◌-◌, ◌*◌, min}
use Rattle.std.proofs.Math.Bool.{true, false}
use mathlib.Core.List.{List, [], ◌∷◌, ◌++◌, map, reverse}
use Rattle.definition.specs.Words.{when◌then◌else◌, ◌=?◌}
use Rattle.definition.specs.Pool.{Pool, Conn, Waiter, stale, perished, with_state}
use Rattle.definition.specs.Records.{Record, ConnectionCreated, ConnectionClosed, Pooled, Establishing, told}
use Rattle.definition.specs.Steps.{Out}
use Rattle.definition.specs.Refusals.{refusal_no, Test, ◌if◌}
use Rattle.definition.specs.declared.Event.{Event}
use Rattle.definition.specs.declared.Event.TheVariants.{CheckOut, WarmPool, Abandon, CheckIn, Clear, MarkAsReady, Succeeded, SucceededForPool, Failed, Maintenance, FillPool, Pin, ReturnToPinner, TakeFromPinner, Close}
use Rattle.definition.specs.declared.Refusal.{Refusal}
use Rattle.definition.specs.declared.ConnectionState.{ConnectionState}
use Rattle.definition.specs.declared.ConnectionState.TheVariants.{CheckedIn, CheckedOut}
use Rattle.definition.specs.declared.ClosedReason.TheVariants.{Idle, Stale}
use Rattle.definition.specs.Log.{answered}

-- ── Pruning, and taking from the back ──────────────────────────────────────────────────────────────────────────────────

-- each of them passes the test
abbrev pub All : (Conn → Bool) → List Conn → Type 0
All t [] = Unit {0}
All t (c ∷ cs) = (t c ≡ true) × All t cs

-- there is none, or the front one fails the test
abbrev pub FrontFails : (Conn → Bool) → List Conn → Type 0
FrontFails t [] = Unit {0}
FrontFails t (c ∷ cs) = t c ≡ false

-- closed as stale, and no more is said; or else as idle, with the milliseconds since it became available, as far as four bytes can say them
abbrev pub closing : Pool → Conn → Record
closing p c = when stale p c then ConnectionClosed Stale c.id 0 else ConnectionClosed Idle c.id (min (p.clock - c.time) 4294967295)

-- Maintenance closes a front part of the available list, front to back. All of the part have perished, and it stops at the first healthy one.
pub record Pruned (p : Pool) (o : Out Pool) : Type 0 where
  pub gone : List Conn
  pub kept : List Conn
  pub parts : p.available ≡ gone ++ kept
  pub all_perished : All (perished p) gone
  pub stops : FrontFails (perished p) kept
  pub is_kept : o.pool.available ≡ kept
  pub says : o.records ≡ map (closing p) gone

-- of those that are left, the first is the one that is found, in its new state
abbrev pub found : ConnectionState → ℕ → List Conn → List Conn
found s t [] = []
found s t (c ∷ cs) = with_state s t c ∷ []

abbrev pub others : List Conn → List Conn
others [] = []
others (c ∷ cs) = cs

-- what the waiter is told: 16 for the one that is found; where none is, one is created, then 17
abbrev pub found_says : (next_id : ℕ) → Waiter → List Conn → List Record
found_says next_id w [] = ConnectionCreated next_id ∷ told (Establishing next_id) w ∷ []
found_says next_id w (c ∷ cs) = told (Pooled c.id) w ∷ []

-- An ordinary waiter: of the available ones, back to front, a part is closed, all of which have perished. The first healthy one leaves the list
-- and is lent, now; for an abandoned waiter it goes back instead, with time now.
pub record Took (w : Waiter) (p : Pool) (l : List Conn) (o : Out Pool) : Type 0 where
  pub gone : List Conn
  pub left : List Conn
  pub parts : l ≡ gone ++ left
  pub all_perished : All (perished p) gone
  pub stops : FrontFails (perished p) left
  pub says : o.records ≡ map (closing p) gone ++ found_says p.next_id w left
  pub lent_after : o.pool.lent ≡ p.lent ++ (when w.abandoned then [] else found CheckedOut p.clock left)
  pub available_after : o.pool.available ≡ reverse (others left) ++ (when w.abandoned then found CheckedIn p.clock left else [])

-- the records answer these, and the queue stays as it is
pub record Says (l : List ℕ) (p : Pool) (o : Out Pool) : Type 0 where
  pub said : answered o.records ≡ l
  pub waiting_stays : o.pool.waiting ≡ p.waiting
  pub state_stays : o.pool.state ≡ p.state

-- the events that name a connection
abbrev pub names_connection : Event → Bool
names_connection (CheckOut n) = false
names_connection (WarmPool n) = false
names_connection (Abandon n) = false
names_connection (CheckIn n errored executing let_go) = true
names_connection (Clear timeout cause) = false
names_connection MarkAsReady = false
names_connection (Succeeded n) = true
names_connection (SucceededForPool n opened) = true
names_connection (Failed n) = true
names_connection Maintenance = false
names_connection FillPool = false
names_connection (Pin n) = true
names_connection (ReturnToPinner n) = true
names_connection (TakeFromPinner n) = true
names_connection Close = false

-- ── The order of refusals ──────────────────────────────────────────────────────────────────────────────────────────────

-- where a test stands among the others: by its number, but for the pin, just ahead of the states
unfoldable pub rank : Refusal → ℕ
rank r = when refusal_no r =? 12 then 15 else 2 * refusal_no r

abbrev pub refusal_of : Test → Refusal
refusal_of (r if b) = r
