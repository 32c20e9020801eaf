-- What a pool is: its options, its connections in three lists, its queue, and the numbers that it goes on from.
use Rattle.std.specs.Prelude.{Bool, true, false, not, ◌&&◌, ◌||◌, List, [], ◌∷◌, ℕ, zero, suc, ◌+◌, ◌-◌, min, length}
use Rattle.definition.specs.Words.{when◌then◌else◌, ◌<?◌, ◌≤?◌, ◌=?◌, any?}
use Rattle.definition.specs.Types.{Options, PoolState, New, Paused, Ready, Closed, InUse, Returned, Purpose, Request, Background, ConnectionState, Vacant, CheckedIn, CheckedOut, Pinned, Pending}

-- ── Options ────────────────────────────────────────────────────────────────────────────────────────────────────────────

-- the most connections that a pool may be given, and pending ones; the queue's length: other numbers follow from these two
abbrev pub slot_count : ℕ
slot_count = 64

abbrev pub queue_length : ℕ
queue_length = 256

abbrev pub default_max_pool_size : ℕ
default_max_pool_size = 10

abbrev pub default_max_connecting : ℕ
default_max_connecting = 2

abbrev pub or_default : ℕ → ℕ → ℕ
or_default default n = when n =? 0 then default else n

-- a 0 takes the default; that of the minimum is 0, and an idle limit of 0 means never
abbrev pub with_defaults : Options → Options
with_defaults o = record {
  maximum = or_default default_max_pool_size o.maximum;
  minimum = o.minimum;
  connecting = or_default default_max_connecting o.connecting;
  idle = o.idle;
}

-- maximum 1 to slot_count, minimum 0 to maximum, max connecting 1 to slot_count
unfoldable pub in_range : Options → Bool
in_range o =
    1 ≤? o.maximum && o.maximum ≤? slot_count && o.minimum ≤? o.maximum && 1 ≤? o.connecting && o.connecting ≤? slot_count

-- ── Connections and waiters ────────────────────────────────────────────────────────────────────────────────────────────

-- `time`: an available one is so since then; any other was last touched then, by an accepted event
pub record Conn : Type 0 where
  pub id : ℕ
  pub generation : ℕ
  pub time : ℕ
  pub state : ConnectionState

-- one that there is not; and one in another state, since the time given
abbrev pub no_conn : (id : ℕ) → Conn
no_conn n = record { id = n; generation = 0; time = 0; state = Vacant }

abbrev pub with_state : ConnectionState → (time : ℕ) → Conn → Conn
with_state s t c = record { id = c.id; generation = c.generation; time = t; state = s }

pub record Waiter : Type 0 where
  pub id : ℕ
  pub warm : Bool
  pub abandoned : Bool

-- ── The pool ───────────────────────────────────────────────────────────────────────────────────────────────────────────

-- `available` and `waiting` stand front to back; `written` counts every record since the pool was made
pub record Pool : Type 0 where
  pub options : Options
  pub state : PoolState
  pub generation : ℕ
  pub next_id : ℕ
  pub clock : ℕ
  pub last_request : ℕ
  pub written : ℕ
  pub available : List Conn
  pub lent : List Conn
  pub pending : List Conn
  pub waiting : List Waiter

abbrev pub pool_with : Options → PoolState → (generation next_id clock last_request written : ℕ) → (available lent pending : List Conn) → List Waiter → Pool
pool_with o s g n c r w available lent pending waiting = record {
  options = o;
  state = s;
  generation = g;
  next_id = n;
  clock = c;
  last_request = r;
  written = w;
  available = available;
  lent = lent;
  pending = pending;
  waiting = waiting;
}

abbrev pub fresh : Options → Pool
fresh o = pool_with o New 0 1 0 0 0 [] [] [] []

-- what a creation adds
abbrev pub new_conn : Pool → Purpose → Conn
new_conn p why = record { id = p.next_id; generation = p.generation; time = p.clock; state = Pending why }

-- the pool with another value in one place
module _ (p : Pool) where
  abbrev pub with_status : PoolState → ℕ → Pool
  with_status s g = pool_with p.options s g p.next_id p.clock p.last_request p.written p.available p.lent p.pending p.waiting

  abbrev pub with_next_id : ℕ → Pool
  with_next_id n = pool_with p.options p.state p.generation n p.clock p.last_request p.written p.available p.lent p.pending p.waiting

  abbrev pub with_clock : ℕ → Pool
  with_clock t = pool_with p.options p.state p.generation p.next_id t p.last_request p.written p.available p.lent p.pending p.waiting

  abbrev pub with_last_request : ℕ → Pool
  with_last_request r = pool_with p.options p.state p.generation p.next_id p.clock r p.written p.available p.lent p.pending p.waiting

  abbrev pub with_written : ℕ → Pool
  with_written n = pool_with p.options p.state p.generation p.next_id p.clock p.last_request n p.available p.lent p.pending p.waiting

  abbrev pub with_available : List Conn → Pool
  with_available l = pool_with p.options p.state p.generation p.next_id p.clock p.last_request p.written l p.lent p.pending p.waiting

  abbrev pub with_lent : List Conn → Pool
  with_lent l = pool_with p.options p.state p.generation p.next_id p.clock p.last_request p.written p.available l p.pending p.waiting

  abbrev pub with_pending : List Conn → Pool
  with_pending l = pool_with p.options p.state p.generation p.next_id p.clock p.last_request p.written p.available p.lent l p.waiting

  abbrev pub with_waiting : List Waiter → Pool
  with_waiting l = pool_with p.options p.state p.generation p.next_id p.clock p.last_request p.written p.available p.lent p.pending l

-- ── Tests ──────────────────────────────────────────────────────────────────────────────────────────────────────────────

abbrev pub is_ready : PoolState → Bool
is_ready New = false
is_ready (Paused cause) = false
is_ready Ready = true
is_ready Closed = false

abbrev pub is_closed : PoolState → Bool
is_closed New = false
is_closed (Paused cause) = false
is_closed Ready = false
is_closed Closed = true

abbrev pub total : Pool → ℕ
total p = length p.available + length p.lent + length p.pending

-- stale: its generation differs from the pool's
abbrev pub stale_in : (generation : ℕ) → (of : ℕ) → Bool
stale_in generation of = not (of =? generation)

-- The idle test answers with the age, the milliseconds since the connection became available, where that reaches the limit, and
-- else with 0. A limit of 0 makes nothing idle, so the age of an idle one is never 0.
abbrev pub idle_for : (limit since now : ℕ) → ℕ
idle_for limit since now = when 0 <? limit && limit ≤? now - since then now - since else 0

-- the most that a record can say of an age
abbrev pub most_age : ℕ
most_age = 4294967295

-- what is told of a perished one as it is closed: nothing of a stale one, be it idle or not; of an idle one its age
abbrev pub age_told : (stale : Bool) → (idle : ℕ) → ℕ
age_told stale idle = when stale then 0 else min idle most_age

module _ (p : Pool) (c : Conn) where
  abbrev pub stale : Bool
  stale = stale_in p.generation c.generation

  abbrev pub idle : ℕ
  idle = idle_for p.options.idle c.time p.clock

  abbrev pub perished : Bool
  perished = stale || 0 <? idle

-- ── Connections by number ──────────────────────────────────────────────────────────────────────────────────────────────

abbrev pub has : ℕ → List Conn → Bool
has n = any? (λ c. c.id =? n)

-- the one of that number; where there is none, a blank one
abbrev pub find : ℕ → List Conn → Conn
find n [] = no_conn n
find n (c ∷ cs) = when c.id =? n then c else find n cs

-- there is one of that number, in such a state
abbrev pub has_in : (ConnectionState → Bool) → ℕ → List Conn → Bool
has_in such n l = has n l && such (find n l).state

-- the list without it
abbrev pub without : ℕ → List Conn → List Conn
without n [] = []
without n (c ∷ cs) = when c.id =? n then cs else c ∷ without n cs

-- the list with that one in another state
abbrev pub set_state : ConnectionState → ℕ → ℕ → List Conn → List Conn
set_state s t n [] = []
set_state s t n (c ∷ cs) = when c.id =? n then with_state s t c ∷ cs else c ∷ set_state s t n cs

-- the states by number, to tell them apart
abbrev pub state_no : ConnectionState → ℕ
state_no Vacant = 0
state_no CheckedIn = 1
state_no CheckedOut = 2
state_no (Pinned InUse) = 3
state_no (Pinned Returned) = 4
state_no (Pending Request) = 5
state_no (Pending Background) = 6

-- the state of a number; a number of no state is taken for 0
abbrev pub state_of_no : ℕ → ConnectionState
state_of_no zero = Vacant
state_of_no (suc zero) = CheckedIn
state_of_no (suc (suc zero)) = CheckedOut
state_of_no (suc (suc (suc zero))) = Pinned InUse
state_of_no (suc (suc (suc (suc zero)))) = Pinned Returned
state_of_no (suc (suc (suc (suc (suc zero))))) = Pending Request
state_of_no (suc (suc (suc (suc (suc (suc zero)))))) = Pending Background
state_of_no (suc (suc (suc (suc (suc (suc (suc n))))))) = Vacant

-- lent and unpinned; pinned and in use; pinned, in use or returned; pending for a request; pending in background
abbrev pub unpinned : ConnectionState → Bool
unpinned s = state_no s =? 2

abbrev pub pinned_in_use : ConnectionState → Bool
pinned_in_use s = state_no s =? 3

abbrev pub pinned : ConnectionState → Bool
pinned s = state_no s =? 3 || state_no s =? 4

abbrev pub for_request : ConnectionState → Bool
for_request s = state_no s =? 5

abbrev pub in_background : ConnectionState → Bool
in_background s = state_no s =? 6
