-- All that a pool on slots and one on lists share beside their connections, and what changes of it: a new field of the pool is
-- written here.
use Rattle.std.specs.Prelude.{◌≡◌, List, [], ◌∷◌, map, ℕ, ◌≤◌, ◌<◌, length, get_or, take, replicate}
use Rattle.definition.specs.Pool as P
use Rattle.definition.specs.Pool.{Pool, Conn, Waiter, slot_count, queue_length, fresh}
use Rattle.definition.specs.Bytes.{serial_of}
use Rattle.definition.specs.declared.Options.{Options}
use Rattle.definition.specs.declared.PoolState.TheVariants.{New}
use Rattle.definition.specs.Limits.{Limits}
use Rattle.slots.specs.View.{SlotPool, slot_pool, vacant, waiter_of}
use Rattle.slots.specs.Slots as S
use Rattle.slots.specs.declared.Head.{Head}

-- waiters came one after the other: each id is above the one before it, and none is above the last request
abbrev pub Rises : ℕ → ℕ → List Waiter → Type 0
Rises b last [] = Unit {0}
Rises b last (w ∷ ws) = (b < w.id) × (w.id ≤ last) × Rises w.id last ws

-- the first n cells are the waiters, front to back
pub record Queue (waiters : List ℕ) (n last : ℕ) (waiting : List Waiter) : Type 0 where
  pub room : length waiters ≡ queue_length
  pub fits : n ≤ queue_length
  pub waits : map waiter_of (take n waiters) ≡ waiting
  pub rest : (j : ℕ) → n ≤ j → get_or waiters j 0 ≡ 0
  pub rises : Rises 0 last waiting

-- all but the connections
pub record Alike (p : SlotPool) (m : Pool) : Type 0 where
  pub options : p.options ≡ m.options
  pub state : p.state ≡ m.state
  pub generation : p.generation ≡ m.generation
  pub next_id : p.next_id ≡ m.next_id
  pub clock : p.clock ≡ m.clock
  pub last_request : p.last_request ≡ m.last_request
  pub serial : p.serial ≡ serial_of m.written
  pub limits : Limits p.options
  pub queue : Queue p.waiters p.waitings p.last_request m.waiting

-- ── Where it begins ────────────────────────────────────────────────────────────────────────────────────────────────────

-- a fresh pool: all columns are 0
abbrev pub fresh_slots : Options → SlotPool
fresh_slots o = slot_pool o New 0 1 0 0 0 0 0 0 0 (replicate slot_count 0) (replicate slot_count vacant) (replicate slot_count 0) (replicate queue_length 0)

-- the parts of a made pool make it
abbrev pub fresh_head : Options → Head
fresh_head o = record {
  options = o;
  status = record { state = New; generation = 0 };
  next_connection_id = 1;
  clock = 0;
  last_request = 0;
  serial = 0;
  total_connection_count = 0;
  pending_connection_count = 0;
  available_count = 0;
  waiting_count = 0;
}

-- the pool on lists that has these connections, and all else as a pool on slots has it
abbrev pub lists_with : SlotPool → (available lent pending : List Conn) → Pool
lists_with p av le pe = P.pool_with p.options p.state p.generation p.next_id p.clock p.last_request p.serial av le pe (S.waiters_of p)
