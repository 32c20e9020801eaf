-- The pool that a worker works on: what the slot-level steps speak of. Only this file and its laws, Parts, know the columns: a new
-- field of a slot or of the pool is written here.
use Rattle.std.specs.Prelude.{◌≡◌, Bool, ◌||◌, List, ℕ, ◌/◌, ◌%◌, length, get_or, set}
use Rattle.definition.specs.Words.{◌<?◌, ◌≤?◌, ◌=?◌}
use Rattle.definition.specs.Pool.{queue_length, slot_count, Waiter, stale_in, idle_for, age_told}
use Rattle.definition.specs.declared.Options.{Options}
use Rattle.definition.specs.declared.PoolState.{PoolState}
use Rattle.slots.specs.Columns.{zip}
use Rattle.slots.specs.declared.Head.{Head}
use Rattle.slots.specs.declared.ConnectionPoolWorker.{ConnectionPoolWorker}

-- ── What a slot holds ──────────────────────────────────────────────────────────────────────────────────────────────────

-- what is known of the connection in a slot; `state` is the number of its state, 0 where there is none
pub record Slot : Type 0 where
  pub generation : ℕ
  pub time : ℕ
  pub state : ℕ

abbrev pub slot : (generation time state : ℕ) → Slot
slot g t s = record { generation = g; time = t; state = s }

abbrev pub vacant : Slot
vacant = slot 0 0 0

-- in another state, since the time given
abbrev pub with_state : (state time : ℕ) → Slot → Slot
with_state k t s = slot s.generation t k

-- ── The columns ────────────────────────────────────────────────────────────────────────────────────────────────────────

-- what the columns hold of slot i, and of each
abbrev pub slot_in : (generations times states : List ℕ) → ℕ → Slot
slot_in generations times states i = slot (get_or generations i 0) (get_or times i 0) (get_or states i 0)

unfoldable pub slots_of : (generations times states : List ℕ) → List Slot
slots_of generations times states = zip (λ (f : ℕ → Slot) (s : ℕ). f s) (zip slot generations times) states

-- ── The pool ───────────────────────────────────────────────────────────────────────────────────────────────────────────

pub record SlotPool : Type 0 where
  pub options : Options
  pub state : PoolState
  pub generation : ℕ
  pub next_id : ℕ
  pub clock : ℕ
  pub last_request : ℕ
  pub serial : ℕ
  pub total : ℕ
  pub pendings : ℕ
  pub availables : ℕ
  pub waitings : ℕ
  pub ids : List ℕ
  pub slots : List Slot
  pub available : List ℕ
  pub waiters : List ℕ

abbrev pub slot_pool : Options → PoolState → (generation next_id clock last_request serial total pendings availables waitings : ℕ) → List ℕ → List Slot → List ℕ → List ℕ → SlotPool
slot_pool o s g n c r e t q a w ids slots available waiters = record {
  options = o;
  state = s;
  generation = g;
  next_id = n;
  clock = c;
  last_request = r;
  serial = e;
  total = t;
  pendings = q;
  availables = a;
  waitings = w;
  ids = ids;
  slots = slots;
  available = available;
  waiters = waiters;
}

-- the pool that the parts make; waiters: four times the id, and 1 if warm, 2 if abandoned
abbrev pub pool_of : Head → (ids generations times states available waiters : List ℕ) → SlotPool
pool_of h ids generations times states available waiters =
    slot_pool h.options h.status.state h.status.generation h.next_connection_id h.clock h.last_request h.serial
    h.total_connection_count h.pending_connection_count h.available_count h.waiting_count
    ids (slots_of generations times states) available waiters

-- the pool with other values in some places
module _ (p : SlotPool) where
  -- what a slot holds once a connection is made in it
  abbrev pub new_slot : (state : ℕ) → Slot
  new_slot state = slot p.generation p.clock state

  abbrev pub with_table : List ℕ → List Slot → SlotPool
  with_table i s = slot_pool p.options p.state p.generation p.next_id p.clock p.last_request p.serial p.total p.pendings p.availables p.waitings i s p.available p.waiters

  abbrev pub with_counts : ℕ → ℕ → SlotPool
  with_counts t c = slot_pool p.options p.state p.generation p.next_id p.clock p.last_request p.serial t c p.availables p.waitings p.ids p.slots p.available p.waiters

  abbrev pub with_next_id : ℕ → SlotPool
  with_next_id n = slot_pool p.options p.state p.generation n p.clock p.last_request p.serial p.total p.pendings p.availables p.waitings p.ids p.slots p.available p.waiters

  abbrev pub with_available : List ℕ → ℕ → SlotPool
  with_available a n = slot_pool p.options p.state p.generation p.next_id p.clock p.last_request p.serial p.total p.pendings n p.waitings p.ids p.slots a p.waiters

  abbrev pub with_waiters : List ℕ → ℕ → SlotPool
  with_waiters w n = slot_pool p.options p.state p.generation p.next_id p.clock p.last_request p.serial p.total p.pendings p.availables n p.ids p.slots p.available w

  abbrev pub with_status : PoolState → ℕ → SlotPool
  with_status s g = slot_pool p.options s g p.next_id p.clock p.last_request p.serial p.total p.pendings p.availables p.waitings p.ids p.slots p.available p.waiters

  abbrev pub with_clock : ℕ → SlotPool
  with_clock t = slot_pool p.options p.state p.generation p.next_id t p.last_request p.serial p.total p.pendings p.availables p.waitings p.ids p.slots p.available p.waiters

  abbrev pub with_last_request : ℕ → SlotPool
  with_last_request r = slot_pool p.options p.state p.generation p.next_id p.clock r p.serial p.total p.pendings p.availables p.waitings p.ids p.slots p.available p.waiters

  abbrev pub with_serial : ℕ → SlotPool
  with_serial s = slot_pool p.options p.state p.generation p.next_id p.clock p.last_request s p.total p.pendings p.availables p.waitings p.ids p.slots p.available p.waiters

  -- what slot i holds
  abbrev pub id_at : ℕ → ℕ
  id_at i = get_or p.ids i 0

  abbrev pub slot_at : ℕ → Slot
  slot_at i = get_or p.slots i vacant

  abbrev pub stale_at : ℕ → Bool
  stale_at i = stale_in p.generation (slot_at i).generation

  abbrev pub idle_at : ℕ → ℕ
  idle_at i = idle_for p.options.idle (slot_at i).time p.clock

  abbrev pub perished_at : ℕ → Bool
  perished_at i = stale_at i || 0 <? idle_at i

  abbrev pub age_told_at : ℕ → ℕ
  age_told_at i = age_told (stale_at i) (idle_at i)

abbrev pub waiter_of : ℕ → Waiter
waiter_of w = record { id = w / 4; warm = w % 2 =? 1; abandoned = 2 ≤? w % 4 }

-- the pool that a worker works on
abbrev pub pool_in : ConnectionPoolWorker → SlotPool
pool_in w = pool_of w.head w.ids w.generations w.times w.states w.available w.waiters

-- from this worker to that: slot i gets an id and what it holds, and nothing else of the pool changes
abbrev pub Puts : (i id : ℕ) (held : Slot) (w w' : ConnectionPoolWorker) → Type 0
Puts i id held w w' = pool_in w' ≡ with_table (pool_in w) (set (pool_in w).ids i id) (set (pool_in w).slots i held)

-- the columns have their lengths (what lies behind a reference is a list whose length nothing tells)
pub record Whole (p : SlotPool) : Type 0 where
  pub ids : length p.ids ≡ slot_count
  pub slots : length p.slots ≡ slot_count
  pub available : length p.available ≡ slot_count
  pub waiters : length p.waiters ≡ queue_length
