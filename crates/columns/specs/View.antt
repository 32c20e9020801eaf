-- A pool value as the pool on slots that it is, its columns, and the pool value of a pool on slots.
use Rattle.std.specs.Prelude.{List, map, ℕ, get_or}
use Rattle.definition.specs.Pool.{state_no, state_of_no}
use Rattle.slots.specs.Columns.{zip}
use Rattle.slots.specs.View as Of
use Rattle.slots.specs.View.{SlotPool}
use Rattle.slots.specs.declared.Head.{Head}
use Rattle.slots.specs.declared.ConnectionPoolWorker.{ConnectionPoolWorker}
use Rattle.pool.specs.declared.Slot.{Slot}
use Rattle.pool.specs.declared.Pool.{Pool}

-- ── What a slot holds ──────────────────────────────────────────────────────────────────────────────────────────────────

abbrev pub id_of : Slot → ℕ
id_of s = s.id

abbrev pub generation_of : Slot → ℕ
generation_of s = s.generation

abbrev pub time_of : Slot → ℕ
time_of s = s.time

abbrev pub code_of : Slot → ℕ
code_of s = state_no s.state

abbrev pub seen : Slot → Of.Slot
seen s = Of.slot s.generation s.time (state_no s.state)

-- ── The pool on slots that a pool value is ─────────────────────────────────────────────────────────────────────────────

abbrev pub view_of : Pool → SlotPool
view_of p =
    let h = p.head in
    Of.slot_pool h.options h.status.state h.status.generation h.next_connection_id h.clock h.last_request h.serial
    h.total_connection_count h.pending_connection_count h.available_count h.waiting_count
    (map id_of p.slots) (map seen p.slots) p.available p.waiters

-- ── Its columns ────────────────────────────────────────────────────────────────────────────────────────────────────────

abbrev pub worker_of : Pool → ConnectionPoolWorker
worker_of p = record {
  head = p.head;
  ids = map id_of p.slots;
  generations = map generation_of p.slots;
  times = map time_of p.slots;
  states = map code_of p.slots;
  available = p.available;
  waiters = p.waiters;
}

-- ── Back ───────────────────────────────────────────────────────────────────────────────────────────────────────────────

abbrev pub slot_of : (id generation time state : ℕ) → Slot
slot_of id generation time state = record { id = id; generation = generation; time = time; state = state_of_no state }

abbrev pub with_id : ℕ → Of.Slot → Slot
with_id x s = slot_of x s.generation s.time s.state

-- what the columns hold of slot i
abbrev pub value_at : ConnectionPoolWorker → ℕ → Slot
value_at w i = with_id (get_or w.ids i 0) (Of.slot_in w.generations w.times w.states i)

-- an id beside what its slot holds
abbrev pub together : List ℕ → List Of.Slot → List Slot
together = zip with_id

-- the slots of the columns
abbrev pub slot_values : ConnectionPoolWorker → List Slot
slot_values w = together w.ids (Of.slots_of w.generations w.times w.states)

abbrev pub head_of : SlotPool → Head
head_of v = record {
  options = v.options;
  status = record { state = v.state; generation = v.generation };
  next_connection_id = v.next_id;
  clock = v.clock;
  last_request = v.last_request;
  serial = v.serial;
  total_connection_count = v.total;
  pending_connection_count = v.pendings;
  available_count = v.availables;
  waiting_count = v.waitings;
}

unfoldable pub pool_from : SlotPool → Pool
pool_from v = record { head = head_of v; slots = together v.ids v.slots; available = v.available; waiters = v.waiters }
