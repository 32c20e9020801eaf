-- All that a pool on slots and one on lists share beside their connections, and what changes of it: a new field of the pool is
-- written here.
use Rattle.std.specs.Prelude.{◌≡◌, refl, List, [], ℕ, ◌+◌, ◌<◌, replicate}
use Rattle.std.proofs.Common.{ap, sym, ◌∙◌, mod-eq_of_lt}
use Rattle.std.proofs.Math.Nat.{mod-add-mod}
use Rattle.definition.specs.Pool as P
use Rattle.definition.specs.Pool.{Pool, Conn, Waiter, queue_length, fresh}
use Rattle.definition.specs.Bytes.{serial_of}
use Rattle.definition.specs.declared.Options.{Options}
use Rattle.definition.specs.declared.PoolState.{PoolState}
use Rattle.slots.specs.View as View
use Rattle.definition.specs.Limits.{Limits}
use Rattle.slots.specs.View.{SlotPool, Slot}
use Rattle.slots.specs.Slots as S
use Rattle.refinement.specs.Alike.{Queue, Alike, fresh_slots, lists_with}

-- ── What changes of it ─────────────────────────────────────────────────────────────────────────────────────────────────

module _ {p : SlotPool} {m : Pool} (a : Alike p m) where
  -- the connections
  pub alike_table : {xs : List ℕ} {ss : List Slot} {order : List ℕ} {n t c : ℕ} {av le pe : List Conn}
      → Alike (View.with_available (View.with_counts (View.with_table p xs ss) t c) order n) (P.with_available (P.with_lent (P.with_pending m pe) le) av)
  alike_table = record { options = a.options; state = a.state; generation = a.generation; next_id = a.next_id; clock = a.clock; last_request = a.last_request; serial = a.serial; limits = a.limits; queue = a.queue }

  -- a new one, which takes an id
  pub alike_created : {xs : List ℕ} {ss : List Slot} {t c : ℕ} {pe : List Conn}
      → Alike (View.with_counts (View.with_next_id (View.with_table p xs ss) (p.next_id + 1)) t c) (P.with_next_id (P.with_pending m pe) (m.next_id + 1))
  alike_created = record {
    options = a.options;
    state = a.state;
    generation = a.generation;
    next_id = ap (λ (n : ℕ). n + 1) a.next_id;
    clock = a.clock;
    last_request = a.last_request;
    serial = a.serial;
    limits = a.limits;
    queue = a.queue;
  }

  pub alike_status : (s : PoolState) (g g' : ℕ) → g ≡ g' → Alike (View.with_status p s g) (P.with_status m s g')
  alike_status s g g' e = record { options = a.options; state = refl; generation = e; next_id = a.next_id; clock = a.clock; last_request = a.last_request; serial = a.serial; limits = a.limits; queue = a.queue }

  pub alike_queue : {w : List ℕ} {n : ℕ} {l : List Waiter} → Queue w n p.last_request l → Alike (View.with_waiters p w n) (P.with_waiting m l)
  alike_queue q = record { options = a.options; state = a.state; generation = a.generation; next_id = a.next_id; clock = a.clock; last_request = a.last_request; serial = a.serial; limits = a.limits; queue = q }

  pub alike_request : {w : List ℕ} {n : ℕ} {l : List Waiter} (r : ℕ) → Queue w n r l → Alike (View.with_waiters (View.with_last_request p r) w n) (P.with_waiting (P.with_last_request m r) l)
  alike_request r q = record { options = a.options; state = a.state; generation = a.generation; next_id = a.next_id; clock = a.clock; last_request = refl; serial = a.serial; limits = a.limits; queue = q }

  -- time passes
  pub alike_clock : (now : ℕ) → Alike (View.with_clock p now) (P.with_clock m now)
  alike_clock now = record { options = a.options; state = a.state; generation = a.generation; next_id = a.next_id; clock = refl; last_request = a.last_request; serial = a.serial; limits = a.limits; queue = a.queue }

  -- k records are counted
  pub alike_counted : (s k : ℕ) → p.serial ≡ s → Alike (View.with_serial p (serial_of (s + k))) (P.with_written m (m.written + k))
  alike_counted s k e = record {
    options = a.options;
    state = a.state;
    generation = a.generation;
    next_id = a.next_id;
    clock = a.clock;
    last_request = a.last_request;
    serial = ap (λ (x : ℕ). serial_of (x + k)) (sym e ∙ a.serial) ∙ mod-add-mod m.written 4294967296 k;
    limits = a.limits;
    queue = a.queue;
  }

pub alike_fresh : (o : Options) → Limits o → Queue (replicate queue_length 0) 0 0 [] → Alike (fresh_slots o) (fresh o)
alike_fresh o l q = record { options = refl; state = refl; generation = refl; next_id = refl; clock = refl; last_request = refl; serial = refl; limits = l; queue = q }

pub alike_lists : (p : SlotPool) (av le pe : List Conn) → p.serial < 4294967296 → Limits p.options → Queue p.waiters p.waitings p.last_request (S.waiters_of p) → Alike p (lists_with p av le pe)
alike_lists p av le pe h l q = record { options = refl; state = refl; generation = refl; next_id = refl; clock = refl; last_request = refl; serial = sym (mod-eq_of_lt h); limits = l; queue = q }
