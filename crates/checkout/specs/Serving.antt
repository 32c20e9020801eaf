-- The service stage: one law for each exit of its tests, of a check-out, and of the stage itself.
use Rattle.std.specs.Prelude.{◌≡◌, Bool, ◌&&◌, ◌||◌, ℕ, zero, suc, ◌+◌, ◌-◌, ◌*◌, ◌%◌, ◌≤◌, ◌<◌, length, get_or}
use Rattle.std.proofs.Math.Path.{refl}
use Rattle.std.proofs.Common.{sym, ap, ◌∙◌, arith, lt-ltb, le-ltb, le-leb, ne_eqb, eq-eqb}
use Rattle.std.proofs.Math.Bool.{true, false}
use mathlib.Core.List.{List}
use Rattle.std.proofs.lemmas.Bool.{lt-leb}
use Rattle.definition.specs.Words.{when◌then◌else◌, ◌<?◌, ◌≤?◌, ◌=?◌}
use Rattle.definition.specs.Pool.{queue_length, is_ready}
use Rattle.definition.specs.Records.{told}
use Rattle.definition.specs.declared.Reply.TheVariants.{Warmed}
use Rattle.definition.specs.Steps.{nothing, emit}
use Rattle.definition.specs.declared.Options.{Options}
use Rattle.definition.specs.declared.PoolState.{PoolState}
use Rattle.slots.specs.Order.{shifted}
use Rattle.slots.specs.OrderLaws.{length_shifted}
use Rattle.slots.specs.View.{SlotPool, Whole, pool_in, waiter_of, with_waiters}
use Rattle.slots.specs.declared.ConnectionPoolWorker.{ConnectionPoolWorker}
use Rattle.records.specs.Output.{RoomFor, Emits}
use Rattle.records.specs.declared.Records.{Records}
use Rattle.slots.specs.Done.{Did}
use Rattle.slots.specs.DoneLaws.{did_then, did_emit, did_quiet, did_nothing, did_as}
use Rattle.slots.specs.Needs.{CanCreate, CanTake, CanWarm, CanServe}
use Rattle.slots.specs.StepLaws.{room_to_create}
use Rattle.slots.specs.declared.Head.{Head}
use Rattle.slots.specs.Slots.{can_service_at, can_service, establish, take_from, check_out, dequeue, serve_front, service}

-- ── A check-out ──

module _ (w : ℕ) (u : ConnectionPoolWorker) where
  check_out_by : (b c : Bool) → (waiter_of w).warm ≡ b → (pool_in u).options.minimum ≤? (pool_in u).total ≡ c
      → check_out (waiter_of w) (pool_in u)
      ≡ (when b then (when c then emit (told Warmed (waiter_of w)) else establish (waiter_of w)) else take_from (pool_in u).availables (waiter_of w)) (pool_in u)
  unfolding check_out
  check_out_by b c e f = rw (e, f)

  module _ {v : ConnectionPoolWorker} {o o' : Records} where
    -- it is to have a connection
    pub out_takes : (w % 2 ≡ 1 → ⊥) → Did (take_from (pool_in u).availables (waiter_of w) (pool_in u)) v o o' → Did (check_out (waiter_of w) (pool_in u)) v o o'
    unfolding when◌then◌else◌
    out_takes h d = did_as (check_out_by false ((pool_in u).options.minimum ≤? (pool_in u).total) (ne_eqb _ _ h) refl) d

    -- it is to warm the pool, and there are too few
    pub out_low : w % 2 ≡ 1 → (pool_in u).total < (pool_in u).options.minimum → Did (establish (waiter_of w) (pool_in u)) v o o' → Did (check_out (waiter_of w) (pool_in u)) v o o'
    unfolding when◌then◌else◌
    out_low h k d = did_as (check_out_by true false (eq-eqb _ _ h) (lt-leb _ _ k)) d

  -- or enough
  pub out_warm : {o o' : Records} → w % 2 ≡ 1 → (pool_in u).options.minimum ≤ (pool_in u).total → Emits (told Warmed (waiter_of w)) o o' → Did (check_out (waiter_of w) (pool_in u)) u o o'
  unfolding when◌then◌else◌
  out_warm h k e = did_as (check_out_by true true (eq-eqb _ _ h) (le-leb _ _ k)) (did_emit u e)

-- what creating one asks, where there are too few
pub low_creates : (p : SlotPool) (o : Records) → CanTake p × CanWarm p × RoomFor (p.availables + 2) o → p.total < p.options.minimum → CanCreate p × RoomFor 2 o
low_creates p o r k = (
  record { spot = r.1.spot k; ids = r.0.ids; total = r.0.total; pending = r.0.pending },
  (omega (arith, r.2.0), omega (arith, r.2.1)),
)

-- ── The front waiter is served ──

pub dequeue_whole : (p : SlotPool) → Whole p → 0 < p.waitings → p.waitings ≤ queue_length → Whole (dequeue p).pool
unfolding dequeue
dequeue_whole p w z h = record {
  ids = w.ids;
  slots = w.slots;
  available = w.available;
  waiters = length_shifted p.waitings p.waiters z (omega (arith, w.waiters, h)) ∙ w.waiters;
}

dequeued : (p : SlotPool) (v : ConnectionPoolWorker) {o : Records} → pool_in v ≡ (dequeue p).pool → Did (dequeue p) v o o
unfolding dequeue
dequeued p v f = did_quiet v refl f

-- b is what the test said
module _ (u : ConnectionPoolWorker) {b : Bool} (e : b ≡ can_service (pool_in u)) where
  service_by : (c : Bool) → (pool_in u).waitings =? 0 ≡ c → service (pool_in u) ≡ (when b then (when c then nothing else serve_front) else nothing) (pool_in u)
  unfolding service
  service_by c f = rw (e, f)

  pub service_shut : {o : Records} → b ≡ false → Did (service (pool_in u)) u o o
  unfolding when◌then◌else◌
  service_shut h = did_as (service_by ((pool_in u).waitings =? 0) refl ∙ rw h) (did_nothing u)

  pub service_none : {o : Records} → b ≡ true → (pool_in u).waitings ≡ 0 → Did (service (pool_in u)) u o o
  unfolding when◌then◌else◌
  service_none h k = did_as (service_by true (eq-eqb _ _ k) ∙ rw h) (did_nothing u)

  -- the front has left
  module _ (h : b ≡ true) (k : (pool_in u).waitings ≡ 0 → ⊥) (v : ConnectionPoolWorker) (f : pool_in v ≡ (dequeue (pool_in u)).pool) where
    -- what its check-out asks
    pub serve_checks : (o : Records) → CanServe (pool_in u) × RoomFor ((pool_in u).availables + 2) o → CanTake (pool_in v) × CanWarm (pool_in v) × RoomFor (v.head.available_count + 2) o
    unfolding dequeue
    serve_checks o r =
        let c = r.0 in
        let same = ap (λ (x : SlotPool). x.availables) f in (
          rw f (record { prune = record { counts = c.prune.counts; fits = c.prune.fits; listed = c.prune.listed }; spot = λ z. c.spot (room_to_create (pool_in u) (sym e ∙ h) z); ids = c.ids; total = c.total; pending = c.pending }),
          rw f (record { spot = λ j. c.spot (omega (arith, c.minimum, j)) }),
          (omega (arith, r.1.0, same), omega (arith, r.1.1, same)),
        )

    pub served : {x : ℕ} → x ≡ get_or (pool_in u).waiters 0 0 → {t : ConnectionPoolWorker} {o o' : Records} → Did (check_out (waiter_of x) (pool_in v)) t o o' → Did (service (pool_in u)) t o o'
    unfolding when◌then◌else◌ serve_front
    served {x} front {t} {o} {o'} d =
        did_as (service_by false (ne_eqb _ _ k) ∙ rw h)
        (did_then dequeue (check_out (waiter_of (get_or (pool_in u).waiters 0 0))) (pool_in u) {v = v} (dequeued (pool_in u) v f) (rw (← front) d))
