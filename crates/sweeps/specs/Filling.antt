-- The loop that fills the pool up to its minimum: what holds as a turn starts, that a turn keeps it, and what the end gives.
use Rattle.std.specs.Prelude.{◌≡◌, refl, Bool, true, false, ◌&&◌, List, [], ℕ, zero, suc, ◌+◌, ◌-◌, ◌≤◌, ◌<◌, length}
use Rattle.std.proofs.Common.{sym, ap, subst, ◌∙◌, arith, lt-ltb, le-ltb}
use Rattle.definition.specs.Words.{when◌then◌else◌, ◌<?◌}
use Rattle.definition.specs.Pool.{slot_count, is_ready}
use Rattle.definition.specs.Steps.{Out, ◌>>◌}
use Rattle.definition.specs.declared.Options.{Options}
use Rattle.slots.specs.View.{SlotPool, pool_in, Whole}
use Rattle.slots.specs.declared.ConnectionPoolWorker.{ConnectionPoolWorker}
use Rattle.records.specs.Output.{RoomFor}
use Rattle.records.specs.declared.Records.{Records}
use Rattle.slots.specs.Done.{Did, Going}
use Rattle.slots.specs.DoneLaws.{did_nothing, did_as, going_start, going_done, going_step, going_as}
use Rattle.slots.specs.Finding.{vacant_found}
use Rattle.slots.specs.Needs.{taken, CanCreate, CanFill}
use Rattle.slots.specs.Slots.{create_pending_connection, background_no, fill_up, ensure_min_connections}
use Rattle.slots.specs.ActLaws.{taken_set, created_whole}

-- as a turn of the pool q starts: at most `left` are still made
pub record Filling (x : Out SlotPool) (o₀ : Records) (options : Options) (q : SlotPool) (o : Records) : Type 0 where
  pub left : ℕ
  pub told : Going x o₀ (fill_up left q) o
  pub enough : options.minimum ≤ left + q.total
  pub minimum : options.minimum ≤ slot_count
  pub whole : Whole q
  pub held : taken q.ids ≤ q.total
  pub ids : q.next_id + left < 4294967295
  pub pending : q.pendings ≤ q.total
  pub room : RoomFor left o
  pub same_options : q.options ≡ options

-- ── Before the loop: whether the pool is ready ──

module _ (w : ConnectionPoolWorker) {b : Bool} (e : b ≡ is_ready (pool_in w).state) where
  pub fill_never : {o : Records} → b ≡ false → Did (ensure_min_connections (pool_in w)) w o o
  unfolding ensure_min_connections when◌then◌else◌
  fill_never f = did_as (rw (sym e ∙ f)) (did_nothing w)

  ready : b ≡ true → ensure_min_connections (pool_in w) ≡ fill_up (pool_in w).options.minimum (pool_in w)
  unfolding ensure_min_connections when◌then◌else◌
  ready f = rw (sym e ∙ f)

  pub fill_start : {o : Records} → b ≡ true → Whole (pool_in w) → CanFill (pool_in w) × RoomFor slot_count o
      → Filling (ensure_min_connections (pool_in w)) o w.head.options (pool_in w) o
  fill_start {o} f whole h = record {
    left = w.head.options.minimum;
    told = going_as (ready f) (going_start _ o);
    enough = omega arith;
    minimum = h.0.minimum;
    whole = whole;
    held = h.0.held;
    ids = h.0.ids;
    pending = h.0.pending;
    room = (omega (arith, h.0.minimum, h.1.0), omega (arith, h.0.minimum, h.1.1));
    same_options = refl;
  }

-- ── What is left to do, by the code's two tests ────────────────────────────────────────────────────────────────────────

fill_if : (k : ℕ) (p : SlotPool) (b c : Bool) → p.total <? p.options.minimum ≡ b → p.pendings <? p.options.connecting ≡ c → b && c ≡ false
    → fill_up k p ≡ record { pool = p; records = [] }
unfolding fill_up when◌then◌else◌
fill_if zero p b c e f h = refl
fill_if (suc k) p b c e f h = rw (e, f, h)

and_no : (b : Bool) → b && false ≡ false
and_no true = refl
and_no false = refl

fill_goes : (k : ℕ) (p : SlotPool) → 0 < k → p.total < p.options.minimum → p.pendings < p.options.connecting
    → fill_up k p ≡ (create_pending_connection background_no >> fill_up (k - 1)) p
unfolding fill_up when◌then◌else◌
fill_goes zero p z h g = absurd (omega arith)
fill_goes (suc k) p z h g =
    let l : suc k - 1 ≡ k = omega arith in
    rw (lt-ltb p.total p.options.minimum h, lt-ltb p.pendings p.options.connecting g, l)

-- ── A creation ─────────────────────────────────────────────────────────────────────────────────────────────────────────

-- what it changes
record Created (p q : SlotPool) : Type 0 where
  pub total : q.total ≡ p.total + 1
  pub pendings : q.pendings ≡ p.pendings + 1
  pub next_id : q.next_id ≡ p.next_id + 1
  pub options : q.options ≡ p.options
  pub taken : taken q.ids ≤ taken p.ids + 1

created : (state : ℕ) (p : SlotPool) → Created p (create_pending_connection state p).pool
unfolding create_pending_connection ◌>>◌
created state p = record { total = refl; pendings = refl; next_id = refl; options = refl; taken = taken_set p.ids _ _ }

created_records : (state : ℕ) (p : SlotPool) → length (create_pending_connection state p).records ≡ 1
unfolding create_pending_connection ◌>>◌
created_records state p = refl

-- the pool grows, so the loop ends
pub created_total : (q : SlotPool) {w : ConnectionPoolWorker} {o o' : Records} → Did (create_pending_connection background_no q) w o o' → (pool_in w).total ≡ q.total + 1
created_total q d = ap (λ (x : SlotPool). x.total) d.done.pool ∙ (created background_no q).total

-- ── A turn, and the end ──

module _ {x : Out SlotPool} {o₀ : Records} {options : Options} (w : ConnectionPoolWorker) {o : Records} (v : Filling x o₀ options (pool_in w) o) where
  -- there are enough
  pub filled_enough : options.minimum ≤ w.head.total_connection_count → Did x w o₀ o
  filled_enough h =
      let q = pool_in w in
      let h' : q.options.minimum ≤ q.total = rw v.same_options h in
      going_done w (going_as (fill_if v.left q false (q.pendings <? q.options.connecting) (le-ltb _ _ h') refl refl) v.told)

  -- or too many are pending
  pub filled_busy : options.connecting ≤ w.head.pending_connection_count → Did x w o₀ o
  filled_busy h =
      let q = pool_in w in
      let b = q.total <? q.options.minimum in
      let h' : q.options.connecting ≤ q.pendings = rw v.same_options h in
      going_done w (going_as (fill_if v.left q b false refl (le-ltb _ _ h') (and_no b)) v.told)

  module _ (h : w.head.total_connection_count < options.minimum) where
    -- what a creation asks
    pub fill_creates : Whole (pool_in w) × CanCreate (pool_in w) × RoomFor 1 o
    fill_creates = (
      v.whole,
      record {
        spot = vacant_found (pool_in w).ids v.whole.ids (omega (arith, v.held, v.minimum));
        ids = omega (arith, v.ids);
        total = omega (arith, v.minimum);
        pending = omega (arith, v.pending, v.minimum);
      },
      (omega (arith, v.enough, v.room.0), omega (arith, v.enough, v.room.1)),
    )

    pub fill_turns : w.head.pending_connection_count < options.connecting → {w' : ConnectionPoolWorker} {o' : Records}
        → Did (create_pending_connection background_no (pool_in w)) w' o o' → Filling x o₀ options (pool_in w') o'
    fill_turns g {w'} {o'} d =
        let q = pool_in w in
        let r = pool_in w' in
        let c : Created q r = subst (λ (y : SlotPool). Created q y) (sym d.done.pool) (created background_no q) in
        let whole : Whole r = subst (λ (y : SlotPool). Whole y) (sym d.done.pool) (created_whole q background_no v.whole) in
        let em : o'.count ≡ o.count + 1 = d.done.count ∙ ap (λ (y : ℕ). o.count + y) (created_records background_no q) in
        let z : 0 < v.left = omega (arith, v.enough) in
        let h' : q.total < q.options.minimum = rw v.same_options h in
        let g' : q.pendings < q.options.connecting = rw v.same_options g in
        record {
          left = v.left - 1;
          told = going_step (create_pending_connection background_no) (fill_up (v.left - 1)) q {v = w'} (going_as (fill_goes v.left q z h' g') v.told) d;
          enough = omega (arith, v.enough, c.total);
          minimum = v.minimum;
          whole = whole;
          held = omega (arith, v.held, c.taken, c.total);
          ids = omega (arith, v.ids, c.next_id);
          pending = omega (arith, v.pending, c.pendings, c.total);
          room = (omega (arith, v.room.0, d.kept.long), omega (arith, v.room.1));
          same_options = c.options ∙ v.same_options;
        }
