-- The sweep from the available back, for a waiter: what each call in a turn asks, that a turn keeps what holds, and what its three ends give.
use Rattle.std.specs.Prelude.{◌≡◌, refl, Bool, true, false, ℕ, suc, ◌+◌, ◌-◌, ◌<◌, length, get_or, Some, None}
use Rattle.std.specs.declared.option.Option.{Option}
use Rattle.std.proofs.Common.{sym, ap, subst, ◌∙◌, arith}
use Rattle.definition.specs.Words.{when◌then◌else◌}
use Rattle.definition.specs.Pool.{slot_count, Waiter}
use Rattle.definition.specs.Steps.{Out, Act, ◌>>◌}
use Rattle.definition.specs.declared.ClosedReason.{ClosedReason}
use Rattle.records.specs.Output.{RoomFor}
use Rattle.records.specs.declared.Records.{Records}
use Rattle.slots.specs.View.{SlotPool, pool_in, Whole, perished_at, age_told_at}
use Rattle.slots.specs.Done.{Did}
use Rattle.slots.specs.DoneLaws.{did_then, did_quiet, did_as, going_then}
use Rattle.slots.specs.Finding.{vacant_freed}
use Rattle.slots.specs.Codes.{why_at}
use Rattle.slots.specs.ActLaws.{is_healthy, is_perished, perished_reason, perished_age}
use Rattle.slots.specs.Needs.{CanCreate, CanClose, CanShelve, CanPrune, CanTake}
use Rattle.slots.specs.Slots.{close_at, pop_back, close_perished_at, establish, lend, take_from}
use Rattle.slots.specs.Sweep.{Sweeping, Pops, back_pops, sweep_start, sweep_at, sweep_pops, sweep_whole, sweep_count, sweep_closes, sweep_turns}
use Rattle.slots.specs.declared.ConnectionPoolWorker.{ConnectionPoolWorker}

-- ── What is left to do, by what is read of the one at the back ──

-- slot i is at the back
module _ (k : ℕ) (w : Waiter) (p : SlotPool) (i : ℕ) (more : 0 < k) (back : i ≡ get_or p.available (k - 1) 0) where
  abbrev go_on : Bool → ℕ → ℕ → Act SlotPool
  go_on b j i = when b then (close_perished_at i >> take_from j w) else lend w i

  take_by : (b : Bool) → perished_at p i ≡ b → take_from k w p ≡ (pop_back >> go_on b (k - 1) i) p
  unfolding take_from
  take_by b g =
      let e : k ≡ suc (k - 1) = omega arith in
      ap (λ (j : ℕ). take_from j w p) e
      ∙ ap (λ (j : ℕ). (pop_back >> go_on (perished_at p j) (k - 1) j) p) (sym back)
      ∙ ap (λ (x : Bool). (pop_back >> go_on x (k - 1) i) p) g

  take_goes : {reason : ClosedReason} {age : ℕ} → ◌≡◌ {A = Option (ClosedReason × ℕ)} (Some (reason, age)) (why_at p i)
      → take_from k w p ≡ (pop_back >> (close_at reason i age >> take_from (k - 1) w)) p
  unfolding when◌then◌else◌ pop_back close_perished_at ◌>>◌
  take_goes {reason} {age} why =
      take_by true (is_perished p i why)
      ∙ ap (λ (x : ClosedReason). (pop_back >> (close_at x i (age_told_at p i) >> take_from (k - 1) w)) p) (sym (perished_reason p i why))
      ∙ ap (λ (x : ℕ). (pop_back >> (close_at reason i x >> take_from (k - 1) w)) p) (sym (perished_age p i why))

  take_stops : ◌≡◌ {A = Option (ClosedReason × ℕ)} None (why_at p i) → take_from k w p ≡ (pop_back >> lend w i) p
  unfolding when◌then◌else◌
  take_stops why = take_by false (is_healthy p i why)

-- ── The loop ──

abbrev taking : Waiter → ℕ → Act SlotPool
taking w k = take_from k w

-- as a turn of the pool q starts, with k left: a sweep, after which one may be created
pub record Taking (w : Waiter) (x : Out SlotPool) (o₀ : Records) (k : ℕ) (q : SlotPool) (o : Records) : Type 0 where
  pub sweep : Sweeping (taking w) 2 x o₀ k q o
  pub safe : CanTake q

pub take_start : (w : Waiter) (p : SlotPool) {o : Records} → Whole p → CanTake p × RoomFor (p.availables + 2) o
    → Taking w (take_from p.availables w p) o p.availables p o
take_start w p whole h = record { sweep = sweep_start (taking w) 2 p whole h.0.prune h.1; safe = h.0 }

pub take_at : {w : Waiter} {x : Out SlotPool} {o₀ : Records} {k : ℕ} {q : SlotPool} {o : Records} → Taking w x o₀ k q o → Taking w x o₀ q.availables q o
take_at v = record { sweep = sweep_at v.sweep; safe = v.safe }

-- the back has left, and was closed
closed_safe : (q : SlotPool) (reason : ClosedReason) (i other : ℕ) → Whole q → CanTake q → i < slot_count → CanPrune (close_at reason i other (pop_back q).pool).pool
    → CanTake (close_at reason i other (pop_back q).pool).pool
unfolding pop_back close_at ◌>>◌
closed_safe q reason i other w s low prune = record {
  prune = prune;
  spot = λ _. vacant_freed q.ids w.ids i low;
  ids = s.ids;
  total = omega (arith, s.total);
  pending = s.pending;
}

module _ {w : Waiter} {x : Out SlotPool} {o₀ : Records} {k : ℕ} {q : SlotPool} {o : Records} (v : Taking w x o₀ k q o) where
  -- none is left: one is created
  module _ (z : k ≡ 0) where
    pub take_creates : Whole q × CanCreate q × RoomFor 2 o
    take_creates =
        let s = v.safe in (
          v.sweep.whole,
          record { spot = s.spot (sym v.sweep.count ∙ z); ids = s.ids; total = s.total; pending = s.pending },
          (omega (arith, v.sweep.room.0), omega (arith, v.sweep.room.1)),
        )

    pub taken_none : {u : ConnectionPoolWorker} {o' : Records} → Did (establish w q) u o o' → Did x u o₀ o'
    unfolding take_from
    taken_none d = going_then (take_from k w q) v.sweep.told (did_as (ap (λ (j : ℕ). take_from j w q) z) d)

  -- what looking at place j asks
  pub take_looks : (j : ℕ) → j < k → (length q.slots ≡ slot_count) × (j < slot_count) × (get_or q.available j 0 < slot_count)
  take_looks j h = (v.sweep.whole.slots, omega (arith, v.sweep.count, v.safe.prune.fits), v.safe.prune.listed j)

  module _ (z : 0 < k) where
    -- what the back's leaving asks
    pub take_pops : Whole q × CanPrune q × (0 < q.availables)
    take_pops = sweep_pops v.sweep z

    leaves : Pops pop_back q
    leaves = back_pops q v.sweep.whole v.safe.prune take_pops.2

    -- slot i was at the back, and has left
    module _ {i : ℕ} (back : i ≡ get_or q.available (k - 1) 0) (u₁ : ConnectionPoolWorker) (e : pool_in u₁ ≡ (pop_back q).pool) where
      slot : i < slot_count
      slot = omega (arith, back, v.safe.prune.listed (k - 1))

      -- it is healthy, and lent
      pub take_lends : Whole (pool_in u₁) × CanShelve (pool_in u₁) i × RoomFor 1 o
      take_lends = (
        sweep_whole v.sweep z pop_back leaves.turn i e,
        record { slot = slot; spot = omega (arith, sweep_count v.sweep z pop_back leaves.turn i e, v.sweep.count, v.safe.prune.fits) },
        (omega (arith, v.sweep.room.0), omega (arith, v.sweep.room.1)),
      )

      pub taken_lent : ◌≡◌ {A = Option (ClosedReason × ℕ)} None (why_at q i) → {u : ConnectionPoolWorker} {o' : Records} → Did (lend w i (pool_in u₁)) u o o' → Did x u o₀ o'
      taken_lent why d =
          going_then (take_from k w q) v.sweep.told
          (did_as (take_stops k w q i z back why) (did_then pop_back (lend w i) q {v = u₁} (did_quiet u₁ leaves.turn.quiet e) d))

      -- it has perished, and is closed
      module _ {reason : ClosedReason} {age : ℕ} (why : ◌≡◌ {A = Option (ClosedReason × ℕ)} (Some (reason, age)) (why_at q i)) where
        pub take_closes : Whole (pool_in u₁) × CanClose (pool_in u₁) i × RoomFor 1 o
        take_closes = sweep_closes v.sweep z pop_back leaves.turn i e slot

        pub take_turns : {u : ConnectionPoolWorker} {o' : Records} → Did (close_at reason i age (pool_in u₁)) u o o' → Taking w x o₀ (k - 1) (pool_in u) o'
        take_turns {u} d =
            let y : pool_in u ≡ (close_at reason i age (pop_back q).pool).pool = d.done.pool ∙ ap (λ (p : SlotPool). (close_at reason i age p).pool) e in
            let t = sweep_turns v.sweep z pop_back leaves.turn i e reason age (take_goes k w q i z back why) {w = u} d in
            let c = closed_safe q reason i age v.sweep.whole v.safe slot (subst (λ (p : SlotPool). CanPrune p) y t.safe) in
            record { sweep = t; safe = subst (λ (p : SlotPool). CanTake p) (sym y) c }
