-- The two sweeps from the available front: what each call in a turn asks, that a turn keeps what holds, and what the end gives.
use Rattle.std.specs.Prelude.{◌≡◌, refl, [], ℕ, zero, suc, ◌+◌, ◌-◌, ◌<◌, length, get_or, Some, None}
use Rattle.std.specs.declared.option.Option.{Option}
use Rattle.std.proofs.Math.Path.{ap}
use Rattle.std.proofs.Common.{sym, ◌∙◌, arith}
use Rattle.definition.specs.Words.{when◌then◌else◌}
use Rattle.definition.specs.Pool.{slot_count}
use Rattle.definition.specs.Steps.{Out, Act, ◌>>◌}
use Rattle.definition.specs.declared.ClosedReason.{ClosedReason}
use Rattle.definition.specs.declared.ClosedReason.TheVariants.{PoolClosed}
use Rattle.records.specs.Output.{RoomFor}
use Rattle.records.specs.declared.Records.{Records}
use Rattle.slots.specs.View.{SlotPool, pool_in, Whole, age_told_at}
use Rattle.slots.specs.Done.{Did}
use Rattle.slots.specs.DoneLaws.{going_done, going_as}
use Rattle.slots.specs.Codes.{why_at}
use Rattle.slots.specs.Needs.{CanClose, CanPrune}
use Rattle.slots.specs.Slots.{close_at, close_perished_at, pop_front, prune, close_front}
use Rattle.slots.specs.ActLaws.{is_healthy, is_perished, perished_reason, perished_age}
use Rattle.slots.specs.Sweep.{Sweeping, Pops, front_pops, sweep_start, sweep_pops, sweep_closes, sweep_turns}
use Rattle.slots.specs.declared.ConnectionPoolWorker.{ConnectionPoolWorker}

-- nothing is written after a sweep
pub front_start : (act : ℕ → Act SlotPool) (p : SlotPool) {o : Records} → Whole p → CanPrune p × RoomFor p.availables o → Sweeping act 0 (act p.availables p) o p.availables p o
front_start act p w h = sweep_start act 0 p w h.0 (omega (arith, h.1.0), omega (arith, h.1.1))

front_leaves : {act : ℕ → Act SlotPool} {x : Out SlotPool} {o₀ : Records} {k : ℕ} {q : SlotPool} {o : Records} → Sweeping act 0 x o₀ k q o → 0 < k → Pops pop_front q
front_leaves {q = q} v z = front_pops q v.whole v.safe (sweep_pops v z).2

-- ── Those that have perished ──

-- slot i is the front
module _ (p : SlotPool) (i : ℕ) (front : i ≡ get_or p.available 0 0) where
  prune_stops : (k : ℕ) → ◌≡◌ {A = Option (ClosedReason × ℕ)} None (why_at p i) → prune k p ≡ record { pool = p; records = [] }
  unfolding prune when◌then◌else◌
  prune_stops zero why = refl
  prune_stops (suc k) why = rw (← front, is_healthy p i why)

  prune_goes : (k : ℕ) → 0 < k → {reason : ClosedReason} {age : ℕ} → ◌≡◌ {A = Option (ClosedReason × ℕ)} (Some (reason, age)) (why_at p i)
      → prune k p ≡ (pop_front >> close_at reason i age >> prune (k - 1)) p
  unfolding prune pop_front close_perished_at when◌then◌else◌ ◌>>◌
  prune_goes zero z why = absurd (omega arith)
  prune_goes (suc k) z {reason} {age} why =
      let l : suc k - 1 ≡ k = omega arith in
      rw (← front, is_perished p i why, l)
      (ap (λ (x : ClosedReason). (pop_front >> close_at x i (age_told_at p i) >> prune k) p) (sym (perished_reason p i why))
      ∙ ap (λ (x : ℕ). (pop_front >> close_at reason i x >> prune k) p) (sym (perished_age p i why)))

module _ {x : Out SlotPool} {o₀ : Records} {k : ℕ} (w : ConnectionPoolWorker) {o : Records} (v : Sweeping prune 0 x o₀ k (pool_in w) o) where
  -- what looking at the front asks
  pub prune_looks : (length (pool_in w).slots ≡ slot_count) × (0 < slot_count) × (get_or (pool_in w).available 0 0 < slot_count)
  prune_looks = (v.whole.slots, omega arith, v.safe.listed 0)

  -- all are closed
  pub pruned_all : k ≡ 0 → Did x w o₀ o
  unfolding prune
  pruned_all z = going_done w (going_as (ap (λ (j : ℕ). prune j (pool_in w)) z) v.told)

  module _ {i : ℕ} (front : i ≡ get_or (pool_in w).available 0 0) where
    -- the front is healthy
    pub pruned_some : ◌≡◌ {A = Option (ClosedReason × ℕ)} None (why_at (pool_in w) i) → Did x w o₀ o
    pruned_some why = going_done w (going_as (prune_stops (pool_in w) i front k why) v.told)

    -- it is not, and has left
    module _ {reason : ClosedReason} {age : ℕ} (why : ◌≡◌ {A = Option (ClosedReason × ℕ)} (Some (reason, age)) (why_at (pool_in w) i)) (z : 0 < k)
        {q₁ : SlotPool} (e : q₁ ≡ (pop_front (pool_in w)).pool) where
      pub prune_closes : Whole q₁ × CanClose q₁ i × RoomFor 1 o
      prune_closes = sweep_closes v z pop_front (front_leaves v z).turn i e (omega (arith, front, v.safe.listed 0))

      pub prune_turns : {w' : ConnectionPoolWorker} {o' : Records} → Did (close_at reason i age q₁) w' o o' → Sweeping prune 0 x o₀ (k - 1) (pool_in w') o'
      prune_turns {w'} d = sweep_turns v z pop_front (front_leaves v z).turn i e reason age (prune_goes (pool_in w) i front k z why) {w = w'} d

-- ── All of them ──

close_goes : (k : ℕ) (p : SlotPool) (i : ℕ) → 0 < k → i ≡ get_or p.available 0 0 → close_front k p ≡ (pop_front >> close_at PoolClosed i 0 >> close_front (k - 1)) p
unfolding close_front
close_goes zero p i z e = absurd (omega arith)
close_goes (suc k) p i z e = let l : suc k - 1 ≡ k = omega arith in rw (e, l)

module _ {x : Out SlotPool} {o₀ : Records} {k : ℕ} (w : ConnectionPoolWorker) {o : Records} (v : Sweeping close_front 0 x o₀ k (pool_in w) o) where
  pub closed_all : k ≡ 0 → Did x w o₀ o
  unfolding close_front
  closed_all z = going_done w (going_as (ap (λ (j : ℕ). close_front j (pool_in w)) z) v.told)

  module _ {i : ℕ} (front : i ≡ get_or (pool_in w).available 0 0) (z : 0 < k) {q₁ : SlotPool} (e : q₁ ≡ (pop_front (pool_in w)).pool) where
    pub front_closes : Whole q₁ × CanClose q₁ i × RoomFor 1 o
    front_closes = sweep_closes v z pop_front (front_leaves v z).turn i e (omega (arith, front, v.safe.listed 0))

    pub front_turns : {w' : ConnectionPoolWorker} {o' : Records} → Did (close_at PoolClosed i 0 q₁) w' o o' → Sweeping close_front 0 x o₀ (k - 1) (pool_in w') o'
    front_turns {w'} d = sweep_turns v z pop_front (front_leaves v z).turn i e PoolClosed 0 (close_goes k (pool_in w) i z front) {w = w'} d
