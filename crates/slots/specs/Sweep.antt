-- A sweep: a loop that takes connections from one end of the available list and closes them. What holds as a turn starts, and that a
-- turn keeps it.
use Rattle.std.specs.Prelude.{◌≡◌, refl, [], ℕ, ◌+◌, ◌-◌, ◌<◌, length}
use Rattle.std.proofs.Common.{sym, ap, subst, ◌∙◌, arith}
use Rattle.definition.specs.Pool.{slot_count}
use Rattle.definition.specs.Steps.{Out, Act, ◌>>◌}
use Rattle.definition.specs.declared.ClosedReason.{ClosedReason}
use Rattle.slots.specs.View.{SlotPool, pool_in, Whole}
use Rattle.records.specs.Output.{RoomFor}
use Rattle.records.specs.declared.Records.{Records}
use Rattle.slots.specs.Done.{Did, Going}
use Rattle.slots.specs.DoneLaws.{going_start, going_step, going_quiet, going_as}
use Rattle.slots.specs.Needs.{CanClose, CanPrune}
use Rattle.slots.specs.Slots.{close_at, pop_front, pop_back}
use Rattle.slots.specs.declared.ConnectionPoolWorker.{ConnectionPoolWorker}
use Rattle.slots.specs.ActLaws.{popped_whole, popped_prune, back_whole, back_prune, closed_whole, closed_prune}

-- ── One leaves the list ────────────────────────────────────────────────────────────────────────────────────────────────

-- what a turn asks of it
pub record TurnPops (pop : Act SlotPool) (q : SlotPool) : Type 0 where
  pub quiet : (pop q).records ≡ []
  pub count : (pop q).pool.availables ≡ q.availables - 1
  pub total : (pop q).pool.total ≡ q.total
  pub whole : Whole (pop q).pool
  pub prune : CanPrune (pop q).pool

-- and the pool's serial stays, which no turn asks
pub record Pops (pop : Act SlotPool) (q : SlotPool) : Type 0 where
  pub turn : TurnPops pop q
  pub serial : (pop q).pool.serial ≡ q.serial

module _ (q : SlotPool) (w : Whole q) (s : CanPrune q) (z : 0 < q.availables) where
  pub front_pops : Pops pop_front q
  unfolding pop_front
  front_pops = record { turn = record { quiet = refl; count = refl; total = refl; whole = popped_whole q w s z; prune = popped_prune q s z }; serial = refl }

  pub back_pops : Pops pop_back q
  unfolding pop_back
  back_pops = record { turn = record { quiet = refl; count = refl; total = refl; whole = back_whole q w; prune = back_prune q s }; serial = refl }

-- ── And is closed ──────────────────────────────────────────────────────────────────────────────────────────────────────

closed_records : (reason : ClosedReason) (i other : ℕ) (q : SlotPool) → length (close_at reason i other q).records ≡ 1
unfolding close_at ◌>>◌
closed_records reason i other q = refl

closed_count : (reason : ClosedReason) (i other : ℕ) (q : SlotPool) → (close_at reason i other q).pool.availables ≡ q.availables
unfolding close_at ◌>>◌
closed_count reason i other q = refl

-- ── The loop ──

-- by `act`, with the outcome x, from the output o₀: as the turn of the pool q starts, with k left, and room for `more` records after them;
-- that the records' serial and the output's length are those of o₀ is in `told.kept`
pub record Sweeping (act : ℕ → Act SlotPool) (more : ℕ) (x : Out SlotPool) (o₀ : Records) (k : ℕ) (q : SlotPool) (o : Records) : Type 0 where
  pub told : Going x o₀ (act k q) o
  pub safe : CanPrune q
  pub whole : Whole q
  pub count : k ≡ q.availables
  pub room : RoomFor (k + more) o

pub sweep_start : (act : ℕ → Act SlotPool) (more : ℕ) (p : SlotPool) {o : Records} → Whole p → CanPrune p → RoomFor (p.availables + more) o
    → Sweeping act more (act p.availables p) o p.availables p o
sweep_start act more p {o} w can r = record { told = going_start _ o; safe = can; whole = w; count = refl; room = r }

-- what is left is what is available
pub sweep_at : {act : ℕ → Act SlotPool} {more : ℕ} {x : Out SlotPool} {o₀ : Records} {k : ℕ} {q : SlotPool} {o : Records} → Sweeping act more x o₀ k q o → Sweeping act more x o₀ q.availables q o
sweep_at {act} {more} {x} {o₀} {k} {q} {o} v = subst (λ (j : ℕ). Sweeping act more x o₀ j q o) v.count v

module _ {act : ℕ → Act SlotPool} {more : ℕ} {x : Out SlotPool} {o₀ : Records} {k : ℕ} {q : SlotPool} {o : Records} (v : Sweeping act more x o₀ k q o) (z : 0 < k) where
  -- what leaving the list asks
  pub sweep_pops : Whole q × CanPrune q × (0 < q.availables)
  sweep_pops = (v.whole, v.safe, omega (arith, v.count))

  -- a turn: slot i has left q, which is q₁ then
  module _ (pop : Act SlotPool) (leaves : Pops pop q) (i : ℕ) {q₁ : SlotPool} (e : q₁ ≡ (pop q).pool) where
    pub sweep_serial : q₁.serial ≡ q.serial
    sweep_serial = ap (λ (y : SlotPool). y.serial) e ∙ leaves.serial

  module _ (pop : Act SlotPool) (leaves : TurnPops pop q) (i : ℕ) {q₁ : SlotPool} (e : q₁ ≡ (pop q).pool) where
    pub sweep_whole : Whole q₁
    sweep_whole = subst (λ (y : SlotPool). Whole y) (sym e) leaves.whole

    pub sweep_count : q₁.availables ≡ k - 1
    sweep_count = ap (λ (y : SlotPool). y.availables) e ∙ leaves.count ∙ ap (λ (y : ℕ). y - 1) (sym v.count)

    popped_total : q₁.total ≡ q.total
    popped_total = ap (λ (y : SlotPool). y.total) e ∙ leaves.total

    -- what closing it asks
    pub sweep_closes : i < slot_count → Whole q₁ × CanClose q₁ i × RoomFor 1 o
    sweep_closes low = (
      sweep_whole,
      record { slot = low; some = omega (arith, popped_total, v.safe.counts, v.count) },
      (omega (arith, v.room.0), omega (arith, v.room.1)),
    )

    pub sweep_turns : (reason : ClosedReason) (other : ℕ) → act k q ≡ (pop >> close_at reason i other >> act (k - 1)) q → {w : ConnectionPoolWorker} {o' : Records}
        → Did (close_at reason i other q₁) w o o' → Sweeping act more x o₀ (k - 1) (pool_in w) o'
    sweep_turns reason other goes {w} {o'} d =
        let em : o'.count ≡ o.count + 1 = d.done.count ∙ ap (λ (y : ℕ). o.count + y) (closed_records reason i other q₁) in
        let t = going_quiet pop (close_at reason i other >> act (k - 1)) q q₁ (going_as goes v.told) leaves.quiet e in
        let s₁ = subst (λ (y : SlotPool). CanPrune y) (sym e) leaves.prune in
        let f : q₁.availables < q₁.total = omega (arith, sweep_count, popped_total, v.safe.counts, v.count) in
        record {
          told = going_step (close_at reason i other) (act (k - 1)) q₁ {v = w} t d;
          safe = subst (λ (y : SlotPool). CanPrune y) (sym d.done.pool) (closed_prune q₁ reason i other s₁ f);
          whole = subst (λ (y : SlotPool). Whole y) (sym d.done.pool) (closed_whole q₁ reason i other sweep_whole);
          count = sym (ap (λ (y : SlotPool). y.availables) d.done.pool ∙ closed_count reason i other q₁ ∙ sweep_count);
          room = (omega (arith, v.room.0, d.kept.long), omega (arith, v.room.1));
        }
