-- What the acts leave of what the next act asks for, and what looking at an available connection tells.
use Rattle.std.specs.Prelude.{◌≡◌, refl, Bool, true, false, List, [], ◌∷◌, ℕ, zero, suc, ◌+◌, ◌-◌, ◌≤◌, ◌<◌, min, length, get_or, set, Some, None}
use Rattle.std.specs.declared.option.Option.{Option}
use Rattle.std.proofs.lemmas.Option.{none-some, same_Some}
use Rattle.std.proofs.Common.{sym, ap, ◌∙◌, arith}
use Rattle.std.proofs.Math.ListN.{length-set}
use Rattle.definition.specs.Words.{when◌then◌else◌, ◌<?◌, ◌=?◌}
use Rattle.definition.specs.Pool.{slot_count, stale_in, idle_for, most_age}
use Rattle.definition.specs.Steps.{◌>>◌}
use Rattle.definition.specs.declared.ClosedReason.{ClosedReason}
use Rattle.definition.specs.declared.ClosedReason.TheVariants.{Idle, Stale}
use Rattle.slots.specs.OrderLaws.{shifted_below, length_shifted, set_below}
use Rattle.slots.specs.View.{SlotPool, Slot, Whole, pool_in, slot_at, slot_in, stale_at, perished_at, age_told_at}
use Rattle.slots.specs.Parts.{slots_at}
use Rattle.slots.specs.Codes.{why_at, Examines}
use Rattle.slots.specs.Needs.{taken, CanPrune}
use Rattle.slots.specs.Slots.{close_at, pop_front, pop_back, create_pending_connection, zeroed}
use Rattle.slots.specs.declared.ConnectionPoolWorker.{ConnectionPoolWorker}

-- ── Ids taken ──

if_most : (b : Bool) (n : ℕ) → (when b then 0 else 1) + n ≤ n + 1
unfolding when◌then◌else◌
if_most true n = omega arith
if_most false n = omega arith

-- a write takes one id more, at most
pub taken_set : (l : List ℕ) (i v : ℕ) → taken (set l i v) ≤ taken l + 1
unfolding taken
taken_set [] i v = omega arith
taken_set (x ∷ l) zero v = omega (arith, if_most (v =? 0) (taken l))
taken_set (x ∷ l) (suc i) v = omega (arith, taken_set l i v)

-- ── Cells cleared ──

-- the first k are 0: the next is as it was; and one more
pub zeroed_at : (k : ℕ) (l : List ℕ) → get_or (zeroed k l) k 0 ≡ get_or l k 0
unfolding zeroed
zeroed_at zero l = refl
zeroed_at (suc k) [] = refl
zeroed_at (suc k) (x ∷ l) = zeroed_at k l

pub zeroed_more : (k : ℕ) (l : List ℕ) → set (zeroed k l) k 0 ≡ zeroed (suc k) l
unfolding zeroed
zeroed_more zero [] = refl
zeroed_more zero (x ∷ l) = refl
zeroed_more (suc k) [] = refl
zeroed_more (suc k) (x ∷ l) = ap (λ (r : List ℕ). 0 ∷ r) (zeroed_more k l)

-- ── An available connection is looked at ──

said_some : {A : Type 0} (b : Bool) (x : A) {y : A} → ◌≡◌ {A = Option A} (Some y) (when b then Some x else None) → (b ≡ true) × (y ≡ x)
unfolding when◌then◌else◌
said_some true x e = (refl, same_Some _ _ e)
said_some false x e = absurd (none-some _ (sym e))

said_none : {A : Type 0} (b : Bool) (x : A) → ◌≡◌ {A = Option A} None (when b then Some x else None) → b ≡ false
unfolding when◌then◌else◌
said_none true x e = absurd (none-some _ e)
said_none false x e = refl

-- what `examine` gives, read off the columns and said of the slots: of a stale one, and of any other, whose age is what the idle test answers
module _ (w : ConnectionPoolWorker) (long : length (pool_in w).slots ≡ slot_count) (k i : ℕ) (e : i ≡ get_or w.available k 0) (low : i < slot_count) where
  there : slot_at (pool_in w) i ≡ slot_in w.generations w.times w.states i
  there = slots_at w.generations w.times w.states long i low

  since : (slot_at (pool_in w) i).time ≡ get_or w.times i 0
  since = ap (λ (s : Slot). s.time) there

  module _ {stale : Bool} (st : stale ≡ stale_in w.head.status.generation (get_or w.generations i 0)) where
    is_stale : {b : Bool} → stale ≡ b → stale_at (pool_in w) i ≡ b
    is_stale y = ap (λ (s : Slot). stale_in w.head.status.generation s.generation) there ∙ sym st ∙ y

    pub examined_stale : stale ≡ true → Examines (pool_in w) k i (Some (Stale, 0))
    unfolding when◌then◌else◌
    examined_stale y = record { slot = e; why = rw (is_stale y) refl }

    pub examined_current : stale ≡ false → {age : ℕ} → age ≡ idle_for w.head.options.idle (get_or w.times i 0) w.head.clock
        → {why : Option (ClosedReason × ℕ)} → why ≡ (when 0 <? age then Some (Idle, min age most_age) else None) → Examines (pool_in w) k i why
    unfolding when◌then◌else◌
    examined_current n old f = record { slot = e; why = rw (is_stale n, since, ← old) f }

-- what follows from it
module _ (p : SlotPool) (i : ℕ) where
  pub is_healthy : ◌≡◌ {A = Option (ClosedReason × ℕ)} None (why_at p i) → perished_at p i ≡ false
  is_healthy e = said_none (perished_at p i) _ e

  module _ {reason : ClosedReason} {age : ℕ} (e : ◌≡◌ {A = Option (ClosedReason × ℕ)} (Some (reason, age)) (why_at p i)) where
    pub is_perished : perished_at p i ≡ true
    is_perished = (said_some (perished_at p i) _ e).0

    pub perished_reason : reason ≡ (when stale_at p i then Stale else Idle)
    perished_reason = ap (λ (x : ClosedReason × ℕ). x.0) (said_some (perished_at p i) _ e).1

    pub perished_age : age ≡ age_told_at p i
    perished_age = ap (λ (x : ClosedReason × ℕ). x.1) (said_some (perished_at p i) _ e).1

-- ── The pool after an act ──

module _ (p : SlotPool) where
  pub popped_whole : Whole p → CanPrune p → 0 < p.availables → Whole (pop_front p).pool
  unfolding pop_front
  popped_whole w s z = record {
    ids = w.ids;
    slots = w.slots;
    available = length_shifted p.availables p.available z (omega (arith, w.available, s.fits)) ∙ w.available;
    waiters = w.waiters;
  }

  pub popped_prune : CanPrune p → 0 < p.availables → CanPrune (pop_front p).pool
  unfolding pop_front
  popped_prune s z = record {
    counts = omega (arith, s.counts);
    fits = omega (arith, s.fits);
    listed = shifted_below slot_count p.availables p.available z s.listed;
  }

  pub back_whole : Whole p → Whole (pop_back p).pool
  unfolding pop_back
  back_whole w = record { ids = w.ids; slots = w.slots; available = length-set p.available _ 0 ∙ w.available; waiters = w.waiters }

  pub back_prune : CanPrune p → CanPrune (pop_back p).pool
  unfolding pop_back
  back_prune s = record {
    counts = omega (arith, s.counts);
    fits = omega (arith, s.fits);
    listed = set_below slot_count p.available (p.availables - 1) 0 (omega arith) s.listed;
  }

  pub closed_whole : (reason : ClosedReason) (i other : ℕ) → Whole p → Whole (close_at reason i other p).pool
  unfolding close_at ◌>>◌
  closed_whole reason i other w = record {
    ids = length-set p.ids i 0 ∙ w.ids;
    slots = length-set p.slots i _ ∙ w.slots;
    available = w.available;
    waiters = w.waiters;
  }

  pub closed_prune : (reason : ClosedReason) (i other : ℕ) → CanPrune p → p.availables < p.total → CanPrune (close_at reason i other p).pool
  unfolding close_at ◌>>◌
  closed_prune reason i other s h = record { counts = omega arith; fits = s.fits; listed = s.listed }

  pub created_whole : (state : ℕ) → Whole p → Whole (create_pending_connection state p).pool
  unfolding create_pending_connection ◌>>◌
  created_whole state w = record {
    ids = length-set p.ids _ _ ∙ w.ids;
    slots = length-set p.slots _ _ ∙ w.slots;
    available = w.available;
    waiters = w.waiters;
  }
