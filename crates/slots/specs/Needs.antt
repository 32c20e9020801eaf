-- What the functions below the entry points ask of the pool that they are lent; the refinement shows it of every formed pool.
use Rattle.std.specs.Prelude.{◌≡◌, List, [], ◌∷◌, ℕ, ◌+◌, ◌≤◌, ◌<◌, get_or}
use Rattle.definition.specs.Pool.{queue_length, slot_count}
use Rattle.definition.specs.Words.{when◌then◌else◌, ◌=?◌}
use Rattle.slots.specs.Order.{vacant_slot}
use Rattle.slots.specs.View.{SlotPool}

-- how many ids are not 0
unfoldable pub taken : List ℕ → ℕ
taken [] = 0
taken (x ∷ l) = (when x =? 0 then 0 else 1) + taken l

-- there is a vacant slot, and a number for what goes there
pub record CanCreate (p : SlotPool) : Type 0 where
  pub spot : vacant_slot p.ids < slot_count
  pub ids : p.next_id < 4294967295
  pub total : p.total < 4294967295
  pub pending : p.pendings < 4294967295

-- slot i can be closed; it can go to the available list; it can stop being pending
pub record CanClose (p : SlotPool) (i : ℕ) : Type 0 where
  pub slot : i < slot_count
  pub some : 0 < p.total

pub record CanShelve (p : SlotPool) (i : ℕ) : Type 0 where
  pub slot : i < slot_count
  pub spot : p.availables < slot_count

pub record CanLeave (p : SlotPool) (i : ℕ) : Type 0 where
  pub slot : i < slot_count
  pub some : 0 < p.total
  pub spot : p.availables < slot_count
  pub pending : 0 < p.pendings

-- the available ones can be closed, one by one
pub record CanPrune (p : SlotPool) : Type 0 where
  pub counts : p.availables ≤ p.total
  pub fits : p.availables ≤ slot_count
  pub listed : (k : ℕ) → get_or p.available k 0 < slot_count

-- the pool can be filled up to its minimum
pub record CanFill (p : SlotPool) : Type 0 where
  pub held : taken p.ids ≤ p.total
  pub first : 0 < p.next_id
  pub minimum : p.options.minimum ≤ slot_count
  pub ids : p.next_id + p.options.minimum < 4294967295
  pub pending : p.pendings ≤ p.total

pub record CanQueue (p : SlotPool) : Type 0 where
  pub spot : p.waitings < queue_length

pub record CanTell (p : SlotPool) : Type 0 where
  pub fits : p.waitings ≤ queue_length

pub record CanClear (p : SlotPool) : Type 0 where
  pub tell : p.waitings ≤ queue_length
  pub counts : p.availables + p.pendings ≤ p.total
  pub total : p.total < 4294967296
  pub generation : p.generation < 4294967295

pub record CanTake (p : SlotPool) : Type 0 where
  pub prune : CanPrune p
  pub spot : p.availables ≡ 0 → vacant_slot p.ids < slot_count
  pub ids : p.next_id < 4294967295
  pub total : p.total < 4294967295
  pub pending : p.pendings < 4294967295

-- a pool below its minimum has a vacant slot
pub record CanWarm (p : SlotPool) : Type 0 where
  pub spot : p.total < p.options.minimum → vacant_slot p.ids < slot_count

-- a pool below its maximum has a vacant slot
pub record CanServe (p : SlotPool) : Type 0 where
  pub prune : CanPrune p
  pub minimum : p.options.minimum ≤ p.options.maximum
  pub spot : p.total < p.options.maximum → vacant_slot p.ids < slot_count
  pub queue : p.waitings ≤ queue_length
  pub ids : p.next_id < 4294967295
  pub total : p.total < 4294967295
  pub pending : p.pendings < 4294967295
