-- A pool that stands for lists meets what the functions ask.
use Rattle.std.specs.Prelude.{◌≡◌, refl, Bool, true, not, ◌&&◌, ℕ, ◌+◌, ◌-◌, ◌≤◌, ◌<◌, length, get_or, take}
use Rattle.std.proofs.Math.Bool.{false}
use Rattle.std.proofs.Common.{arith, get_or-take, length-take-le}
use Rattle.std.proofs.lemmas.Bool.{false≢true, eqb-false}
use Rattle.definition.specs.Booleans.{by_bool, by_lt, or_right}
use Rattle.definition.specs.Words.{when◌then◌else◌, ◌<?◌, ◌=?◌}
use Rattle.definition.specs.Pool.{queue_length, slot_count, Pool, with_waiting, is_closed}
use Rattle.definition.specs.Steps.{serviced, nothing, ◌>>◌}
use Rattle.definition.specs.Refusals.{last_next_id}
use Rattle.definition.specs.declared.Event.{Event}
use Rattle.definition.specs.declared.Event.TheVariants.{Clear, Maintenance}
use Rattle.slots.specs.View.{SlotPool, Whole}
use Rattle.slots.specs.View as View
use Rattle.slots.specs.Slots as S
use Rattle.slots.specs.StepLaws.{room_to_create}
use Rattle.slots.specs.Call.{target}
use Rattle.slots.specs.Needs.{CanCreate, CanClose, CanShelve, CanLeave, CanPrune, CanFill, CanQueue, CanTell, CanClear, CanTake, CanWarm, CanServe}
use Rattle.refinement.specs.Mirror.{is_lent, is_pending, Listed, all_at}
use Rattle.refinement.specs.Stands.{Stands, Formed}
use Rattle.refinement.proofs.Transit.{counted, at_most, one_less}
use Rattle.refinement.specs.Queue.{others}
use Rattle.refinement.proofs.Acts.{vacancy}
use Rattle.refinement.proofs.Walks.{remove_perished_same, close_front_same}
use Rattle.refinement.proofs.Service.{dequeued}
use Rattle.refinement.specs.Events.{Holds}
use Rattle.refinement.proofs.Events.{fit_clock, handle_same}
use Rattle.refinement.specs.Tests.{Passed}
use Rattle.refinement.specs.Leaves.{Leaves, leaves_all, leaves_if, prune_leaves, service_leaves}
use Rattle.refinement.proofs.Call.{clock_stands}
use Rattle.refinement.proofs.Formed.{event_numbers, ids_left, closed_takes}

module _ {p : SlotPool} {m : Pool} (st : Stands p m) where
  pub whole : Whole p
  whole = record { ids = st.table.mirror.long_ids; slots = st.table.mirror.long_slots; available = st.table.room; waiters = st.alike.queue.room }

  -- every cell of the order list is a slot: the listed ones are, and the others are 0
  pub listed_below : (j : ℕ) → get_or p.available j 0 < slot_count
  listed_below j =
      let n = p.availables in
      by_lt j n
      (λ h. let w = all_at (Listed p.ids p.slots) (take n p.available) st.table.mirror.listed j (rw (length-take-le n p.available (omega (arith, st.table.room, st.table.fits))) h) in
      rw (← get_or-take n p.available j 0 h) w.0)
      (λ h. omega (arith, st.table.rest j h))

  -- all that is counted fits the slots
  pub counts : (p.availables + p.pendings ≤ p.total) × (p.total ≤ slot_count)
  counts = (omega (arith, counted st.table, st.table.total, st.table.pendings), at_most st.table)

  pub can_prune : CanPrune p
  can_prune = record { counts = omega (arith, counts.0); fits = st.table.fits; listed = listed_below }

  pub can_create : p.total < slot_count → p.next_id < 4294967295 → CanCreate p
  can_create h n = record { spot = vacancy st h; ids = n; total = omega arith; pending = omega (arith, counts.0) }

  pub can_fill : p.next_id ≤ last_next_id → CanFill p
  can_fill h = record {
    held = omega (arith, st.table.holds);
    first = omega (arith, st.table.mirror.below 0);
    minimum = omega (arith, st.alike.limits);
    ids = omega (arith, st.alike.limits);
    pending = omega (arith, counts.0);
  }

  pub can_tell : CanTell p
  can_tell = record { fits = st.alike.queue.fits }

  pub can_queue : p.waitings < queue_length → CanQueue p
  can_queue h = record { spot = h }

  pub can_clear : p.generation < 4294967295 → CanClear p
  can_clear h = record { tell = st.alike.queue.fits; counts = counts.0; total = omega (arith, counts.1); generation = h }

  -- a lent connection can be closed, or go to the available list
  module _ {n i : ℕ} (at : Holds is_lent n p i) where
    some_lent : 0 < length m.lent
    some_lent = omega (arith, one_less st.table i at.slot is_lent refl at.state st.table.mirror.lent)

    pub can_close : CanClose p i
    can_close = record { slot = at.slot; some = omega (arith, st.table.total, some_lent) }

    pub can_shelve : CanShelve p i
    can_shelve = record { slot = at.slot; spot = omega (arith, st.table.total, some_lent, counted st.table, counts.1) }

  -- a pending one can stop being pending
  pub can_leave : {n i : ℕ} → Holds is_pending n p i → CanLeave p i
  can_leave {n} {i} at =
      let some : 0 < length m.pending = omega (arith, one_less st.table i at.slot is_pending refl at.state st.table.mirror.pending) in
      record {
        slot = at.slot;
        some = omega (arith, st.table.total);
        spot = omega (arith, st.table.total, counted st.table, counts.1);
        pending = omega (arith, st.table.pendings);
      }

  pub can_warm : CanWarm p
  can_warm = record { spot = λ h. vacancy st (omega (arith, st.alike.limits)) }

  pub can_take : (p.availables ≡ 0 → p.total < slot_count) → p.next_id < 4294967295 → CanTake p
  can_take z n = record { prune = can_prune; spot = λ e. vacancy st (z e); ids = n; total = omega (arith, counts.1); pending = omega (arith, counts) }

  pub can_serve : p.next_id < 4294967295 → CanServe p
  can_serve n = record {
    prune = can_prune;
    minimum = st.alike.limits.minimum;
    spot = λ h. vacancy st (omega (arith, st.alike.limits));
    queue = st.alike.queue.fits;
    ids = n;
    total = omega (arith, counts.1);
    pending = omega (arith, counts);
  }

-- where the front waiter has left to be served
module _ {p : SlotPool} {m : Pool} (st : Stands p m) (some : 0 < p.waitings) where
  left : Stands (S.dequeue p).pool (with_waiting m (others p.waiters (p.waitings - 1)))
  left = dequeued p m st (p.waitings - 1) (omega arith)

  pub can_take_left : S.can_service p ≡ true → p.next_id < 4294967295 → CanTake (S.dequeue p).pool
  unfolding S.dequeue
  can_take_left h n = can_take left (λ e. omega (arith, room_to_create p h e, st.alike.limits)) n

  pub can_warm_left : CanWarm (S.dequeue p).pool
  can_warm_left = can_warm left

-- ── Within an event ────────────────────────────────────────────────────────────────────────────────────────────────────

-- after the event's own act the pool can be served
pub can_serve_after : (p : SlotPool) (e : Event) (now : ℕ) → Formed p → Passed p e now
    → Whole (S.handle e (target p e) (View.with_clock p now)).pool × CanServe (S.handle e (target p e) (View.with_clock p now)).pool
unfolding S.event ◌>>◌
can_serve_after p e now f h =
    let i = target p e in
    let q : SlotPool = (S.handle e i (View.with_clock p now)).pool in
    let o = handle_same e i (View.with_clock p now) _ (clock_stands now f.stands) (fit_clock now p i e h.fit) in
    let n = event_numbers p e now i f.stands.alike.limits h f.numbers in
    let l : Leaves false 1 q ((when serviced e then S.service else nothing) q) = leaves_if (serviced e) S.service nothing q (λ _. service_leaves q) (λ _. leaves_all 1 q) in
    (whole o.stands, can_serve o.stands (omega (arith, l.more, n)))

-- between the parts of maintenance, and between those of closing
module _ {p : SlotPool} {m : Pool} (st : Stands p m) where
  pub can_fill_after : p.next_id ≤ last_next_id → Whole (S.remove_perished p).pool × CanFill (S.remove_perished p).pool
  unfolding S.remove_perished
  can_fill_after h =
      let q = (remove_perished_same p m st).stands in
      let l : Leaves false 0 p (S.prune p.availables p) = prune_leaves p.availables p in
      (whole q, can_fill q (omega (arith, l.next)))

  pub can_tell_after : Whole (S.close_front p.availables p).pool × CanTell (S.close_front p.availables p).pool
  can_tell_after =
      let q = (close_front_same p.availables m.available p m st refl refl).stands in
      (whole q, can_tell q)

-- what the tests leave: ids for maintenance, a generation for a clear
pub ids_for_maintenance : (p : SlotPool) (now : ℕ) → Passed p Maintenance now → p.next_id ≤ last_next_id
ids_for_maintenance p now h = ids_left p Maintenance now h (by_bool (is_closed p.state) (λ c. absurd (false≢true (closed_takes p Maintenance now h c))) (λ c. c)) refl

pub generation_left : (p : SlotPool) (timeout : Bool) (cause now : ℕ) → Passed p (Clear timeout cause) now → p.generation < 4294967296 → p.generation < 4294967295
generation_left p timeout cause now h g =
    let d : p.generation ≡ 4294967295 → ⊥ = eqb-false p.generation 4294967295 (or_right (not (is_closed p.state) && not (5 =? 15) && last_next_id <? p.next_id) (p.generation =? 4294967295) h.numbers) in
    omega (arith, d)
