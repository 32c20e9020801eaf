-- What a call in the middle of a step finds: few records are written, and the next part has what it asks.
use Rattle.std.specs.Prelude.{◌≡◌, Bool, true, false, List, ℕ, ◌+◌, ◌≤◌, length}
use Rattle.std.proofs.Common.{sym, subst, arith, length-append, length-take}
use Rattle.std.proofs.lemmas.List.{length-map}
use Rattle.definition.specs.Words.{when◌then◌else◌}
use Rattle.definition.specs.Pool.{Pool, slot_count, queue_length}
use Rattle.definition.specs.Refusals.{enough_room, last_next_id}
use Rattle.definition.specs.Steps.{Out, ◌>>◌}
use Rattle.definition.specs.declared.Reply.{Reply}
use Rattle.records.specs.Output.{RoomFor}
use Rattle.records.specs.declared.Records.{Records}
use Rattle.slots.specs.Done.{Done, Did}
use Rattle.slots.specs.Needs.{CanFill, CanTell}
use Rattle.slots.specs.Slots.{remove_perished, tell_all, interrupted, close_front}
use Rattle.slots.specs.View.{SlotPool, pool_in, Whole}
use Rattle.slots.specs.declared.ConnectionPoolWorker.{ConnectionPoolWorker}
use Rattle.refinement.proofs.Needs.{can_fill_after, can_tell_after}
use Rattle.refinement.proofs.RecordRoom.{pruned_few, closed_few}
use Rattle.refinement.specs.Stands.{Stands}

pub interrupt_few : (timeout : Bool) (p : SlotPool) → length (interrupted timeout p).records ≤ 1
unfolding interrupted when◌then◌else◌
interrupt_few true p = omega arith
interrupt_few false p = omega arith

-- one record for each waiter, at most
pub told_few : (r : Reply) (p : SlotPool) → length (tell_all r p).records ≤ p.waitings
unfolding tell_all ◌>>◌
told_few r p = simp (length-append, length-map, length-take) (omega arith)

-- once the perished ones are closed, the pool can be filled, and few records are written
pub pruned_fills : {p : SlotPool} {m : Pool} → Stands p m → p.next_id ≤ last_next_id → (q : SlotPool) {s n : ℕ} {l k : List ℕ}
    → Done (remove_perished p) s 0 l q n k → Whole q × CanFill q × (n ≤ slot_count)
pruned_fills st h q d =
    let z = subst (λ (x : SlotPool). Whole x × CanFill x) (sym d.pool) (can_fill_after st h) in
    (z.0, z.1, omega (arith, d.count, pruned_few st, st.table.fits))

module _ {p : SlotPool} {m : Pool} (st : Stands p m) (q : SlotPool) {s n : ℕ} {l k : List ℕ} (d : Done (close_front p.availables p) s 0 l q n k) where
  -- once the available ones are closed, the waiters can be told, and few records are written
  pub closed_tells : Whole q × CanTell q × (n + q.waitings ≤ slot_count + queue_length)
  closed_tells =
      let z = subst (λ (x : SlotPool). Whole x × CanTell x) (sym d.pool) (can_tell_after st) in
      (z.0, z.1, omega (arith, d.count, closed_few st, z.1.fits, st.table.fits))

  -- and once they are told, still few: there is room for the last
  pub told_room : (reply : Reply) (r : SlotPool) {t m : ℕ} {j : List ℕ} → Done (tell_all reply q) t n k r m j → m ≤ slot_count + queue_length
  told_room reply r e = omega (arith, e.count, told_few reply q, closed_tells.2)

-- the same in an output that is long enough and holds none so far: what each next call asks
module _ {p : SlotPool} {m : Pool} (st : Stands p m) {o : Records} (none : o.count ≡ 0) (room : enough_room ≤ length o.out.now) {w : ConnectionPoolWorker} {o₁ : Records} where
  from_none : {x : Out SlotPool} → Did x w o o₁ → Done x o.serial 0 o.out.now (pool_in w) o₁.count o₁.out.now
  from_none {x} d = subst (λ (n : ℕ). Done x o.serial n o.out.now (pool_in w) o₁.count o₁.out.now) none d.done

  pub fill_asks : p.next_id ≤ last_next_id → Did (remove_perished p) w o o₁ → CanFill (pool_in w) × RoomFor slot_count o₁
  fill_asks h d =
      let z = pruned_fills st h (pool_in w) (from_none d) in
      (z.1, (omega (arith, z.2, d.kept.long), omega (arith, z.2)))

  module _ (d : Did (close_front p.availables p) w o o₁) where
    pub tell_asks : CanTell (pool_in w) × RoomFor (w.head.waiting_count + 1) o₁
    tell_asks =
        let z = closed_tells st (pool_in w) (from_none d) in
        (z.1, (omega (arith, z.2, d.kept.long), omega (arith, z.2)))

    pub last_asks : (reply : Reply) {w₁ : ConnectionPoolWorker} {o₂ : Records} → Did (tell_all reply (pool_in w)) w₁ o₁ o₂ → RoomFor 1 o₂
    last_asks reply {w₁} e =
        let few = told_room st (pool_in w) (from_none d) reply (pool_in w₁) e.done in
        (omega (arith, few, d.kept.long, e.kept.long), omega (arith, few))
