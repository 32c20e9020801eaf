-- The loop that tells the waiters: what holds as a turn starts, that a turn keeps it, and what the end gives.
use Rattle.std.specs.Prelude.{◌≡◌, refl, List, [], ◌∷◌, map, ℕ, suc, ◌+◌, ◌-◌, ◌*◌, ◌≤◌, ◌<◌, length, get_or, set, take, drop}
use Rattle.std.proofs.Common.{sym, ap, ◌∙◌, append-nil, arith, length-take, drop_of_length-le, get_or-take, drop-cons, length-take-le}
use Rattle.definition.specs.Records.{fields_of, told}
use Rattle.definition.specs.declared.Record.{Record}
use Rattle.definition.specs.declared.Reply.{Reply}
use Rattle.definition.specs.Bytes.{serial_of, record_bytes}
use Rattle.definition.specs.Steps.{Out, ◌>>◌}
use Rattle.records.specs.Laid.{laid}
use Rattle.slots.specs.View.{SlotPool, pool_in, waiter_of, with_waiters}
use Rattle.slots.specs.declared.ConnectionPoolWorker.{ConnectionPoolWorker}
use Rattle.records.specs.Output.{RoomFor, Emits}
use Rattle.records.specs.declared.Records.{Records}
use Rattle.slots.specs.Done.{lay, Did, Going}
use Rattle.slots.specs.DoneLaws.{kept_then, going_start, going_done, going_as}
use Rattle.slots.specs.Slots.{zeroed, tell_all}
use Rattle.slots.specs.ActLaws.{zeroed_at, zeroed_more}

-- those that wait after the first k
abbrev waiters_from : SlotPool → ℕ → List ℕ
waiters_from p k = drop k (take p.waitings p.waiters)

-- and what telling them leaves
abbrev told_from : Reply → SlotPool → ℕ → Out SlotPool
told_from r p k = record { pool = with_waiters p (zeroed p.waitings p.waiters) 0; records = map (told r) (map waiter_of (waiters_from p k)) }

-- as waiter k is to be told: the cells before it are 0, and all else of the worker is as it was
pub record Telling (r : Reply) (o₀ : Records) (w₀ : ConnectionPoolWorker) (k : ℕ) (w : ConnectionPoolWorker) (o : Records) : Type 0 where
  pub told : Going (tell_all r (pool_in w₀)) o₀ (told_from r (pool_in w₀) k) o
  pub some : k ≤ w₀.head.waiting_count
  pub cleared : w ≡ record w₀ { waiters = zeroed k w₀.waiters }
  pub room : RoomFor (w₀.head.waiting_count - k) o

told_from_lem : (r : Reply) (p : SlotPool) → tell_all r p ≡ told_from r p 0
unfolding tell_all ◌>>◌
told_from_lem r p = rw append-nil

pub tell_start : (r : Reply) (w : ConnectionPoolWorker) {o : Records} → RoomFor w.head.waiting_count o → Telling r o w 0 w o
unfolding zeroed
tell_start r w {o} h = record {
  told = going_as (told_from_lem r (pool_in w)) (going_start _ o);
  some = omega arith;
  cleared = refl;
  room = (omega (arith, h.0), omega (arith, h.1));
}

told_step : {x : Out SlotPool} {o₀ : Records} (p : SlotPool) (r : Record) (rs : List Record) {o o' : Records}
    → Going x o₀ (record { pool = p; records = r ∷ rs }) o → Emits r o o' → Going x o₀ (record { pool = p; records = rs }) o'
unfolding lay
told_step p r rs {o} {o'} t e =
    let c : o'.count ≡ o.count + 1 = e.count in
    record {
      told = record { pool = t.told.pool; count = omega (arith, t.told.count); out = rw (e.out, c, t.kept.serial) t.told.out };
      kept = kept_then t.kept e.kept;
    }

module _ (r : Reply) {o₀ : Records} {w₀ : ConnectionPoolWorker} {k : ℕ} {w : ConnectionPoolWorker} {o : Records} (v : Telling r o₀ w₀ k w o) where
  abbrev p : SlotPool
  p = pool_in w₀

  told_place : get_or w.waiters k 0 ≡ get_or p.waiters k 0
  told_place = ap (λ (x : ConnectionPoolWorker). get_or x.waiters k 0) v.cleared ∙ zeroed_at k p.waiters

  next : k < p.waitings → p.waitings ≤ length p.waiters → waiters_from p k ≡ get_or w.waiters k 0 ∷ waiters_from p (suc k)
  next h f =
      let l = take p.waitings p.waiters in
      let long : length l ≡ p.waitings = length-take-le p.waitings p.waiters f in
      rw (told_place ∙ sym (get_or-take p.waitings p.waiters k 0 h)) (drop-cons l k 0 (omega (arith, long)))

  pub tell_turns : k < p.waitings → p.waitings ≤ length p.waiters → {o' : Records} → Emits (told r (waiter_of (get_or w.waiters k 0))) o o'
      → Telling r o₀ w₀ (k + 1) (record w { waiters = set w.waiters k 0 }) o'
  tell_turns h f {o'} e =
      let one : k + 1 ≡ suc k = omega arith in
      record {
        told = rw one (told_step _ _ _ (rw (next h f) at v.told) e);
        some = omega arith;
        cleared = rw one (ap (λ (x : ConnectionPoolWorker). record x { waiters = set x.waiters k 0 }) v.cleared ∙ ap (λ (l : List ℕ). record w₀ { waiters = l }) (zeroed_more k p.waiters));
        room = (omega (arith, v.room.0, e.count, e.kept.long), omega (arith, v.room.1, e.count));
      }

  pub told_all : p.waitings ≤ k → (u : ConnectionPoolWorker) → pool_in u ≡ with_waiters (pool_in w) w.waiters 0 → Did (tell_all r p) u o₀ o
  told_all h u e =
      let l = take p.waitings p.waiters in
      let z : k ≡ p.waitings = omega (arith, v.some) in
      let short : length l ≤ k = omega (arith, length-take p.waitings p.waiters) in
      let none : drop k l ≡ [] = drop_of_length-le l short in
      let left : pool_in u ≡ with_waiters p (zeroed p.waitings p.waiters) 0 =
      e ∙ ap (λ (x : ConnectionPoolWorker). with_waiters (pool_in x) x.waiters 0) v.cleared ∙ ap (λ (j : ℕ). with_waiters p (zeroed j p.waiters) 0) z in
      going_done u (going_as (ap (λ (q : SlotPool). record { pool = q; records = [] }) (sym left)) (rw none at v.told))
