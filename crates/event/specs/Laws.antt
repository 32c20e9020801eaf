-- What a step is, and what a call is, case by case.
use Rattle.std.specs.Prelude.{◌≡◌, ℕ, ◌+◌, ◌<◌, ◌≤◌, List, length}
use Rattle.std.proofs.Common.{sym, arith, lt-ltb, le-ltb}
use Rattle.std.proofs.Math.Path.{ap}
use Rattle.definition.specs.Words.{when◌then◌else◌}
use Rattle.definition.specs.Refusals.{enough_room, room_records}
use Rattle.definition.specs.Bytes.{serial_of}
use Rattle.definition.specs.declared.Event.{Event}
use Rattle.definition.specs.declared.Frame.{Frame}
use Rattle.definition.specs.declared.Frame.TheVariants.{Good, Bad}
use Rattle.definition.specs.declared.Refusal.{Refusal}
use Rattle.definition.specs.declared.Refusal.TheVariants.{OutputShort, Malformed}
use Rattle.slots.specs.View.{SlotPool, with_clock, with_serial}
use Rattle.slots.specs.Done.{Done}
use Rattle.slots.specs.Slots.{event}
use Rattle.slots.specs.Call.{target, verdict, world, accepted, judged, step, call}
use Rattle.refinement.specs.Stands.{Formed}
use Rattle.refinement.specs.Tests.{Passed}
use Rattle.refinement.proofs.RecordRoom.{event_few}
use Rattle.performing.specs.Laws.{asks}
use Rattle.std.specs.declared.result.Result.TheVariants.{Ok, Err}

module _ (p : SlotPool) (l : List ℕ) (e : Event) (now : ℕ) where
  pub step_refused : (r : Refusal) → verdict p e now ≡ Err r → step p l e now ≡ world p l (Err r)
  unfolding step
  step_refused r h = ap (judged p l e now) h

  pub step_taken : (i : ℕ) → verdict p e now ≡ Ok i → step p l e now ≡ accepted p l (event e i (with_clock p now))
  unfolding step
  step_taken i h = ap (judged p l e now) h

-- what is written is counted in four bytes
pub step_few : (p : SlotPool) (e : Event) (now i : ℕ) → Formed p → Passed p e now → i ≡ target p e → length (event e i (with_clock p now)).records ≤ room_records
step_few p e now i f h at = let a = asks p e now f h i at in event_few a.stands e i a.fit

-- what was done, with the serial moved once
pub step_done : (p : SlotPool) (l : List ℕ) (e : Event) (now i : ℕ) (q : SlotPool) {s m : ℕ} {k : List ℕ}
    → verdict p e now ≡ Ok i → Done (event e i (with_clock p now)) p.serial 0 l q m k → s ≡ serial_of (p.serial + m) → world (with_serial q s) k (Ok m) ≡ step p l e now
step_done p l e now i q {s} {m} h d f =
    let z : m ≡ length (event e i (with_clock p now)).records = omega (arith, d.count) in
    rw (f, z, d.out, d.pool) (sym (step_taken p l e now i h))

module _ (p : SlotPool) (l : List ℕ) where
  pub call_short : (f : Frame) → length l < enough_room → call p l f ≡ world p l (Err OutputShort)
  unfolding call when◌then◌else◌
  call_short (Good e now) h = rw (lt-ltb (length l) enough_room h)
  call_short Bad h = rw (lt-ltb (length l) enough_room h)

  pub call_good : (e : Event) (now : ℕ) → enough_room ≤ length l → call p l (Good e now) ≡ step p l e now
  unfolding call when◌then◌else◌
  call_good e now h = rw (le-ltb (length l) enough_room h)

  pub call_bad : enough_room ≤ length l → call p l Bad ≡ world p l (Err Malformed)
  unfolding call when◌then◌else◌
  call_bad h = rw (le-ltb (length l) enough_room h)
