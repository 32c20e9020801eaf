-- One call: on slots it answers as the definition does on lists, whatever the frame and whatever the output.
use Rattle.std.specs.Prelude.{◌≡◌, refl, Bool, true, false, List, ℕ, ◌+◌, length}
use Rattle.std.proofs.Common.{ap, sym, subst, arith}
use Rattle.std.specs.Prelude.{Option, None as none, Some as some}
use Rattle.definition.specs.Words.{when◌then◌else◌, ◌<?◌}
use Rattle.definition.specs.Bytes.{serial_of}
use Rattle.definition.specs.Pool as P
use Rattle.definition.specs.Pool.{Pool}
use Rattle.definition.specs.declared.Record.{Record}
use Rattle.definition.specs.Steps as D
use Rattle.definition.specs.Steps.{Out}
use Rattle.definition.specs.Refusals as R
use Rattle.definition.specs.Refusals.{first, enough_room, counted}
use Rattle.definition.specs.declared.Event.{Event}
use Rattle.definition.specs.declared.Frame.{Frame}
use Rattle.definition.specs.declared.Frame.TheVariants.{Good, Bad}
use Rattle.definition.specs.declared.Refusal.{Refusal}
use Rattle.definition.specs.declared.Refusal.TheVariants.{OutputShort, Malformed}
use Rattle.slots.specs.View.{SlotPool}
use Rattle.slots.specs.View as View
use Rattle.slots.specs.Slots as S
use Rattle.slots.specs.Done.{lay}
use Rattle.slots.specs.Call as C
use Rattle.slots.specs.Call.{World, world, target}
use Rattle.std.specs.declared.result.Result.TheVariants.{Ok, Err}
use Rattle.refinement.proofs.Alike.{alike_clock, alike_counted}
use Rattle.refinement.specs.Stands.{Stands}
use Rattle.refinement.specs.Events.{Fit}
use Rattle.refinement.proofs.Events.{fit_clock, event_same}
use Rattle.refinement.proofs.Tests.{event_tests, tests_same, tests_passed}
use Rattle.refinement.specs.Leaves.{event_leaves}
use Rattle.refinement.specs.Call.{Takes, Refines}

refused : (p : SlotPool) (l : List ℕ) (x : Refusal) → Refines p l (world p l (Err x)) (R.Refused x)
refused p l x = record {
  refuses = λ y e. let d : x ≡ y = cc in ap (λ (z : Refusal). world p l (Err z)) d;
  accepts = λ o e. let z : ◌≡◌ {A = ℕ} 0 1 = cc in absurd (omega arith);
}

accepted : (p : SlotPool) (l : List ℕ) (w : World) (o : Out Pool) → Takes p l w o → Refines p l w (R.Accepted o)
accepted p l w o t = record {
  refuses = λ y e. let z : ◌≡◌ {A = ℕ} 0 1 = cc in absurd (omega arith);
  accepts = λ o' e. let d : o ≡ o' = cc in subst (λ (x : Out Pool). Takes p l w x) d t;
}

-- ── An accepted event ──────────────────────────────────────────────────────────────────────────────────────────────────

-- time passes
pub clock_stands : {p : SlotPool} {m : Pool} (now : ℕ) → Stands p m → Stands (View.with_clock p now) (P.with_clock m now)
clock_stands now st = record { alike = alike_clock st.alike now; table = st.table }

-- k records are counted
counted_stands : {q : SlotPool} {m : Pool} (s k : ℕ) → Stands q m → q.serial ≡ s → Stands (View.with_serial q (serial_of (s + k))) (P.with_written m (m.written + k))
counted_stands s k st e = record { alike = alike_counted st.alike s k e; table = st.table }

pub takes : (p : SlotPool) (m : Pool) (l : List ℕ) (e : Event) (now : ℕ) → Stands p m → Fit e p (target p e)
    → Takes p l (C.accepted p l (S.event e (target p e) (View.with_clock p now))) (counted (D.event e (P.with_clock m now)))
takes p m l e now st f =
    let o = S.event e (target p e) (View.with_clock p now) in
    let o' = (D.event e (P.with_clock m now)).pool in
    let s = event_same e (target p e) (View.with_clock p now) (P.with_clock m now) (clock_stands now st) (fit_clock now p (target p e) e f) in
    let kept : o.pool.serial ≡ p.serial = (event_leaves e (target p e) (View.with_clock p now)).serial in
    record {
      pool = subst (λ (rs : List Record). Stands (View.with_serial o.pool (serial_of (p.serial + length o.records))) (P.with_written o' (o'.written + length rs))) s.records
          (counted_stands p.serial (length o.records) s.stands kept);
      out = ap (λ (rs : List Record). lay p.serial 0 rs l) s.records;
      outcome = ap (λ (rs : List Record). Ok (length rs)) s.records;
    }

-- ── Any call ───────────────────────────────────────────────────────────────────────────────────────────────────────────

-- by the first test that holds
judged_same : (p : SlotPool) (m : Pool) (l : List ℕ) (e : Event) (now : ℕ) (x y : Option Refusal) → Stands p m → first (C.tests p e now) ≡ x → x ≡ y
    → Refines p l (C.judged p l e now (C.or_accept (target p e) x)) (R.verdict y (R.outcome (Good e now) m))
unfolding R.outcome
judged_same p m l e now none none st h q = accepted p l _ _ (takes p m l e now st (tests_passed st e now h).fit)
judged_same p m l e now (some r) (some r') st h q =
    let d : r ≡ r' = cc in
    subst (λ (z : Refusal). Refines p l (world p l (Err r)) (R.Refused z)) d (refused p l r)
judged_same p m l e now none (some r') st h q = let z : ◌≡◌ {A = ℕ} 0 1 = cc in absurd (omega arith)
judged_same p m l e now (some r) none st h q = let z : ◌≡◌ {A = ℕ} 0 1 = cc in absurd (omega arith)

pub call_refines : (p : SlotPool) (m : Pool) → Stands p m → (f : Frame) (l : List ℕ) → Refines p l (C.call p l f) (R.step m f (length l))
unfolding C.call C.step C.verdict R.step R.tests first when◌then◌else◌
call_refines p m st Bad l = go (length l <? enough_room)
  where
    go : (b : Bool) → Refines p l (world p l (Err (when b then OutputShort else Malformed))) (R.verdict (when b then some OutputShort else some Malformed) (R.outcome Bad m))
    go true = refused p l OutputShort
    go false = refused p l Malformed
call_refines p m st (Good e now) l = go (length l <? enough_room)
  where
    go : (b : Bool) → Refines p l (when b then world p l (Err OutputShort) else C.step p l e now) (R.verdict (when b then some OutputShort else first (event_tests m e now)) (R.outcome (Good e now) m))
    go true = refused p l OutputShort
    go false = step_same
      where
        step_same : Refines p l (C.step p l e now) (R.verdict (first (event_tests m e now)) (R.outcome (Good e now) m))
        step_same = judged_same p m l e now (first (C.tests p e now)) (first (event_tests m e now)) st refl (tests_same st e now)

-- where the call stands for what follows it
pub refines_stands : {p : SlotPool} {m : Pool} {l : List ℕ} {w : World} (r : R.Result) → Stands p m → Refines p l w r → Stands w.pool (R.after m r).pool
refines_stands {p} {m} {l} {w} (R.Refused x) st h = subst (λ (v : World). Stands v.pool m) (sym (h.refuses x refl)) st
refines_stands (R.Accepted o) st h = (h.accepts o refl).pool
