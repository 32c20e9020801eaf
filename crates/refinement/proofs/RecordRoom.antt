-- What a pool on slots writes is what its lists write: so the bound of the lists says that there is room for it.
use Rattle.std.specs.Prelude.{◌≡◌, refl, Bool, true, false, List, ℕ, ◌+◌, ◌≤◌, max, length}
use Rattle.std.proofs.Common.{ap, arith}
use Rattle.std.specs.Prelude.{Option, None as none, Some as some}
use Rattle.std.proofs.lemmas.List.{length-map}
use Rattle.definition.specs.Words.{when◌then◌else◌, ◌<?◌}
use Rattle.definition.specs.Pool.{Pool, slot_count, queue_length}
use Rattle.definition.specs.Steps as D
use Rattle.definition.specs.Steps.{serviced}
use Rattle.definition.proofs.RecordBound.{few_then, remove_perished_few, handle_few, service_few}
use Rattle.definition.specs.Refusals.{first, enough_room, room_records}
use Rattle.definition.specs.declared.Event.{Event}
use Rattle.definition.specs.declared.Frame.{Frame}
use Rattle.definition.specs.declared.Frame.TheVariants.{Good, Bad}
use Rattle.definition.specs.declared.Options.{Options}
use Rattle.definition.specs.declared.Refusal.{Refusal}
use Rattle.definition.specs.declared.Refusal.TheVariants.{OutputShort}
use Rattle.slots.specs.View.{SlotPool}
use Rattle.slots.specs.Slots as S
use Rattle.records.specs.Output.{Room}
use Rattle.slots.specs.Call as C
use Rattle.slots.specs.Call.{world, target}
use Rattle.std.specs.declared.result.Result.TheVariants.{Err}
use Rattle.refinement.specs.Stands.{Stands}
use Rattle.refinement.proofs.Transit.{counted}
use Rattle.refinement.proofs.Queue.{waiters_counted}
use Rattle.refinement.proofs.Walks.{remove_perished_same, close_front_same}
use Rattle.refinement.specs.Events.{Fit}
use Rattle.refinement.proofs.Events.{fit_clock, handle_same, event_same}
use Rattle.refinement.proofs.Tests.{tests_passed}
use Rattle.refinement.proofs.Call.{clock_stands}
use Rattle.refinement.specs.RecordRoom.{FewIn}

module _ {p : SlotPool} {m : Pool} (st : Stands p m) where
  pub pruned_few : length (S.remove_perished p).records ≤ p.availables
  pruned_few = omega (arith, ap length (remove_perished_same p m st).records, remove_perished_few m.available m, counted st.table)

  pub closed_few : length (S.close_front p.availables p).records ≤ p.availables
  closed_few = omega (arith, simp length-map at (ap length (close_front_same p.availables m.available p m st refl refl).records), counted st.table)

  minimum_few : m.options.minimum ≤ slot_count
  minimum_few = omega (arith, ap (λ (o : Options). o.minimum) st.alike.options, st.alike.limits)

  handled_few : (e : Event) → length (D.handle e m).records ≤ slot_count + max queue_length slot_count + 2
  handled_few e = omega (arith, handle_few e m, counted st.table, st.table.fits, waiters_counted st.alike.queue, st.alike.queue.fits, minimum_few)

  listed_few : (e : Event) → length (D.event e m).records ≤ slot_count + max queue_length slot_count + 2 + (length (D.handle e m).pool.available + 2)
  unfolding D.event
  listed_few e = few_then _ _ _ _ m (handled_few e) (service_few (serviced e) (D.handle e m).pool)

  module _ (e : Event) (i : ℕ) (f : Fit e p i) where
    -- after the event's own step there is room for the service stage, in any output that is long enough
    pub room_after : (l : List ℕ) → enough_room ≤ length l → Room ((S.handle e i p).pool.availables + 2) (length (S.handle e i p).records) l
    room_after l h =
        let o = handle_same e i p m st f in
        let few : length (S.handle e i p).records ≤ slot_count + max queue_length slot_count + 2 = omega (arith, ap length o.records, handled_few e) in
        (omega (arith, o.stands.table.fits), omega (arith, o.stands.table.fits))

    -- and for all of its records
    pub event_few : length (S.event e i p).records ≤ room_records
    event_few =
        let o = (handle_same e i p m st f).stands in
        omega (arith, ap length (event_same e i p m st f).records, listed_few e, counted o.table, o.table.fits)

pub call_few : (p : SlotPool) (m : Pool) (l : List ℕ) (f : Frame) → Stands p m → FewIn (C.call p l f).outcome
unfolding C.call C.step C.verdict when◌then◌else◌
call_few p m l Bad st = tt
call_few p m l (Good e now) st = go (length l <? enough_room) (first (C.tests p e now)) refl
  where
    go : (b : Bool) (x : Option Refusal) → first (C.tests p e now) ≡ x → FewIn (when b then world p l (Err OutputShort) else C.judged p l e now (C.or_accept (target p e) x)).outcome
    go true x h = tt
    go false none h = event_few (clock_stands now st) e (target p e) (fit_clock now p (target p e) e (tests_passed st e now h).fit)
    go false (some r) h = tt
