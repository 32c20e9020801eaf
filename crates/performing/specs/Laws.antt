-- From a formed pool and passed tests, what the stages of an event ask.
use Rattle.std.specs.Prelude.{◌≡◌, not, ◌&&◌, ℕ, ◌+◌, ◌≤◌, length}
use Rattle.std.proofs.Common.{sym, subst, true≢false, arith}
use Rattle.std.proofs.Math.Path.{ap}
use Rattle.std.proofs.lemmas.Bool.{false≢true}
use Rattle.definition.specs.Booleans.{by_bool, or_right}
use Rattle.definition.specs.Words.{◌=?◌, ◌<?◌}
use Rattle.definition.specs.Pool.{is_closed}
use Rattle.definition.specs.Steps.{kind_no}
use Rattle.definition.specs.Refusals.{enough_room, last_next_id}
use Rattle.definition.specs.declared.Event.{Event}
use Rattle.records.specs.Output.{RoomFor}
use Rattle.records.specs.declared.Records.{Records}
use Rattle.slots.specs.View.{SlotPool, pool_in, Whole, with_clock}
use Rattle.slots.specs.Done.{Did}
use Rattle.slots.specs.Needs.{CanServe}
use Rattle.slots.specs.Slots.{handle}
use Rattle.slots.specs.Call.{target}
use Rattle.slots.specs.declared.ConnectionPoolWorker.{ConnectionPoolWorker}
use Rattle.refinement.specs.Stands.{Formed}
use Rattle.refinement.specs.Tests.{Passed}
use Rattle.refinement.specs.Events.{Fit}
use Rattle.refinement.proofs.Events.{fit_clock}
use Rattle.refinement.proofs.Call.{clock_stands}
use Rattle.refinement.proofs.Formed.{ids_left, closed_takes}
use Rattle.refinement.proofs.Needs.{can_serve_after}
use Rattle.refinement.proofs.RecordRoom.{room_after}
use Rattle.dispatch.specs.Asks.{Asks}

module _ (p : SlotPool) (e : Event) (now : ℕ) (f : Formed p) (h : Passed p e now) (i : ℕ) (at : i ≡ target p e) where
  pub asks : Asks e i (with_clock p now)
  asks = record {
    lists = _;
    stands = clock_stands now f.stands;
    fit = fit_clock now p i e (subst (λ (x : ℕ). Fit e p x) (sym at) h.fit);
    ids = λ k. ids_left p e now h
        (by_bool (is_closed p.state) (λ c. absurd (false≢true (rw k at (closed_takes p e now h c)))) (λ c. c))
        (rw k);
    generation = λ k g. absurd (true≢false (rw (k, g) at (or_right (not (is_closed p.state) && not (kind_no e =? 15) && last_next_id <? p.next_id) _ h.numbers)));
  }

  pub serves : {w : ConnectionPoolWorker} {o o' : Records} → Did (handle e i (with_clock p now)) w o o' → o.count ≡ 0 → enough_room ≤ length o.out.now
      → Whole (pool_in w) × CanServe (pool_in w) × RoomFor (w.head.available_count + 2) o'
  serves {w} {o} d none room =
      let can = subst (λ (x : ℕ). Whole (handle e x (with_clock p now)).pool × CanServe (handle e x (with_clock p now)).pool) (sym at) (can_serve_after p e now f h) in
      let r = room_after asks.stands e i asks.fit o.out.now room in
      let v : w.head.available_count ≡ (handle e i (with_clock p now)).pool.availables = ap (λ (x : SlotPool). x.availables) d.done.pool in
      (rw d.done.pool can.0, rw d.done.pool can.1, (omega (arith, d.done.count, d.kept.long, v, r.0), omega (arith, d.done.count, v, r.1)))
