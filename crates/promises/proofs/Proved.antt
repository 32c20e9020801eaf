-- The promises kept: each is one theorem.
use Rattle.std.specs.Prelude.{◌≡◌, refl, Bool, true, false, ◌⊎◌, ℕ, ◌+◌, ◌≤◌, ◌<◌, length}
use Rattle.std.proofs.Common.{sym, ap, inl, inr, arith, length-append, eqb-true, ne_eqb, eq-eqb}
use mathlib.Core.List.Memᴰ
use mathlib.Core.List.{List, [], ◌∷◌, ◌++◌, Memᴰ, append_assoc}
use Rattle.std.proofs.lemmas.List.{length-map}
use Rattle.definition.specs.Limits.{limits_of}
use Rattle.definition.specs.Words.{when◌then◌else◌, ◌=?◌}
use Rattle.definition.specs.Pool.{Pool, fresh, slot_count, with_defaults, in_range, with_clock}
use Rattle.definition.specs.Steps.{Out, ◌>>◌, handle}
use Rattle.definition.specs.Refusals.{run, after, Call, Made, NotMade, make}
use Rattle.definition.specs.declared.Options.{Options}
use Rattle.definition.specs.declared.Refusal.TheVariants.{OptionsOutOfRange}
use Rattle.definition.specs.Log.{created, closed, answered, ids, often, sum_of, Rising}
use Rattle.promises.specs.Promises.{Fresh, MadeFresh, Connections, HandsOutFree, Requests, InTime, Waits, LogInTime, InTimeBefore, FewClosed, FewRecords, Serials, Ages, pool_after, log_of, standing}
use Rattle.definition.proofs.Sentences.{pooled_was_available, answered_append}
use Rattle.promises.specs.Runs.{result, next, puts, times}
use Rattle.promises.specs.Calls.{stepped}
use Rattle.promises.proofs.Flow.{run_flow, run_calms, fresh_calm}
use Rattle.promises.proofs.Keeps.{run_rising, run_options, run_written}
use Rattle.promises.proofs.Progress.{in_time_from, in_time_before_from}
use Rattle.promises.specs.Conserve.{held, Moves, conserved, run_moves, until_service_moves}
use Rattle.promises.specs.Numbered.{Numbers, created_once, run_numbers, until_service_numbers}
use Rattle.promises.proofs.Reached.{run_reached, fresh_reached}
use Rattle.promises.proofs.RecordCounts.{service_closes, step_few}
use Rattle.promises.proofs.Ages.{one_aged, run_aged}

-- ── Made ───────────────────────────────────────────────────────────────────────────────────────────────────────────────

pub made : MadeFresh
unfolding make when◌then◌else◌
made asked p h = go (in_range (with_defaults asked)) refl h
  where
    go : (b : Bool) → in_range (with_defaults asked) ≡ b
        → (when b then Made (fresh (with_defaults asked)) else NotMade OptionsOutOfRange) ≡ Made p → Fresh asked p
    go true e k =
        let same : p ≡ fresh (with_defaults asked) = cc in
        let fine = limits_of (with_defaults asked) e in
        record { is_fresh = same; ordered = rw same fine.minimum; small = rw same fine.maximum }
    go false e k = let z : ◌≡◌ {A = ℕ} 0 1 = cc in absurd (omega arith)

-- ── Connections ────────────────────────────────────────────────────────────────────────────────────────────────────────

-- of a fresh pool that has come to this, each connection that was created is closed or stands in one list, once
record Balanced (out : Out Pool) (i : ℕ) : Type 0 where
  once : often i (created out.records) ≤ 1
  even : often i (created out.records) ≡ often i (closed out.records) + standing i out.pool

balanced : (o : Options) (out : Out Pool) → Moves [] [] (fresh o) out → Numbers (fresh o) out → (i : ℕ) → Balanced out i
unfolding held
balanced o out m n i = record { once = created_once (fresh o) out n i; even = omega (arith, conserved o out m (λ n. when n =? i then 1 else 0)) }

pub connections : (o : Options) → o.minimum ≤ o.maximum → (calls : List Call) → Connections o calls
connections o h calls =
    record {
      balance = λ i. (each i).even;
      once = λ i. (each i).once;
      open_ones_stand = λ i a b. omega (arith, each i);
      stands_once = λ i a. omega (arith, each i);
      standing_was_created = λ i a. omega (arith, each i);
      standing_is_open = λ i a. omega (arith, each i);
      at_most = rw run_options at (run_reached calls (fresh o) (fresh_reached o h)).fits;
    }
  where
    each : (i : ℕ) → Balanced (run calls (fresh o)) i
    each = balanced o (run calls (fresh o)) (run_moves calls (fresh o)) (run_numbers calls (fresh o))

in_often : {i : ℕ} {l : List ℕ} → Memᴰ i l → 1 ≤ often i l
unfolding sum_of when◌then◌else◌
in_often {i} (Memᴰ.head {x = n} e) = rw (eq-eqb n i (sym e)) (omega arith)
in_often (Memᴰ.tail m) = omega (arith, in_often m)

pub hands_out_free : (o : Options) → HandsOutFree o
unfolding ◌>>◌
hands_out_free o before e now room h r i m =
    let out = (run before >> (λ q. handle e (with_clock q now))) (fresh o) in
    let b = balanced o out (until_service_moves before (fresh o) e now room h) (until_service_numbers before (fresh o) e now) i in
    let there = in_often (pooled_was_available out.pool r i m) in
    record { is_available = omega (arith, b.once, b.even); not_lent = omega (arith, b.once, b.even); not_pending = omega (arith, b.once, b.even) }

-- ── Requests ───────────────────────────────────────────────────────────────────────────────────────────────────────────

front_rising : (lo : ℕ) (a b : List ℕ) → Rising lo (a ++ b) → Rising lo a
front_rising lo [] b r = tt
front_rising lo (n ∷ a) b r = (r.0, front_rising n a b r.1)

below_rising : (l : List ℕ) (lo i : ℕ) → i ≤ lo → Rising lo l → often i l ≡ 0
unfolding sum_of when◌then◌else◌
below_rising [] lo i h r = refl
below_rising (n ∷ l) lo i h r =
    let k : lo < n = r.0 in
    rw (ne_eqb n i (λ e. omega arith)) (omega (arith, below_rising l n i (omega arith) r.1))

rising_once : (l : List ℕ) (lo i : ℕ) → Rising lo l → often i l ≤ 1
unfolding sum_of when◌then◌else◌
rising_once [] lo i r = omega arith
rising_once (n ∷ l) lo i r = go (n =? i) refl (rising_once l n i r.1)
  where
    go : (b : Bool) → (n =? i) ≡ b → often i l ≤ 1 → (when b then 1 else 0) + often i l ≤ 1
    go true e h = omega (arith, below_rising l n i (omega (arith, eqb-true n i e)) r.1)
    go false e h = omega arith

pub requests : (o : Options) (calls : List Call) → Requests o calls
requests o calls =
    let in_order = (run_flow calls (fresh o) (fresh_calm o)).same in
    let rise = run_rising calls (fresh o) in
    let answered_rise = front_rising 0 (answered (log_of o calls)) (ids (pool_after o calls).waiting) (rw in_order at rise) in
    record {
      in_order = in_order;
      accepted_rise = rise;
      answered_rise = answered_rise;
      answered_once = λ i. rising_once (answered (log_of o calls)) 0 i answered_rise;
    }

-- ── In time, few, counted, aged ──────────────────────────────────────────────────────────────────────────────────────────────

pub in_time : (o : Options) → InTime o
in_time o before = in_time_from (pool_after o before) (run_calms before (fresh o) (fresh_calm o))

-- in the records of the call, or in those of the calls after it
by_then : (o : Options) (before : List Call) (call : Call) (later : List Call) (n : ℕ)
    → let out = after (pool_after o before) (result (pool_after o before) call) in
    Memᴰ n (answered out.records) ⊎ Waits n (pool_after o before) out → length out.pool.waiting ≤ times puts out.pool later
    → Memᴰ n (answered (run (call ∷ later) (pool_after o before)).records)
unfolding run ◌>>◌
by_then o before call later n (inl m) h = rw answered_append (Memᴰ.append_left _ m)
by_then o before call later n (inr w) h =
    let l = simp (length-append, length-map) at (ap length w.behind_them) in
    rw answered_append (Memᴰ.append_right (answered (after (pool_after o before) (result (pool_after o before) call)).records) (w.then_answered later (omega (arith, h, l))))

run_append : (a b : List Call) (p : Pool) → (run (a ++ b) p).records ≡ (run a p).records ++ (run b (run a p).pool).records
unfolding run ◌>>◌
run_append [] b p = refl
run_append (c ∷ a) b p = rw (run_append a b (next p c), append_assoc)

pub log_in_time : (o : Options) (calls : List Call) → LogInTime o calls
log_in_time o calls before call later n e t h =
    let p = pool_after o before in
    rw (e, run_append before (call ∷ later) (fresh o), answered_append) (Memᴰ.append_right (answered (log_of o before)) (by_then o before call later n (in_time o before call n t) h))

pub in_time_before : (o : Options) → InTimeBefore o
in_time_before o before = in_time_before_from (pool_after o before) (run_calms before (fresh o) (fresh_calm o))

pub few_closed : FewClosed
few_closed = service_closes

pub few_records : (o : Options) → o.minimum ≤ o.maximum → o.maximum ≤ slot_count → (before : List Call) (call : Call) → FewRecords o before call
few_records o h k before call =
    let p = pool_after o before in
    let reached = run_reached before (fresh o) (fresh_reached o h) in
    let few = step_few p call.frame call.room _ (stepped p call.frame call.room) reached (rw run_options k) in
    record { at_most = few; room_for_all = omega arith }

pub serials : (o : Options) (calls : List Call) → Serials o calls
serials o calls = omega (arith, run_written calls (fresh o))

pub ages : (o : Options) (calls : List Call) → Ages o calls
ages o calls reason c other m = one_aged o.idle m (run_aged o.idle calls (fresh o) refl)
