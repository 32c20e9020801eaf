-- Demands 1 and 2, and the third of any calls.
use Rattle.std.specs.Prelude.{◌≡◌, true, false, List, [], ◌∷◌, ◌++◌, ◌⊎◌, ℕ, ◌+◌, ◌*◌, ◌≤◌, drop}
use Rattle.std.proofs.Math.Path.{refl, ap}
use Rattle.std.proofs.Common.{sym, subst, ◌∙◌, inl, inr, arith, drop_at, ltb-true, ltb-false}
use Rattle.std.proofs.Math.ListN.{length, take}
use Rattle.std.proofs.Math.Seq.{take_at}
use Rattle.definition.specs.Booleans.{by_bool}
use Rattle.definition.specs.Limits.{limits_of}
use Rattle.definition.specs.Words.{when◌then◌else◌, ◌<?◌}
use Rattle.definition.specs.Pool as D
use Rattle.definition.specs.Pool.{Waiter, fresh, with_defaults, in_range}
use Rattle.definition.specs.Records.{record_length}
use Rattle.definition.specs.declared.Record.{Record}
use Rattle.definition.specs.Steps.{Out, ◌>>◌}
use Rattle.definition.specs.Refusals as R
use Rattle.definition.specs.Refusals.{enough_room, room_records, refusal_no, after, run}
use Rattle.definition.specs.Bytes.{frame_of}
use Rattle.definition.specs.Day.{numbered}
use Rattle.definition.specs.declared.Options.{Options}
use Rattle.definition.specs.declared.Refusal.{Refusal}
use Rattle.definition.specs.declared.Refusal.TheVariants.{OutputShort, Malformed, ClockBack, AfterClose, NumbersSpent, OldRequest, QueueFull, WrongState, WrongTime, OptionsOutOfRange, NotWaiting, AlreadyPinned}
use Rattle.definition.specs.Log.{answered, ids}
use Rattle.promises.specs.Promises.{Placed, InOrder}
use Rattle.promises.proofs.Proved.{connections, hands_out_free, requests, in_time, log_in_time}
use Rattle.promises.proofs.Progress.{in_time_from}
use Rattle.promises.proofs.Reached.{calm}
use Rattle.promises.proofs.Keeps.{step_written}
use Rattle.promises.specs.Calls.{stepped}
use Rattle.slots.specs.View.{SlotPool}
use Rattle.slots.specs.Call.{call}
use Rattle.std.specs.declared.result.Result.TheVariants.{Ok, Err}
use Rattle.refinement.specs.Stands.{Stands, Formed}
use Rattle.refinement.proofs.Formed.{fresh_stands, fresh_formed}
use Rattle.refinement.specs.RecordRoom.{FewIn}
use Rattle.refinement.proofs.RecordRoom.{call_few}
use Rattle.refinement.specs.Rules.{Rules, lists_of}
use Rattle.refinement.proofs.Rules.{rules_formed, rules_stand, rules_reached, formed_rules}
use Rattle.refinement.proofs.Places.{one_place, same_places, same_total, same_waiting}
use Rattle.printing.specs.Printed.{entries_bytes}
use Rattle.columns.specs.View.{view_of}
use Rattle.pool.specs.Making.{making, fresh_pool}
use Rattle.pool.specs.declared.Pool.{Pool}
use Rattle.pool.specs.declared.Made.{Made}
use Rattle.entry.specs.Entry.{Entered, entered, entry, keeps, refusal_in, records_in}
use Rattle.entry.specs.Tested.{keeps_exact, entry_short}
use Rattle.entry.specs.Meaning.{Meant, Done, Lend, calls, left, short_or_bad, unkept, entry_back, entry_formed, entry_meant, rules_meant, left_formed, entries_run, entry_stands, made_runs, making_makes, making_refuses}
use Rattle.replay.specs.Laying.{lay_entries, length_lay, numbered_append, entries_append, entries_length}
use Rattle.demands.specs.Demands.{IsRefused, IsAccepted, Demand1, Demand2, Kept, laid_by, Demand3Calls, Demand3Any}

-- ── The twelve numbers ─────────────────────────────────────────────────────────────────────────────────────────────────

twelve : (r : Refusal) → (1 ≤ refusal_no r) × (refusal_no r ≤ 12)
twelve OutputShort = (omega arith, omega arith)
twelve Malformed = (omega arith, omega arith)
twelve ClockBack = (omega arith, omega arith)
twelve AfterClose = (omega arith, omega arith)
twelve NumbersSpent = (omega arith, omega arith)
twelve OldRequest = (omega arith, omega arith)
twelve QueueFull = (omega arith, omega arith)
twelve WrongState = (omega arith, omega arith)
twelve WrongTime = (omega arith, omega arith)
twelve OptionsOutOfRange = (omega arith, omega arith)
twelve NotWaiting = (omega arith, omega arith)
twelve AlreadyPinned = (omega arith, omega arith)

refuses : (p : Pool) (l : List ℕ) (r : Refusal) (w : Entered) → w ≡ entered p l (Err r) → IsRefused p l w
refuses p l r w e =
    subst (λ (x : Entered). IsRefused p l x) (sym e) (record { number = twelve r; none_written = refl; pool_stays = refl; out_stays = refl })

-- ── Accepted ─────────────────────────────────────────────────────────────────────────────────────────────────────

-- what is accepted had room enough
has_room : (p : Pool) (b l : List ℕ) (n : ℕ) → (entry p b l).outcome ≡ Ok n → enough_room ≤ length l
has_room p b l n h = by_bool (length l <? enough_room)
    (λ s. let e = ap (λ (w : Entered). w.outcome) (entry_short p b l (ltb-true (length l) enough_room s)) in let z : ◌≡◌ {A = ℕ} 0 1 = cc in absurd (omega arith))
    (λ s. ltb-false (length l) enough_room s)

module _ (p : Pool) (f : Formed (view_of p)) (m : D.Pool) (st : Stands (view_of p) m) (b l : List ℕ) (o : Out D.Pool) (d : Done p l (entry p b l) o) where
  few : length o.records ≤ room_records
  few =
      let same : (call (view_of p) l (frame_of b)).outcome ≡ Ok (length o.records) = sym (ap (λ (w : Entered). w.outcome) (entry_back p f b l)) ∙ d.outcome in
      subst FewIn same (call_few (view_of p) m l (frame_of b) st)

  -- its records, as they are laid at the output's front
  records_laid : (entry p b l).out ≡ entries_bytes (numbered m.written o.records) ++ drop (16 * length o.records) l
  records_laid = d.out ∙ lay_entries p.head.serial m.written o.records l st.alike.serial (omega (arith, few, has_room p b l _ d.outcome))

  counted : records_in (entry p b l).outcome ≡ length o.records
  counted = ap records_in d.outcome

  accepts : IsAccepted l (entry p b l)
  accepts =
      let room = has_room p b l _ d.outcome in
      record {
        number = ap refusal_in d.outcome;
        few = omega (arith, counted, few);
        long = ap length d.out ∙ length_lay p.head.serial 0 o.records l (omega (arith, few, room));
        rest_stays = ap (λ (n : ℕ). drop (record_length * n) (entry p b l).out) counted ∙ ap (drop (16 * length o.records)) records_laid
            ∙ drop_at (entries_bytes (numbered m.written o.records)) _ (16 * length o.records) (entries_length m.written o.records)
            ∙ ap (λ (n : ℕ). drop (record_length * n) l) (sym counted);
        structure = formed_rules (view_of (entry p b l).pool) (entry_formed p f b l);
      }

-- ── Each call ──────────────────────────────────────────────────────────────────────────────────────────────────────────

judged : (p : Pool) (f : Formed (view_of p)) (m : D.Pool) (st : Stands (view_of p) m) (b l : List ℕ) (r : R.Result) → Meant p l (entry p b l) r
    → IsRefused p l (entry p b l) ⊎ IsAccepted l (entry p b l)
judged p f m st b l (R.Refused x) w = inl (refuses p l x (entry p b l) (w.refuses x refl))
judged p f m st b l (R.Accepted o) w = inr (accepts p f m st b l o (w.accepts o refl))

broken : (p : Pool) (b l : List ℕ) → keeps p ≡ false → Meant p l (entry p b l) (R.Refused (short_or_bad l))
broken p b l k = record {
  refuses = λ x e. let d : short_or_bad l ≡ x = cc in unkept p b l k ∙ ap (λ (y : Refusal). entered p l (Err y)) d;
  accepts = λ o e. let z : ◌≡◌ {A = ℕ} 0 1 = cc in absurd (omega arith);
}

pub demand_1 : Demand1
demand_1 p t b l = by_bool (keeps p)
    (λ k.
    let r = (keeps_exact p t).sound k in
    judged p (rules_formed (view_of p) r) (lists_of (view_of p)) (rules_stand (view_of p) r) b l _ (rules_meant p r b l))
    (λ k. inl (refuses p l (short_or_bad l) (entry p b l) (unkept p b l k)))

pub demand_2 : Demand2
unfolding when◌then◌else◌
demand_2 p t b l = record {
  structure_test = keeps_exact p t;
  answer = by_bool (keeps p) (λ k. rw k (rules_meant p ((keeps_exact p t).sound k) b l)) (λ k. rw k (broken p b l k));
}

-- ── All that calls lay down ────────────────────────────────────────────────────────────────────────────────────────────

module _ (p : Pool) (f : Formed (view_of p)) (m : D.Pool) (st : Stands (view_of p) m) (b l : List ℕ) where
  abbrev laid_at : List ℕ
  laid_at = take (record_length * records_in (entry p b l).outcome) (entry p b l).out

  one_laid : (r : R.Result) → Meant p l (entry p b l) r → laid_at ≡ entries_bytes (numbered m.written (after m r).records)
  unfolding entries_bytes numbered
  one_laid (R.Refused x) w = ap (λ (y : Entered). take (record_length * records_in y.outcome) y.out) (w.refuses x refl)
  one_laid (R.Accepted o) w =
      let d = w.accepts o refl in
      ap (λ (n : ℕ). take (record_length * n) (entry p b l).out) (counted p f m st b l o d) ∙ ap (take (16 * length o.records)) (records_laid p f m st b l o d)
      ∙ take_at (entries_bytes (numbered m.written o.records)) _ (16 * length o.records) (entries_length m.written o.records)

all_laid : (cs : List Lend) (p : Pool) (m : D.Pool) → Stands (view_of p) m → Formed (view_of p)
    → laid_by cs p ≡ entries_bytes (numbered m.written (run (calls cs) m).records)
unfolding laid_by run ◌>>◌ entries_bytes numbered
all_laid [] p m st f = refl
all_laid (c ∷ cs) p m st f =
    let r = R.step m (frame_of c.bytes) (length c.out) in
    let q = (entry p c.bytes c.out).pool in
    let w = entry_meant p m st f c.bytes c.out in
    let here = one_laid p f m st c.bytes c.out r w in
    let there = all_laid cs q (after m r).pool (entry_stands p m st f c.bytes c.out) (entry_formed p f c.bytes c.out) in
    let n : (after m r).pool.written ≡ m.written + length (after m r).records = step_written m (frame_of c.bytes) (length c.out) r (stepped m (frame_of c.bytes) (length c.out)) in
    ap (λ (x : List ℕ). x ++ laid_by cs q) here
    ∙ ap (λ (x : List ℕ). entries_bytes (numbered m.written (after m r).records) ++ x) (there ∙ ap (λ (k : ℕ). entries_bytes (numbered k (run (calls cs) (after m r).pool).records)) n)
    ∙ sym (entries_append (numbered m.written (after m r).records) _)
    ∙ ap entries_bytes (sym (numbered_append m.written (after m r).records (run (calls cs) (after m r).pool).records))

-- ── Any calls of a made pool ───────────────────────────────────────────────────────────────────────────────────────────

-- what holds of lists that a pool stands for holds of its own
placed_same : {q : SlotPool} {m n : D.Pool} {most : ℕ} {log : List Record} → Stands q m → Stands q n → Placed most log m → Placed most log n
placed_same a b c =
    record {
      balance = λ i. omega (arith, c.balance i, same_places a b i);
      once = c.once;
      open_ones_stand = λ i x y. omega (arith, c.open_ones_stand i x y, same_places a b i);
      stands_once = λ i x. omega (arith, c.stands_once i (omega (arith, x, same_places a b i)), same_places a b i);
      standing_was_created = λ i x. c.standing_was_created i (omega (arith, x, same_places a b i));
      standing_is_open = λ i x. c.standing_is_open i (omega (arith, x, same_places a b i));
      at_most = omega (arith, c.at_most, same_total a b);
    }

ordered_same : {q : SlotPool} {m n : D.Pool} {taken : List ℕ} {log : List Record} → Stands q m → Stands q n → InOrder taken log m → InOrder taken log n
ordered_same {log = log} a b c =
    record {
      in_order = c.in_order ∙ ap (λ (l : List Waiter). answered log ++ ids l) (same_waiting a b);
      accepted_rise = c.accepted_rise;
      answered_rise = c.answered_rise;
      answered_once = c.answered_once;
    }

pub kept : (o : Options) → in_range o ≡ true → (cs : List R.Call) (q : SlotPool) → Stands q (run cs (fresh o)).pool → Rules q → Kept o cs (lists_of q)
kept o h cs q st r = record {
  connections = placed_same st (rules_stand q r) (connections o (limits_of o h).minimum cs);
  hands_out_free = hands_out_free o;
  requests = ordered_same st (rules_stand q r) (requests o cs);
  in_time = log_in_time o cs;
  in_time_after = in_time o;
}

made_in_range : (asked : Options) → (making asked).outcome ≡ Ok 0 → in_range (with_defaults asked) ≡ true
made_in_range asked h = by_bool (in_range (with_defaults asked)) (λ k. k)
    (λ k. let e = ap (λ (w : Made). w.outcome) (making_refuses asked k) in let z : ◌≡◌ {A = ℕ} 0 1 = cc in absurd (omega arith))

pub demand_3_calls : Demand3Calls
demand_3_calls asked h cs =
    let o = with_defaults asked in
    let k = made_in_range asked h in
    let same : (making asked).pool ≡ fresh_pool o = ap (λ (w : Made). w.pool) (making_makes asked k) in
    let r = formed_rules (view_of (left cs (making asked).pool)) (made_runs asked k cs).formed in
    record {
      structure = r;
      kept = kept o k (calls cs) _ (made_runs asked k cs).pool r;
      log = ap (laid_by cs) same ∙ all_laid cs (fresh_pool o) (fresh o) (fresh_stands o k) (fresh_formed o k);
    }

-- ── Any calls of any pool value that keeps the rules ───────────────────────────────────────────────────────────────────

pub demand_3_any : Demand3Any
demand_3_any p t k cs =
    let f = rules_formed (view_of p) ((keeps_exact p t).sound k) in
    let r = formed_rules (view_of (left cs p)) (left_formed cs p f) in
    let st = rules_stand (view_of (left cs p)) r in
    record {
      structure = r;
      pool = (entries_run cs p (lists_of (view_of p)) (rules_stand (view_of p) ((keeps_exact p t).sound k)) f).pool;
      at_most = omega (arith, st.table.total, r.bounded);
      one_place = one_place st;
      in_time = in_time_from (lists_of (view_of (left cs p))) (calm _ (rules_reached (view_of (left cs p)) r));
    }
