-- The five wrong pools of the description, and one that serves twice: nothing that meets the contract of `step` is one of them.
use Rattle.std.specs.Prelude.{◌≡◌, refl, true, false, List, [], ◌∷◌, map, ℕ, ◌+◌, ◌≤◌, ◌<◌, length, get_or, replicate}
use Rattle.std.proofs.Common.{sym, ap, subst, ◌∙◌, true≢false, arith}
use Rattle.std.proofs.lemmas.List.{length-replicate}
use Rattle.definition.specs.Booleans.{by_bool}
use Rattle.definition.specs.Words.{when◌then◌else◌}
use Rattle.definition.specs.Pool as D
use Rattle.definition.specs.Pool.{fresh, in_range}
use Rattle.definition.specs.Records.{told}
use Rattle.definition.specs.declared.Record.{Record}
use Rattle.definition.specs.declared.Record.TheVariants.{PoolReady}
use Rattle.definition.specs.Steps.{Out, ◌>>◌, leave_lent, leave_pending, shelve, lend_out, create_pending_connection, create_many, close_perished, enter, queue, request, mark_as_ready, succeeded_for_pool, remove_perished, ensure_min_connections, maintenance, handle, can_service, establish, lend, take_available, check_out, serve_front, service, event}
use Rattle.definition.specs.Refusals as R
use Rattle.definition.specs.Refusals.{first, tests, outcome, after, run, enough_room}
use Rattle.definition.specs.Bytes.{serial_of, at4, at8, frame_of_fields, frame_of, record_bytes}
use Rattle.definition.specs.Cases.{frame, called}
use Rattle.definition.specs.declared.Options.{Options}
use Rattle.definition.specs.declared.Event.TheVariants.{CheckOut, MarkAsReady, FillPool}
use Rattle.definition.specs.declared.Frame.{Frame}
use Rattle.definition.specs.declared.Frame.TheVariants.{Good}
use Rattle.definition.specs.declared.PoolState.TheVariants.{Ready}
use Rattle.definition.specs.declared.Refusal.{Refusal}
use Rattle.slots.specs.Done.{lay}
use Rattle.records.specs.Laid.{laid}
use Rattle.std.specs.declared.result.Result.TheVariants.{Ok, Err}
use Rattle.refinement.specs.Stands.{Stands, Formed}
use Rattle.refinement.specs.Rules.{Rules, lists_of}
use Rattle.refinement.proofs.Rules.{rules_stand}
use Rattle.refinement.proofs.Formed.{fresh_stands, fresh_formed}
use Rattle.columns.specs.View.{view_of}
use Rattle.pool.specs.Making.{fresh_pool}
use Rattle.entry.specs.Entry.{Entered, keeps, entry}
use Rattle.entry.specs.Tested.{Typed, keeps_exact}
use Rattle.entry.specs.Meaning.{Done, entry_meant, entry_formed, Meant, entry_unkept, rules_meant, formed_typed, Lend, left, Ran, entries_run, counts_meant}
use Rattle.entry.specs.Meaning as M
use Rattle.promises.specs.OneWaiter.{answers_all, call_takes}
use Rattle.pool.specs.declared.Pool.{Pool}
use Rattle.pool.specs.declared.Counts.{Counts}

-- ── Two calls of a made pool ───────────────────────────────────────────────────────────────────────────────────────────

abbrev options : Options
options = record { maximum = 10; minimum = 0; connecting = 2; idle = 0 }

-- ready, at time 1; then request 1, at time 1
unfoldable ready : List ℕ
ready = frame 0x06000000 0 1 0

unfoldable asked : List ℕ
asked = frame 0x01000000 1 1 0

ready_frame : frame_of ready ≡ Good MarkAsReady 1
unfolding ready frame_of frame_of_fields at4 at8 when◌then◌else◌
ready_frame = refl

asked_frame : frame_of asked ≡ Good (CheckOut 1) 1
unfolding asked frame_of frame_of_fields at4 at8 when◌then◌else◌
asked_frame = refl

unfoldable room : List ℕ
room = replicate enough_room 0

room_long : length room ≡ enough_room
unfolding room
room_long = length-replicate {A = ℕ} enough_room 0

abbrev o1 : Out D.Pool
o1 = outcome (Good MarkAsReady 1) (fresh options)

abbrev o2 : Out D.Pool
o2 = outcome (Good (CheckOut 1) 1) o1.pool

step1 : R.step (fresh options) (Good MarkAsReady 1) enough_room ≡ R.Accepted o1
unfolding R.step tests first when◌then◌else◌
step1 = refl

-- the second is accepted too; there is one record, of kind 5; then there are two, and connection 1 is taken
record Calls : Type 0 where
  second : R.step o1.pool (Good (CheckOut 1) 1) enough_room ≡ R.Accepted o2
  one : o1.records ≡ PoolReady ∷ []
  ready : o1.pool.state ≡ Ready
  written : o1.pool.written ≡ 1
  first_id : o1.pool.next_id ≡ 1
  two : length o2.records ≡ 2
  second_id : o2.pool.next_id ≡ 2

calls : Calls
unfolding R.step tests first outcome event handle request queue mark_as_ready service can_service serve_front check_out take_available lend establish create_pending_connection told leave_lent leave_pending shelve lend_out enter ◌>>◌ when◌then◌else◌
calls = record { second = refl; one = refl; ready = refl; written = refl; first_id = refl; two = refl; second_id = refl }

kind_5 : (l : List ℕ) → get_or (lay 0 0 (PoolReady ∷ []) l) 0 0 ≡ 5
unfolding lay laid record_bytes
kind_5 l = refl

abbrev start : Pool
start = fresh_pool options

in_range_lem : in_range options ≡ true
unfolding in_range
in_range_lem = refl

starts : Formed (view_of start)
starts = fresh_formed options in_range_lem

done1 : Done start room (entry start ready room) o1
done1 = (entry_meant start (fresh options) (fresh_stands options in_range_lem) starts ready room).accepts o1
    (ap (λ (f : Frame). R.step (fresh options) f (length room)) ready_frame ∙ ap (R.step (fresh options) (Good MarkAsReady 1)) room_long ∙ step1)

abbrev next : Pool
next = (entry start ready room).pool

goes_on : Formed (view_of next)
goes_on = entry_formed start starts ready room

done2 : Done next room (entry next asked room) o2
done2 = (entry_meant next o1.pool done1.pool goes_on asked room).accepts o2
    (ap (λ (f : Frame). R.step o1.pool f (length room)) asked_frame ∙ ap (R.step o1.pool (Good (CheckOut 1) 1)) room_long ∙ calls.second)

-- ── Two wait, and two are available ────────────────────────────────────────────────────────────────────────────────────

-- at most two connections, and no fewer
abbrev two : Options
two = record { maximum = 2; minimum = 2; connecting = 2; idle = 0 }

-- Maintenance makes both, in background, so whoever asks has to wait: two requests that warm the pool, then two plain ones. As each
-- connection is opened a warming request is served, and takes none.
unfoldable busy_calls : List (List ℕ)
busy_calls =
    ready ∷ frame 0x0a000000 0 1 0 ∷
    frame 0x02000000 1 1 0 ∷ frame 0x02000000 2 1 0 ∷ frame 0x01000000 3 1 0 ∷ frame 0x01000000 4 1 0 ∷
    frame 0x08000000 1 1 1 ∷ frame 0x08000000 2 1 1 ∷ []

-- a fill, at the same time
unfoldable pub fill : List ℕ
fill = frame 0x0b000000 0 1 0

fill_frame : frame_of fill ≡ Good FillPool 1
unfolding fill frame_of frame_of_fields at4 at8 when◌then◌else◌
fill_frame = refl

abbrev busy_lists : D.Pool
busy_lists = (run (map called busy_calls) (fresh two)).pool

record Busy (m : D.Pool) : Type 0 where
  ready : m.state ≡ Ready
  available : length m.available ≡ 2
  waiting : length m.waiting ≡ 2
  fills : R.step m (Good FillPool 1) enough_room ≡ R.Accepted (outcome (Good FillPool 1) m)

busy_lists_lem : Busy busy_lists
unfolding busy_calls ready run R.step tests first outcome frame_of frame_of_fields at4 at8 event handle request queue mark_as_ready succeeded_for_pool maintenance remove_perished close_perished ensure_min_connections create_many service can_service serve_front check_out take_available lend establish create_pending_connection told leave_lent leave_pending shelve lend_out enter ◌>>◌ when◌then◌else◌
busy_lists_lem = record { ready = refl; available = refl; waiting = refl; fills = refl }

abbrev lends : List (List ℕ) → List Lend
lends = map (λ b. record { bytes = b; out = room })

lends_called : (bs : List (List ℕ)) → M.calls (lends bs) ≡ map called bs
lends_called [] = refl
lends_called (b ∷ bs) = rw (room_long, lends_called bs)

two_in_range : in_range two ≡ true
unfolding in_range
two_in_range = refl

abbrev busy : Pool
busy = left (lends busy_calls) (fresh_pool two)

busy_ran : Ran (lends busy_calls) (fresh_pool two) (fresh two)
busy_ran = entries_run (lends busy_calls) (fresh_pool two) (fresh two) (fresh_stands two two_in_range) (fresh_formed two two_in_range)

busy_stands : Stands (view_of busy) busy_lists
busy_stands = subst (λ (cs : List R.Call). Stands (view_of busy) (run cs (fresh two)).pool) (lends_called busy_calls) busy_ran.pool

busy_filled : Done busy room (entry busy fill room) (outcome (Good FillPool 1) busy_lists)
busy_filled = (entry_meant busy busy_lists busy_stands busy_ran.formed fill room).accepts _
    (ap (λ (f : Frame). R.step busy_lists f (length room)) fill_frame ∙ ap (R.step busy_lists (Good FillPool 1)) room_long ∙ busy_lists_lem.fills)

-- ── A call takes one waiter at most ────────────────────────────────────────────────────────────────────────────────────

-- as many wait as in the lists that are meant
waiting_meant : (p : Pool) (m : D.Pool) → Stands (view_of p) m → (l : List ℕ) (w : Entered) (r : R.Result) → Meant p l w r
    → w.pool.head.waiting_count ≡ length (after m r).pool.waiting
waiting_meant p m st l w (R.Refused x) k = ap (λ (v : Entered). v.pool.head.waiting_count) (k.refuses x refl) ∙ ap (λ (c : Counts). c.waiting) (counts_meant p m st)
waiting_meant p m st l w (R.Accepted o) k = ap (λ (c : Counts). c.waiting) (counts_meant w.pool o.pool (k.accepts o refl).pool)

entry_takes : (p : Pool) → Typed p → (b l : List ℕ) → answers_all (frame_of b) ≡ false
    → p.head.waiting_count ≤ (entry p b l).pool.head.waiting_count + 1
entry_takes p t b l f = by_bool (keeps p) (λ k. kept ((keeps_exact p t).sound k)) broken
  where
    kept : Rules (view_of p) → p.head.waiting_count ≤ (entry p b l).pool.head.waiting_count + 1
    kept r =
        let m = lists_of (view_of p) in
        let st = rules_stand (view_of p) r in
        let a : p.head.waiting_count ≡ length m.waiting = ap (λ (c : Counts). c.waiting) (counts_meant p m st) in
        let z = waiting_meant p m st l (entry p b l) (R.step m (frame_of b) (length l)) (rules_meant p r b l) in
        let one = call_takes m (frame_of b) (length l) f in
        omega (arith, a, z, one)

    broken : keeps p ≡ false → p.head.waiting_count ≤ (entry p b l).pool.head.waiting_count + 1
    broken k =
        let e : (entry p b l).pool ≡ p = ap (λ (w : Entered). w.pool) (entry_unkept p t (λ r. true≢false (sym ((keeps_exact p t).complete r) ∙ k)) b l) in
        rw e (omega arith)

-- ── What meets the contract ────────────────────────────────────────────────────────────────────────────────────────────

abbrev pub Calling : Type 0
Calling = Pool → (bytes : List ℕ) → (out : List ℕ) → Entered

-- the contract of `step`, of any function on the pool values that there are
abbrev pub Meets : Calling → Type 0
Meets e = (p : Pool) → Typed p → (b l : List ℕ) → e p b l ≡ entry p b l

module _ (e : Calling) (h : Meets e) where
  first_call : e start ready room ≡ entry start ready room
  first_call = h start (formed_typed start starts) ready room

  second_call : e next asked room ≡ entry next asked room
  second_call = h next (formed_typed next goes_on) asked room

  says_one : (e start ready room).outcome ≡ Ok 1
  says_one = ap (λ (w : Entered). w.outcome) first_call ∙ done1.outcome ∙ ap (λ (rs : List Record). Ok (length rs)) calls.one

  says_two : (e next asked room).outcome ≡ Ok 2
  says_two = ap (λ (w : Entered). w.outcome) second_call ∙ done2.outcome ∙ ap Ok calls.two

  -- not one that refuses everything
  pub not_refusing : ((p : Pool) (b l : List ℕ) → (r : Refusal) × ((e p b l).outcome ≡ Err r)) → ⊥
  not_refusing n =
      let r = n start ready room in
      let a : (e start ready room).outcome ≡ Err r.0 = r.1 in
      let b = says_one in
      let z : ◌≡◌ {A = ℕ} 0 1 = cc in omega arith

  -- nor one that answers 17 always
  pub not_17_always : ((p : Pool) (b l : List ℕ) (n : ℕ) → (e p b l).outcome ≡ Ok n → get_or (e p b l).out 0 0 ≡ 17) → ⊥
  not_17_always n =
      let a : get_or (e start ready room).out 0 0 ≡ 5 =
      ap (λ (w : Entered). get_or w.out 0 0) first_call
      ∙ ap (λ (l : List ℕ). get_or l 0 0) done1.out
      ∙ ap (λ (rs : List Record). get_or (lay 0 0 rs room) 0 0) calls.one
      ∙ kind_5 room in
      omega (arith, a, n start ready room 1 says_one)

  -- nor one that stores nothing
  pub not_storing_nothing : ((p : Pool) (b l : List ℕ) → (e p b l).pool ≡ p) → ⊥
  not_storing_nothing n =
      let a : (view_of start).state ≡ Ready =
      ap (λ (p : Pool). (view_of p).state) (sym (n start ready room) ∙ ap (λ (w : Entered). w.pool) first_call)
      ∙ done1.pool.alike.state
      ∙ calls.ready in
      let z : ◌≡◌ {A = ℕ} 0 1 = cc in omega arith

  -- nor one that is right once, and afterwards does no more than count its records
  pub not_numbering_only :
      ((p : Pool) (b l : List ℕ) → 0 < p.head.serial → (e p b l).pool.head.next_connection_id ≡ p.head.next_connection_id) → ⊥
  not_numbering_only n =
      let s : next.head.serial ≡ 1 = done1.pool.alike.serial ∙ ap serial_of calls.written in
      let a : next.head.next_connection_id ≡ 1 = done1.pool.alike.next_id ∙ calls.first_id in
      let b : (e next asked room).pool.head.next_connection_id ≡ 2 =
      ap (λ (w : Entered). w.pool.head.next_connection_id) second_call ∙ done2.pool.alike.next_id ∙ calls.second_id in
      omega (arith, a, b, n next asked room (omega (arith, s)))

  -- nor one that invents its count
  pub not_inventing : (c : ℕ) → ((p : Pool) (b l : List ℕ) (n : ℕ) → (e p b l).outcome ≡ Ok n → n ≡ c) → ⊥
  not_inventing c n = omega (arith, n start ready room 1 says_one, n next asked room 2 says_two)

  -- one waiter at most is taken out of any pool value by any bytes, save by a clear or a close;
  pub serves_once : (p : Pool) → Typed p → (b l : List ℕ) → answers_all (frame_of b) ≡ false → p.head.waiting_count ≤ (e p b l).pool.head.waiting_count + 1
  serves_once p t b l f = rw (h p t b l) (entry_takes p t b l f)

  -- so it is not one that serves twice: a fill, where two wait and two are available, would take both from the queue
  pub not_serving_twice :
      ((p : Pool) (l : List ℕ) (n : ℕ) → p.head.status.state ≡ Ready → 2 ≤ p.head.available_count → 2 ≤ p.head.waiting_count
      → (e p fill l).outcome ≡ Ok n → (e p fill l).pool.head.waiting_count + 2 ≤ p.head.waiting_count) → ⊥
  not_serving_twice n =
      let t = formed_typed busy busy_ran.formed in
      let c = counts_meant busy busy_lists busy_stands in
      let a : busy.head.available_count ≡ 2 = ap (λ (c : Counts). c.available) c ∙ busy_lists_lem.available in
      let w : busy.head.waiting_count ≡ 2 = ap (λ (c : Counts). c.waiting) c ∙ busy_lists_lem.waiting in
      let o = ap (λ (w : Entered). w.outcome) (h busy t fill room) ∙ busy_filled.outcome in
      omega (arith, serves_once busy t fill room (ap answers_all fill_frame), n busy room _ (busy_stands.alike.state ∙ busy_lists_lem.ready) (omega (arith, a)) (omega (arith, w)) o)
