-- What every reached pool is: formed. A fresh pool is formed, a call keeps it formed, and a run of calls answers as the
-- definition's run does.
use Rattle.std.specs.Prelude.{◌≡◌, refl, Bool, true, false, not, ◌&&◌, ◌||◌, List, [], ◌∷◌, ℕ, zero, suc, ◌≤◌, length, get_or, replicate}
use Rattle.std.proofs.Common.{ap, sym, subst, ◌∙◌, true≢false, arith, length-append, ltb-false}
use Rattle.std.proofs.lemmas.Bool.{false≢true}
use Rattle.std.specs.Prelude.{Option, None as none, Some as some}
use Rattle.std.proofs.lemmas.List.{length-replicate}
use Rattle.definition.specs.Limits.{Limits, limits_of}
use Rattle.definition.specs.Booleans.{by_bool}
use Rattle.definition.specs.Words.{when◌then◌else◌, ◌<?◌, ◌=?◌}
use Rattle.definition.specs.Pool as P
use Rattle.definition.specs.Pool.{queue_length, Pool, fresh, in_range, slot_count, is_closed, total}
use Rattle.definition.specs.Steps as D
use Rattle.definition.specs.Steps.{◌>>◌, kind_no, serviced}
use Rattle.definition.specs.Refusals as R
use Rattle.definition.specs.Refusals.{first, enough_room, last_next_id, taken_after_close, after, run, most_next_id}
use Rattle.definition.specs.declared.Options.{Options}
use Rattle.definition.specs.declared.Event.{Event}
use Rattle.definition.specs.declared.Event.TheVariants.{CheckOut, WarmPool, Abandon, CheckIn, Clear, MarkAsReady, Succeeded, SucceededForPool, Failed, Maintenance, FillPool, Pin, ReturnToPinner, TakeFromPinner, Close}
use Rattle.definition.specs.declared.Frame.{Frame}
use Rattle.definition.specs.declared.Frame.TheVariants.{Good, Bad}
use Rattle.definition.specs.declared.Refusal.{Refusal}
use Rattle.definition.specs.declared.Refusal.TheVariants.{OutputShort}
use Rattle.promises.specs.Calls.{Named, kind_named, stepped}
use Rattle.promises.proofs.Bound.{handle_fits, event_fits}
use Rattle.promises.specs.Reached.{Reached}
use Rattle.promises.proofs.Reached.{step_reached, fresh_reached}
use Rattle.slots.specs.View.{SlotPool, Slot, pool_of, vacant}
use Rattle.slots.specs.Parts.{slots_blank}
use Rattle.slots.specs.declared.Head.{Head}
use Rattle.slots.specs.View as View
use Rattle.slots.specs.Slots as S
use Rattle.slots.specs.Needs.{taken}
use Rattle.slots.specs.Call as C
use Rattle.slots.specs.Call.{World, world, target}
use Rattle.std.specs.declared.result.Result.TheVariants.{Ok, Err}
use Rattle.refinement.specs.Table.{look_none, lookup, one_zero}
use Rattle.refinement.specs.Agree.{Class, Agrees, only, only_none}
use Rattle.refinement.specs.Mirror.{is_lent, is_pending}
use Rattle.refinement.specs.Alike.{fresh_slots, fresh_head}
use Rattle.refinement.proofs.Alike.{alike_fresh}
use Rattle.refinement.specs.Sites.{Spare, Dated, Sited, handle_sites, serviced_sites}
use Rattle.refinement.specs.Stands.{Stands, Formed}
use Rattle.refinement.proofs.Events.{fit_clock, handle_same, event_same}
use Rattle.refinement.specs.Tests.{Passed}
use Rattle.refinement.proofs.Tests.{tests_passed, tests_same, kind_passed}
use Rattle.refinement.specs.Leaves.{news_most, event_leaves, closed_leaves, close_leaves}
use Rattle.refinement.specs.Call.{Refines}
use Rattle.refinement.proofs.Call.{call_refines, refines_stands, clock_stands}
use Rattle.refinement.specs.Formed.{Lent, ran, wrote, writes, Answers, Runs}

-- ── A fresh pool ───────────────────────────────────────────────────────────────────────────────────────────────────────

-- a head over columns all of 0
abbrev pub over_blank : Head → SlotPool
over_blank h =
    let blank = replicate slot_count 0 in
    pool_of h blank blank blank blank blank (replicate queue_length 0)

pub fresh_parts : (o : Options) → over_blank (fresh_head o) ≡ fresh_slots o
fresh_parts o = rw slots_blank

pub zeros : (n j : ℕ) → get_or {A = ℕ} (replicate n 0) j 0 ≡ 0
zeros zero j = refl
zeros (suc n) zero = refl
zeros (suc n) (suc j) = zeros n j

vacants : (n j : ℕ) → get_or (replicate n vacant) j vacant ≡ vacant
vacants zero j = refl
vacants (suc n) zero = refl
vacants (suc n) (suc j) = vacants n j

untaken : (n : ℕ) → taken (replicate n 0) ≡ 0
unfolding taken
untaken zero = refl
untaken (suc n) = omega (arith, one_zero, untaken n)

nobody : (t : Class) (n : ℕ) (ss : List Slot) → Agrees t (replicate n 0) ss []
unfolding lookup
nobody t n ss = record { finds = λ k z. ap (only t) (look_none k (replicate n 0) ss (λ j a e. omega (arith, zeros n j))) ∙ only_none t; named = refl; once = tt }

pub fresh_stands : (o : Options) → in_range o ≡ true → Stands (fresh_slots o) (fresh o)
fresh_stands o h = record {
  alike = alike_fresh o (limits_of o h) (record { room = length-replicate {A = ℕ} queue_length 0; fits = omega arith; waits = refl; rest = λ j a. zeros queue_length j; rises = tt });
  table = record {
    mirror = record {
      long_ids = length-replicate {A = ℕ} slot_count 0;
      long_slots = length-replicate slot_count vacant;
      unique = λ i j a b z e. absurd (omega (arith, zeros slot_count i));
      below = λ j. omega (arith, zeros slot_count j);
      blank = λ j e. vacants slot_count j;
      used = λ j z. absurd (omega (arith, zeros slot_count j));
      listed = tt;
      distinct = tt;
      available = refl;
      lent = nobody is_lent slot_count (replicate slot_count vacant);
      pending = nobody is_pending slot_count (replicate slot_count vacant);
    };
    room = length-replicate {A = ℕ} slot_count 0;
    fits = omega arith;
    rest = λ j a. zeros slot_count j;
    total = refl;
    pendings = refl;
    holds = sym (untaken slot_count);
  };
}

fresh_sited : (o : Options) → Sited (fresh_slots o)
fresh_sited o = record {
  spare = λ j a. zeros slot_count j;
  dated = λ j. subst (Dated 0 0) (sym (vacants slot_count j)) (omega arith, omega arith);
}

pub fresh_formed : (o : Options) → in_range o ≡ true → Formed (fresh_slots o)
fresh_formed o h = record {
  lists = fresh o;
  stands = fresh_stands o h;
  reached = fresh_reached o (limits_of o h).minimum;
  sited = fresh_sited o;
  numbers = omega arith;
}

-- ── A call ─────────────────────────────────────────────────────────────────────────────────────────────────────────────

spent : (c k n g : Bool) → (not c && not k && n || g) ≡ false → c ≡ false → k ≡ false → n ≡ false
spent true k n g h e q = absurd (true≢false e)
spent false true n g h e q = absurd (true≢false q)
spent false false true g h e q = absurd (true≢false h)
spent false false false g h e q = refl

-- an event of a pool that is open, and that does not close it, finds ids left
pub ids_left : (p : SlotPool) (e : Event) (now : ℕ) → Passed p e now → is_closed p.state ≡ false → (kind_no e =? 15) ≡ false → p.next_id ≤ last_next_id
ids_left p e now h c k = ltb-false last_next_id p.next_id (spent (is_closed p.state) (kind_no e =? 15) (last_next_id <? p.next_id) _ h.numbers c k)

-- what a closed pool takes
pub closed_takes : (p : SlotPool) (e : Event) (now : ℕ) → Passed p e now → is_closed p.state ≡ true → taken_after_close e ≡ true
closed_takes p e now h c = go (is_closed p.state) (taken_after_close e) h.taken c
  where
    go : (a b : Bool) → (a && not b) ≡ false → a ≡ true → b ≡ true
    go true true h e = refl
    go true false h e = absurd (true≢false h)
    go false b h e = absurd (false≢true e)

is_close : (e : Event) → (kind_no e =? 15) ≡ true → e ≡ Close
is_close (CheckOut n) h = absurd (false≢true h)
is_close (WarmPool n) h = absurd (false≢true h)
is_close (Abandon n) h = absurd (false≢true h)
is_close (CheckIn n errored executing let_go) h = absurd (false≢true h)
is_close (Clear timeout cause) h = absurd (false≢true h)
is_close MarkAsReady h = absurd (false≢true h)
is_close (Succeeded n) h = absurd (false≢true h)
is_close (SucceededForPool n opened) h = absurd (false≢true h)
is_close (Failed n) h = absurd (false≢true h)
is_close Maintenance h = absurd (false≢true h)
is_close FillPool h = absurd (false≢true h)
is_close (Pin n) h = absurd (false≢true h)
is_close (ReturnToPinner n) h = absurd (false≢true h)
is_close (TakeFromPinner n) h = absurd (false≢true h)
is_close Close h = refl

pub event_numbers : (p : SlotPool) (e : Event) (now i : ℕ) → Limits p.options → Passed p e now → p.next_id ≤ most_next_id → (S.event e i (View.with_clock p now)).pool.next_id ≤ most_next_id
event_numbers p e now i lim h n =
    let q = View.with_clock p now in
    by_bool (is_closed p.state)
    (λ c. omega (arith, (closed_leaves e i q c (closed_takes p e now h c)).next))
    (λ c. by_bool (kind_no e =? 15)
    (λ k. subst (λ (x : Event). (S.event x i q).pool.next_id ≤ most_next_id) (sym (is_close e k)) (omega (arith, (close_leaves i q).next)))
    (λ k. omega (arith, (event_leaves e i q).next, news_most e q, ids_left p e now h c k)))

-- a refused call takes none
call_numbers : {m : Pool} (p : SlotPool) (l : List ℕ) (f : Frame) → Stands p m → p.next_id ≤ most_next_id → (C.call p l f).pool.next_id ≤ most_next_id
unfolding C.call C.step C.verdict when◌then◌else◌
call_numbers p l Bad st n = n
call_numbers p l (Good e now) st n = go (length l <? enough_room) (first (C.tests p e now)) refl
  where
    go : (b : Bool) (x : Option Refusal) → first (C.tests p e now) ≡ x → (when b then world p l (Err OutputShort) else C.judged p l e now (C.or_accept (target p e) x)).pool.next_id ≤ most_next_id
    go true x h = n
    go false none h = event_numbers p e now (target p e) st.alike.limits (tests_passed st e now h) n
    go false (some r) h = n

-- as many slots are taken as the lists have connections
taken_total : {p : SlotPool} {m : Pool} → Stands p m → taken p.ids ≡ total m
taken_total st = sym st.table.holds ∙ st.table.total

-- an event of a pool whose slots are sited: after either stage no more than the maximum are taken
event_sited : (p : SlotPool) (m : Pool) (e : Event) (now : ℕ) → Stands p m → Reached m → Sited p → Passed p e now → Named e (P.with_clock m now)
    → Sited (S.event e (target p e) (View.with_clock p now)).pool
unfolding S.event ◌>>◌
event_sited p m e now st g s h named =
    let i = target p e in
    let q = View.with_clock p now in
    let n = P.with_clock m now in
    let f = fit_clock now p i e h.fit in
    let sq = clock_stands now st in
    let own = (handle_same e i q n sq f).stands in
    let all = (event_same e i q n sq f).stands in
    let most : m.options.maximum ≡ p.options.maximum = ap (λ (o : Options). o.maximum) (sym st.alike.options) in
    let a = handle_sites {m = p.options.maximum} e i q h.timely in
    let b = serviced_sites {m = p.options.maximum} (serviced e) (S.handle e i q).pool in
    let fits : total (D.handle e n).pool ≤ m.options.maximum = handle_fits e n m.options.maximum named g.ordered g.fits in
    let spare : Spare p.options.maximum (S.handle e i q).pool.ids =
    a.spares s.spare own.table.mirror.long_ids (omega (arith, taken_total own, fits, most)) in
    let options = (event_leaves e i q).options in
    record {
      spare = subst (λ (o : Options). Spare o.maximum (S.event e i q).pool.ids) (sym options)
          (b.spares spare all.table.mirror.long_ids (omega (arith, taken_total all, event_fits e n named g.ordered g.fits, most)));
      dated = b.dates (a.dates (λ j. ((s.dated j).0, omega (arith, (s.dated j).1, h.clock))));
    }

-- a refused call leaves them as they are
call_sited : (p : SlotPool) (m : Pool) (l : List ℕ) (f : Frame) → Stands p m → Reached m → Sited p → Sited (C.call p l f).pool
unfolding C.call C.step C.verdict when◌then◌else◌
call_sited p m l Bad st g s = s
call_sited p m l (Good e now) st g s = go (length l <? enough_room) (first (C.tests p e now)) refl
  where
    go : (b : Bool) (x : Option Refusal) → first (C.tests p e now) ≡ x
        → Sited (when b then world p l (Err OutputShort) else C.judged p l e now (C.or_accept (target p e) x)).pool
    go true x h = s
    go false none h =
        let done = event_sited p m e now st g s (tests_passed st e now h) (kind_named m e now (kind_passed m e now (sym (tests_same st e now) ∙ h))) in
        record { spare = done.spare; dated = done.dated }
    go false (some r) h = s

pub call_formed : (p : SlotPool) (l : List ℕ) (f : Frame) → Formed p → Formed (C.call p l f).pool
call_formed p l f h = record {
  lists = (after h.lists (R.step h.lists f (length l))).pool;
  stands = refines_stands (R.step h.lists f (length l)) h.stands (call_refines p h.lists h.stands f l);
  reached = step_reached h.lists f (length l) _ (stepped h.lists f (length l)) h.reached;
  sited = call_sited p h.lists l f h.stands h.reached h.sited;
  numbers = call_numbers p l f h.stands h.numbers;
}

one_wrote : (p : SlotPool) (m : Pool) (l : List ℕ) (w : World) (r : R.Result) → Refines p l w r → wrote w.outcome ≡ length (after m r).records
one_wrote p m l w (R.Refused x) h = ap (λ (v : World). wrote v.outcome) (h.refuses x refl)
one_wrote p m l w (R.Accepted o) h = ap wrote (h.accepts o refl).outcome

pub run_refines : (cs : List Lent) (p : SlotPool) (m : Pool) → Stands p m → Runs cs p m
unfolding ran writes Answers run ◌>>◌
run_refines [] p m st = record { answers = tt; pool = st; records = refl }
run_refines (c ∷ cs) p m st =
    let r = R.step m c.frame (length c.out) in
    let one = call_refines p m st c.frame c.out in
    let more = run_refines cs (C.call p c.out c.frame).pool (after m r).pool (refines_stands r st one) in
    record {
      answers = (one, more.answers);
      pool = more.pool;
      records = rw length-append (omega (arith, one_wrote p m c.out (C.call p c.out c.frame) r one, more.records));
    }

-- and it keeps a pool formed
pub ran_formed : (cs : List Lent) (p : SlotPool) → Formed p → Formed (ran cs p)
unfolding ran
ran_formed [] p h = h
ran_formed (c ∷ cs) p h = ran_formed cs (C.call p c.out c.frame).pool (call_formed p c.out c.frame h)

-- from the making on
pub fresh_runs : (o : Options) → in_range o ≡ true → (cs : List Lent) → Runs cs (fresh_slots o) (fresh o)
fresh_runs o h cs = run_refines cs (fresh_slots o) (fresh o) (fresh_stands o h)
