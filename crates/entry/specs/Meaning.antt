-- What the entry points mean: on a pool that keeps the rules a call is the definition's step, and any calls of a made pool are
-- the definition's run; a pool that breaks a rule is refused; a making is the definition's; counts are lengths.
use Rattle.std.specs.Prelude.{◌≡◌, refl, true, false, List, [], ◌∷◌, map, ℕ, ◌+◌, length, take}
use Rattle.std.proofs.Common.{sym, ap, subst, ◌∙◌, arith, length-take-le, ltb-true, ltb-false}
use Rattle.std.specs.Prelude.{Option, None as none, Some as some}
use Rattle.std.proofs.lemmas.List.{length-map}
use Rattle.definition.specs.Booleans.{by_bool, by_eq}
use Rattle.definition.specs.Words.{when◌then◌else◌, ◌<?◌}
use Rattle.definition.specs.Pool as D
use Rattle.definition.specs.Pool.{fresh, with_defaults, in_range}
use Rattle.definition.specs.Steps.{Out}
use Rattle.definition.specs.Refusals as R
use Rattle.definition.specs.Refusals.{enough_room, after, run, make}
use Rattle.definition.specs.Bytes.{frame_of}
use Rattle.definition.specs.declared.Options.{Options}
use Rattle.definition.specs.declared.Refusal.{Refusal}
use Rattle.definition.specs.declared.Refusal.TheVariants.{OutputShort, Malformed, OptionsOutOfRange}
use Rattle.slots.specs.View.{SlotPool, Slot, waiter_of}
use Rattle.slots.specs.View as View
use Rattle.slots.specs.Done.{lay}
use Rattle.slots.specs.Call.{call}
use Rattle.slots.specs.Outcome.{Outcome}
use Rattle.std.specs.declared.result.Result.TheVariants.{Ok, Err}
use Rattle.refinement.specs.Stands.{Stands, Formed}
use Rattle.refinement.specs.Rules.{Rules, lists_of}
use Rattle.refinement.proofs.Rules.{rules_stand, rules_formed, formed_rules}
use Rattle.refinement.proofs.Transit.{counted}
use Rattle.refinement.proofs.Call.{call_refines, refines_stands}
use Rattle.refinement.specs.Alike.{fresh_slots}
use Rattle.refinement.specs.Formed.{Lent, as_call, ran, wrote, writes}
use Rattle.refinement.proofs.Formed.{fresh_stands, fresh_formed, call_formed, run_refines}
use Rattle.event.specs.Laws.{call_short}
use Rattle.rules.specs.Tests.{hangs_together, keeps_rules}
use Rattle.columns.specs.View.{id_of, view_of, pool_from}
use Rattle.pool.specs.Making.{fresh_pool, no_pool, not_made, making, making_from, counts_of}
use Rattle.entry.specs.Entry.{Entered, entered, records_in, keeps, back, entry}
use Rattle.columns.specs.Laws.{back_view, view_back}
use Rattle.entry.specs.Tested.{Typed, keeps_exact, entry_short, entry_kept}
use Rattle.pool.specs.declared.Pool.{Pool}
use Rattle.pool.specs.declared.Made.{Made}
use Rattle.pool.specs.declared.Counts.{Counts}

-- ── A pool that breaks a rule ──────────────────────────────────────────────────────────────────────────────────────────

-- 1 comes before 2, and nothing is changed
abbrev pub short_or_bad : List ℕ → Refusal
short_or_bad l = when length l <? enough_room then OutputShort else Malformed

pub unkept : (p : Pool) (b l : List ℕ) → keeps p ≡ false → entry p b l ≡ entered p l (Err (short_or_bad l))
unfolding entry when◌then◌else◌
unkept p b l k = by_bool (length l <? enough_room) (λ h. rw h) (λ h. rw (h, k))

pub entry_unkept : (p : Pool) → Typed p → (Rules (view_of p) → ⊥) → (b l : List ℕ) → entry p b l ≡ entered p l (Err (short_or_bad l))
entry_unkept p t n b l = by_bool (keeps p) (λ k. absurd (n ((keeps_exact p t).sound k))) (unkept p b l)

-- ── A pool that keeps the rules ────────────────────────────────────────────────────────────────────────────────────────

pub formed_typed : (p : Pool) → Formed (view_of p) → Typed p
formed_typed p f =
    let r = formed_rules (view_of p) f in
    record { slots = sym (length-map p.slots id_of) ∙ r.columns.ids; available = r.columns.available; waiters = r.columns.waiters; serial = r.serial }

pub formed_keeps : (p : Pool) → Formed (view_of p) → keeps p ≡ true
formed_keeps p f = (keeps_exact p (formed_typed p f)).complete (formed_rules (view_of p) f)

-- its view is that of its pool value
formed_back : (v : SlotPool) → Formed v → view_of (pool_from v) ≡ v
formed_back v f =
    let r = formed_rules v f in
    view_back v (r.columns.slots ∙ sym r.columns.ids) (λ j. by_eq (View.id_at v j) 0
    (λ e. let z : (View.slot_at v j).state ≡ 0 = ap (λ (s : Slot). s.state) (r.blank j e) in omega (arith, z))
    (λ n. (r.used j (omega (arith, n))).1))

module _ (p : Pool) (f : Formed (view_of p)) (b l : List ℕ) where
  -- a call of it is the call of its view
  pub entry_back : entry p b l ≡ back (call (view_of p) l (frame_of b))
  entry_back = by_bool (length l <? enough_room)
      (λ h. let s = ltb-true (length l) enough_room h in
      entry_short p b l s ∙ ap (λ (q : Pool). entered q l (Err OutputShort)) (sym (back_view p)) ∙ ap back (sym (call_short (view_of p) l (frame_of b) s)))
      (λ h. entry_kept p b l (ltb-false (length l) enough_room h) (formed_keeps p f))

  pub entry_view : view_of (entry p b l).pool ≡ (call (view_of p) l (frame_of b)).pool
  entry_view = ap (λ (w : Entered). view_of w.pool) entry_back ∙ formed_back (call (view_of p) l (frame_of b)).pool (call_formed (view_of p) l (frame_of b) f)

  pub entry_formed : Formed (view_of (entry p b l).pool)
  entry_formed = subst Formed (sym entry_view) (call_formed (view_of p) l (frame_of b) f)

-- what a call to p with the output l leaves, where the definition accepts with the outcome o
pub record Done (p : Pool) (l : List ℕ) (w : Entered) (o : Out D.Pool) : Type 0 where
  pub pool : Stands (view_of w.pool) o.pool
  pub out : w.out ≡ lay p.head.serial 0 o.records l
  pub outcome : w.outcome ≡ Ok (length o.records)

-- the definition's answer: the same refusal, and nothing is changed; or the same records, and the pool of the lists
pub record Meant (p : Pool) (l : List ℕ) (w : Entered) (r : R.Result) : Type 0 where
  pub refuses : (x : Refusal) → r ≡ R.Refused x → w ≡ entered p l (Err x)
  pub accepts : (o : Out D.Pool) → r ≡ R.Accepted o → Done p l w o

pub entry_meant : (p : Pool) (m : D.Pool) → Stands (view_of p) m → Formed (view_of p) → (b l : List ℕ)
    → Meant p l (entry p b l) (R.step m (frame_of b) (length l))
entry_meant p m st f b l =
    let one = call_refines (view_of p) m st (frame_of b) l in
    let e = entry_back p f b l in
    record {
      refuses = λ x h. e ∙ ap back (one.refuses x h) ∙ ap (λ (q : Pool). entered q l (Err x)) (back_view p);
      accepts = λ o h.
          let t = one.accepts o h in
          record {
            pool = subst (λ (v : SlotPool). Stands v o.pool) (sym (entry_view p f b l)) t.pool;
            out = ap (λ (w : Entered). w.out) e ∙ t.out;
            outcome = ap (λ (w : Entered). w.outcome) e ∙ t.outcome;
          };
    }

-- and the pool that is left stands for the one that the definition leaves
pub entry_stands : (p : Pool) (m : D.Pool) → Stands (view_of p) m → Formed (view_of p) → (b l : List ℕ)
    → Stands (view_of (entry p b l).pool) (after m (R.step m (frame_of b) (length l))).pool
entry_stands p m st f b l =
    let r = R.step m (frame_of b) (length l) in
    subst (λ (v : SlotPool). Stands v (after m r).pool) (sym (entry_view p f b l)) (refines_stands r st (call_refines (view_of p) m st (frame_of b) l))

-- where the rules hold, on the lists that the pool stands for
pub rules_meant : (p : Pool) → Rules (view_of p) → (b l : List ℕ) → Meant p l (entry p b l) (R.step (lists_of (view_of p)) (frame_of b) (length l))
rules_meant p r b l = entry_meant p (lists_of (view_of p)) (rules_stand (view_of p) r) (rules_formed (view_of p) r) b l

-- what the contract allows is one result: pool, output and answer
pub determined : {p q : Pool} {l k : List ℕ} {o o' : Outcome} (w : Entered) → entered p l o ≡ w → entered q k o' ≡ w → (p ≡ q) × (l ≡ k) × (o ≡ o')
determined w a b =
    let e = a ∙ sym b in (ap (λ (x : Entered). x.pool) e, ap (λ (x : Entered). x.out) e, ap (λ (x : Entered). x.outcome) e)

-- ── Calls, one after the other ─────────────────────────────────────────────────────────────────────────────────────────

-- the bytes of a frame, and the output that is lent for its records
pub record Lend : Type 0 where
  pub bytes : List ℕ
  pub out : List ℕ

abbrev pub read : Lend → Lent
read c = record { frame = frame_of c.bytes; out = c.out }

abbrev pub calls : List Lend → List R.Call
calls cs = map as_call (map read cs)

-- the pool that they leave
unfoldable pub left : List Lend → Pool → Pool
left [] p = p
left (c ∷ cs) p = left cs (entry p c.bytes c.out).pool

-- how many records they were said to have written
unfoldable pub told : List Lend → Pool → ℕ
told [] p = 0
told (c ∷ cs) p = records_in (entry p c.bytes c.out).outcome + told cs (entry p c.bytes c.out).pool

-- each call answers as the definition does
unfoldable pub Answered : List Lend → Pool → D.Pool → Type 0
Answered [] p m = Unit {0}
Answered (c ∷ cs) p m =
    Meant p c.out (entry p c.bytes c.out) (R.step m (frame_of c.bytes) (length c.out))
    × Answered cs (entry p c.bytes c.out).pool (after m (R.step m (frame_of c.bytes) (length c.out))).pool

pub record Ran (cs : List Lend) (p : Pool) (m : D.Pool) : Type 0 where
  pub answers : Answered cs p m
  pub pool : Stands (view_of (left cs p)) (run (calls cs) m).pool
  pub records : told cs p ≡ length (run (calls cs) m).records
  pub formed : Formed (view_of (left cs p))

answered : (cs : List Lend) (p : Pool) (m : D.Pool) → Stands (view_of p) m → Formed (view_of p) → Answered cs p m
unfolding Answered
answered [] p m st f = tt
answered (c ∷ cs) p m st f = (
  entry_meant p m st f c.bytes c.out,
  answered cs (entry p c.bytes c.out).pool _ (entry_stands p m st f c.bytes c.out) (entry_formed p f c.bytes c.out),
)

left_view : (cs : List Lend) (p : Pool) → Formed (view_of p) → ran (map read cs) (view_of p) ≡ view_of (left cs p)
unfolding ran left
left_view [] p f = refl
left_view (c ∷ cs) p f =
    ap (ran (map read cs)) (sym (entry_view p f c.bytes c.out))
    ∙ left_view cs (entry p c.bytes c.out).pool (entry_formed p f c.bytes c.out)

pub left_formed : (cs : List Lend) (p : Pool) → Formed (view_of p) → Formed (view_of (left cs p))
unfolding left
left_formed [] p f = f
left_formed (c ∷ cs) p f = left_formed cs (entry p c.bytes c.out).pool (entry_formed p f c.bytes c.out)

recorded : (o : Outcome) → records_in o ≡ wrote o
recorded (Err r) = refl
recorded (Ok n) = refl

told_writes : (cs : List Lend) (p : Pool) → Formed (view_of p) → told cs p ≡ writes (map read cs) (view_of p)
unfolding told writes
told_writes [] p f = refl
told_writes (c ∷ cs) p f =
    let q = (entry p c.bytes c.out).pool in
    let w = call (view_of p) c.out (frame_of c.bytes) in
    let a : records_in (entry p c.bytes c.out).outcome ≡ wrote w.outcome =
    ap (λ (x : Entered). records_in x.outcome) (entry_back p f c.bytes c.out) ∙ recorded w.outcome in
    let b : told cs q ≡ writes (map read cs) w.pool =
    told_writes cs q (entry_formed p f c.bytes c.out) ∙ ap (writes (map read cs)) (entry_view p f c.bytes c.out) in
    omega (arith, a, b)

pub entries_run : (cs : List Lend) (p : Pool) (m : D.Pool) → Stands (view_of p) m → Formed (view_of p) → Ran cs p m
entries_run cs p m st f =
    let r = run_refines (map read cs) (view_of p) m st in
    record {
      answers = answered cs p m st f;
      pool = subst (λ (v : SlotPool). Stands v (run (calls cs) m).pool) (left_view cs p f) r.pool;
      records = told_writes cs p f ∙ r.records;
      formed = left_formed cs p f;
    }

-- ── Making ─────────────────────────────────────────────────────────────────────────────────────────────────────────────

made_view : (o : Options) → view_of (fresh_pool o) ≡ fresh_slots o
made_view o = refl

-- a making is the definition's
pub record Makes (o : Options) (w : Made) : Type 0 where
  pub refuses : (x : Refusal) → make o ≡ R.NotMade x → w ≡ not_made x
  pub accepts : (m : D.Pool) → make o ≡ R.Made m → (w.outcome ≡ Ok 0) × Stands (view_of w.pool) m × Formed (view_of w.pool)

module _ (o : Options) (h : in_range (with_defaults o) ≡ true) where
  makes : make o ≡ R.Made (fresh (with_defaults o))
  unfolding make when◌then◌else◌
  makes = rw h

  pub making_makes : making o ≡ record { outcome = Ok 0; pool = fresh_pool (with_defaults o) }
  unfolding making when◌then◌else◌
  making_makes = rw h

module _ (o : Options) (h : in_range (with_defaults o) ≡ false) where
  makes_none : make o ≡ R.NotMade OptionsOutOfRange
  unfolding make when◌then◌else◌
  makes_none = rw h

  pub making_refuses : making o ≡ not_made OptionsOutOfRange
  unfolding making when◌then◌else◌
  making_refuses = rw h

pub making_meant : (o : Options) → Makes o (making o)
making_meant o = by_bool (in_range (with_defaults o))
    (λ h. record {
      refuses = λ x e. let k = makes o h in let z : ◌≡◌ {A = ℕ} 0 1 = cc in absurd (omega arith);
      accepts = λ m e.
          let k = makes o h in
          let d : fresh (with_defaults o) ≡ m = cc in
          subst (λ (w : Made). (w.outcome ≡ Ok 0) × Stands (view_of w.pool) m × Formed (view_of w.pool)) (sym (making_makes o h))
          (refl, subst (λ (q : D.Pool). Stands (fresh_slots (with_defaults o)) q) d (fresh_stands (with_defaults o) h), fresh_formed (with_defaults o) h);
    })
    (λ h. record {
      refuses = λ x e. let k = makes_none o h in let d : OptionsOutOfRange ≡ x = cc in making_refuses o h ∙ ap not_made d;
      accepts = λ m e. let k = makes_none o h in let z : ◌≡◌ {A = ℕ} 0 1 = cc in absurd (omega arith);
    })

-- from the making on, whatever is called
pub made_runs : (o : Options) → in_range (with_defaults o) ≡ true → (cs : List Lend) → Ran cs (making o).pool (fresh (with_defaults o))
made_runs o h cs =
    subst (λ (w : Made). Ran cs w.pool (fresh (with_defaults o))) (sym (making_makes o h))
    (entries_run cs (fresh_pool (with_defaults o)) (fresh (with_defaults o)) (fresh_stands (with_defaults o) h) (fresh_formed (with_defaults o) h))

-- what a refused making gives is not usable
pub no_pool_keeps : keeps no_pool ≡ false
unfolding keeps_rules hangs_together in_range
no_pool_keeps = refl

pub no_pool_refuses : (b l : List ℕ) → entry no_pool b l ≡ entered no_pool l (Err (short_or_bad l))
no_pool_refuses b l = unkept no_pool b l no_pool_keeps

pub refused_unusable : (g : Option Options) (r : Refusal) → (making_from g).outcome ≡ Err r → (b l : List ℕ)
    → entry (making_from g).pool b l ≡ entered (making_from g).pool l (Err (short_or_bad l))
unfolding making_from
refused_unusable none r h b l = no_pool_refuses b l
refused_unusable (some o) r h b l = by_bool (in_range (with_defaults o))
    (λ t. let k : (making o).outcome ≡ Ok 0 = ap (λ (w : Made). w.outcome) (making_makes o t) in let z : ◌≡◌ {A = ℕ} 0 1 = cc in absurd (omega arith))
    (λ t. subst (λ (w : Made). entry w.pool b l ≡ entered w.pool l (Err (short_or_bad l))) (sym (making_refuses o t)) (no_pool_refuses b l))

-- ── Counts ─────────────────────────────────────────────────────────────────────────────────────────────────────────────

same_counts : {a b c d a' b' c' d' : ℕ} → a ≡ a' → b ≡ b' → c ≡ c' → d ≡ d'
    → ◌≡◌ {A = Counts} (record { available = a; lent = b; pending = c; waiting = d }) (record { available = a'; lent = b'; pending = c'; waiting = d' })
same_counts p q r s = rw (p, q, r, s)

abbrev pub lengths : D.Pool → Counts
lengths m = record {
  available = length m.available;
  lent = length m.lent;
  pending = length m.pending;
  waiting = length m.waiting;
}

pub counts_meant : (p : Pool) (m : D.Pool) → Stands (view_of p) m → counts_of p ≡ lengths m
counts_meant p m st =
    let t = st.table in
    let q = st.alike.queue in
    let a = counted t in
    let w : p.head.waiting_count ≡ length m.waiting =
    sym (length-take-le p.head.waiting_count p.waiters (omega (arith, q.room, q.fits)))
    ∙ sym (length-map (take p.head.waiting_count p.waiters) waiter_of)
    ∙ ap length q.waits in
    same_counts (sym a) (omega (arith, a, t.total, t.pendings)) t.pendings w

pub rules_counts : (p : Pool) → Rules (view_of p) → counts_of p ≡ lengths (lists_of (view_of p))
rules_counts p r = counts_meant p (lists_of (view_of p)) (rules_stand (view_of p) r)
