-- The steps that go on: pruning, filling up, closing all, and taking from the back until a healthy one.
use Rattle.std.specs.Prelude.{◌≡◌, refl, true, false, ◌&&◌, List, [], ◌∷◌, map, ℕ, zero, suc, ◌+◌, ◌-◌, ◌≤◌, ◌<◌, min, length, get_or, set}
use Rattle.std.proofs.Common.{ap, sym, ◌∙◌, arith, lt-ltb, le-ltb}
use Rattle.std.proofs.Math.Path.{subst}
use Rattle.definition.specs.Booleans.{by_lt}
use Rattle.definition.specs.Words.{when◌then◌else◌, ◌<?◌, ◌∷ʳ◌}
use Rattle.definition.specs.Pool as P
use Rattle.definition.specs.Pool.{Pool, Conn, is_ready, stale_in, idle_for, total}
use Rattle.definition.specs.declared.Record.{Record}
use Rattle.definition.specs.declared.Record.TheVariants.{PoolShut}
use Rattle.definition.specs.declared.Reply.TheVariants.{Gone}
use Rattle.definition.specs.Steps as D
use Rattle.definition.specs.Steps.{closed_with_pool, emit, emit_all, become, ◌>>◌}
use Rattle.definition.specs.declared.ClosedReason.{ClosedReason}
use Rattle.definition.specs.declared.ClosedReason.TheVariants.{PoolClosed}
use Rattle.definition.specs.declared.Options.{Options}
use Rattle.definition.specs.declared.PoolState.TheVariants.{Closed}
use Rattle.definition.specs.declared.Purpose.TheVariants.{Background}
use Rattle.slots.specs.Order.{shifted}
use Rattle.slots.specs.View.{SlotPool}
use Rattle.slots.specs.View as View
use Rattle.slots.specs.Slots as S
use Rattle.refinement.specs.Alike.{Alike}
use Rattle.refinement.proofs.Alike.{alike_table}
use Rattle.refinement.specs.Stands.{Table, Stands, Same}
use Rattle.refinement.specs.Transit.{Off}
use Rattle.refinement.proofs.Transit.{counted, front_is, off_front, back_is, off_back}
use Rattle.refinement.specs.Acts.{Transit}
use Rattle.refinement.proofs.Acts.{same_nothing, same_emit, same_then, same_said, same_silent, same_if, close_at_same, create_same}
use Rattle.refinement.proofs.Handle.{enter_same, tell_all_same}
use Rattle.refinement.specs.Walks.{shown}

module _ (p : SlotPool) (m : Pool) (c : Conn) (cs : List Conn) (k : ℕ) (st : Stands p m) (n : suc k ≡ p.availables) where
  abbrev pub front_of : ℕ
  front_of = get_or p.available 0 0

  abbrev pub back_of : ℕ
  back_of = get_or p.available k 0

  -- the table with its count and its list as they are called here
  as_counted : (l : List Conn) → m.available ≡ l → Table p.ids p.slots p.available (suc k) p.total p.pendings p.next_id l m.lent m.pending
  as_counted l e = subst (λ (x : ℕ). Table p.ids p.slots p.available x p.total p.pendings p.next_id l m.lent m.pending) (sym n)
      (subst (λ (x : List Conn). Table p.ids p.slots p.available p.availables p.total p.pendings p.next_id x m.lent m.pending) e st.table)

  less : suc k - 1 ≡ k
  less = omega arith

  pub front_shown : m.available ≡ c ∷ cs → shown p front_of ≡ c
  front_shown e = front_is k c cs (as_counted (c ∷ cs) e)

  pub front_transit : m.available ≡ c ∷ cs → Transit (S.pop_front p).pool (P.with_available m cs) front_of
  unfolding S.pop_front
  front_transit e = record {
    alike = alike_table st.alike;
    off = subst (λ (x : ℕ). Off p.ids p.slots (shifted x p.available) (x - 1) p.total p.pendings p.next_id cs m.lent m.pending front_of) n (rw less (off_front k c cs (as_counted (c ∷ cs) e)));
  }

  pub back_shown : m.available ≡ cs ∷ʳ c → shown p back_of ≡ c
  back_shown e = back_is k c cs (as_counted (cs ∷ʳ c) e)

  pub back_transit : m.available ≡ cs ∷ʳ c → Transit (S.pop_back p).pool (P.with_available m cs) back_of
  unfolding S.pop_back
  back_transit e = record {
    alike = alike_table st.alike;
    off = subst (λ (x : ℕ). Off p.ids p.slots (set p.available (x - 1) 0) (x - 1) p.total p.pendings p.next_id cs m.lent m.pending back_of) n (rw less (off_back k c cs (as_counted (cs ∷ʳ c) e)));
  }

-- ── Perished ones ──────────────────────────────────────────────────────────────────────────────────────────────────────

stale_same : {p : SlotPool} {m : Pool} (a : Alike p m) (i : ℕ) (c : Conn) → shown p i ≡ c → View.stale_at p i ≡ P.stale m c
stale_same {p} {m} a i c e = ap (λ (x : Conn). stale_in p.generation x.generation) e ∙ ap (λ (x : ℕ). stale_in x c.generation) a.generation

idle_same : {p : SlotPool} {m : Pool} (a : Alike p m) (i : ℕ) (c : Conn) → shown p i ≡ c → View.idle_at p i ≡ P.idle m c
idle_same {p} {m} a i c e =
    ap (λ (x : Conn). idle_for p.options.idle x.time p.clock) e
    ∙ ap (λ (x : Options). idle_for x.idle c.time p.clock) a.options
    ∙ ap (λ (x : ℕ). idle_for m.options.idle c.time x) a.clock

pub perished_same : {p : SlotPool} {m : Pool} (a : Alike p m) (i : ℕ) (c : Conn) → shown p i ≡ c → View.perished_at p i ≡ P.perished m c
perished_same a i c e = rw (stale_same a i c e, idle_same a i c e)

pub close_perished_same : (i : ℕ) (c : Conn) (p : SlotPool) (m : Pool) → Transit p m i → shown p i ≡ c → Same (S.close_perished_at i p) (D.close_perished c m)
unfolding S.close_perished_at D.close_perished
close_perished_same i c p m tr e =
    rw (stale_same tr.alike i c e, idle_same tr.alike i c e) (close_at_same _ i c.id _ p m tr (ap (λ (x : Conn). x.id) e))

-- closing changes no count but the total
pub close_counts : (i : ℕ) (p : SlotPool) → ((S.close_perished_at i p).pool.availables ≡ p.availables) × ((S.close_perished_at i p).pool.total ≡ p.total - 1)
unfolding S.close_perished_at S.close_at ◌>>◌
close_counts i p = (refl, refl)

front_counts : (i : ℕ) (p : SlotPool) → (S.pop_front p).pool.availables ≡ p.availables - 1
unfolding S.pop_front
front_counts i p = refl

pub back_counts : (p : SlotPool) → ((S.pop_back p).pool.availables ≡ p.availables - 1) × ((S.pop_back p).pool.total ≡ p.total)
unfolding S.pop_back
back_counts p = (refl, refl)

pub prune_same : (k : ℕ) (l : List Conn) (p : SlotPool) (m : Pool) → Stands p m → m.available ≡ l → k ≡ p.availables → Same (S.prune k p) (D.remove_perished l m)
unfolding S.prune D.remove_perished D.close_perished S.pop_front
prune_same zero [] p m st e n = same_nothing st
prune_same zero (c ∷ cs) p m st e n = absurd (omega (arith, counted st.table, ap length e))
prune_same (suc k) [] p m st e n = absurd (omega (arith, counted st.table, ap length e))
prune_same (suc k) (c ∷ cs) p m st e n =
    let i = get_or p.available 0 0 in
    let sh = front_shown p m c cs k st n e in
    let tr = front_transit p m c cs k st n e in
    let cl = close_perished_same i c (S.pop_front p).pool (P.with_available m cs) tr sh in
    same_if _ _ _ _ p m (perished_same st.alike i c sh)
    (λ _. same_said S.pop_front _ (become (P.with_available m cs)) _ p m refl
    (same_then (S.close_perished_at i) (S.prune k) (D.close_perished c) (D.remove_perished cs) _ _ cl
    (prune_same k cs _ _ cl.stands refl (omega (arith, (close_counts i (S.pop_front p).pool).0, front_counts i p)))))
    (λ _. same_nothing st)

pub remove_perished_same : (p : SlotPool) (m : Pool) → Stands p m → Same (S.remove_perished p) (D.remove_perished m.available m)
unfolding S.remove_perished
remove_perished_same p m st = prune_same p.availables m.available p m st refl refl

-- ── Filling up ─────────────────────────────────────────────────────────────────────────────────────────────────────────

created : (s : ℕ) (p : SlotPool) → ((S.create_pending_connection s p).pool.total ≡ p.total + 1) × ((S.create_pending_connection s p).pool.pendings ≡ p.pendings + 1) × ((S.create_pending_connection s p).pool.options ≡ p.options)
unfolding S.create_pending_connection ◌>>◌
created s p = (refl, refl, refl)

-- what is lacking of both: to the minimum, and to the most pending
abbrev lack : SlotPool → ℕ
lack p = min (p.options.minimum - p.total) (p.options.connecting - p.pendings)

lacks : (t a c b : ℕ) → 0 < min (a - t) (b - c) → (t <? a && c <? b) ≡ true
lacks t a c b h = rw (lt-ltb t a (omega arith), lt-ltb c b (omega arith))

lacks_not : (t a c b : ℕ) → min (a - t) (b - c) ≡ 0 → (t <? a && c <? b) ≡ false
lacks_not t a c b h = by_lt t a (λ g. rw (lt-ltb t a g, le-ltb c b (omega arith))) (λ g. rw (le-ltb t a g))

pub fill_up_same : (k j : ℕ) (p : SlotPool) (m : Pool) → Stands p m → j ≡ lack p → j ≤ k → Same (S.fill_up k p) (D.create_many j m)
unfolding S.fill_up D.create_many when◌then◌else◌
fill_up_same zero zero p m st e h = same_nothing st
fill_up_same zero (suc j) p m st e h = absurd (omega arith)
fill_up_same (suc k) zero p m st e h = rw (lacks_not p.total p.options.minimum p.pendings p.options.connecting (sym e)) (same_nothing st)
fill_up_same (suc k) (suc j) p m st e h =
    let c = create_same Background p m st (omega (arith, st.alike.limits)) in
    let f = created S.background_no p in
    let o : (S.create_pending_connection S.background_no p).pool.options ≡ p.options = f.2 in
    let a : (S.create_pending_connection S.background_no p).pool.options.minimum ≡ p.options.minimum = ap (λ (x : Options). x.minimum) o in
    let b : (S.create_pending_connection S.background_no p).pool.options.connecting ≡ p.options.connecting = ap (λ (x : Options). x.connecting) o in
    rw (lacks p.total p.options.minimum p.pendings p.options.connecting (omega arith))
    (same_then (S.create_pending_connection S.background_no) (S.fill_up k) (D.create_pending_connection Background) (D.create_many j) p m c
    (fill_up_same k j _ _ c.stands (omega (arith, f.0, f.1, a, b)) (omega arith)))

pub ensure_min_connections_same : (p : SlotPool) (m : Pool) → Stands p m → Same (S.ensure_min_connections p) (D.ensure_min_connections m)
unfolding S.ensure_min_connections D.ensure_min_connections
ensure_min_connections_same p m st =
    let a : p.options.minimum ≡ m.options.minimum = ap (λ (x : Options). x.minimum) st.alike.options in
    let b : p.options.connecting ≡ m.options.connecting = ap (λ (x : Options). x.connecting) st.alike.options in
    same_if _ _ _ _ p m (ap is_ready st.alike.state)
    (λ _. fill_up_same p.options.minimum (min (m.options.minimum - total m) (m.options.connecting - length m.pending)) p m st (omega (arith, st.table.total, st.table.pendings)) (omega arith))
    (λ _. same_nothing st)

pub maintenance_same : (p : SlotPool) (m : Pool) → Stands p m → Same (S.maintenance p) (D.maintenance m)
unfolding S.maintenance D.maintenance
maintenance_same p m st =
    let r = remove_perished_same p m st in
    same_then S.remove_perished S.ensure_min_connections (D.remove_perished m.available) D.ensure_min_connections p m r (ensure_min_connections_same _ _ r.stands)

-- ── Closing all ────────────────────────────────────────────────────────────────────────────────────────────────────────

abbrev closings : List Conn → List Record
closings l = map closed_with_pool l

close_at_counts : (r : ClosedReason) (i other : ℕ) (p : SlotPool) → (S.close_at r i other p).pool.availables ≡ p.availables
unfolding S.close_at ◌>>◌
close_at_counts r i other p = refl

pub close_front_same : (k : ℕ) (l : List Conn) (p : SlotPool) (m : Pool) → Stands p m → m.available ≡ l → k ≡ p.availables → Same (S.close_front k p) (emit_all (closings l) (P.with_available m []))
unfolding S.close_front S.pop_front ◌>>◌
close_front_same zero [] p m st e n = record { records = refl; stands = subst (λ (l : List Conn). Stands p (P.with_available m l)) e st }
close_front_same zero (c ∷ cs) p m st e n = absurd (omega (arith, counted st.table, ap length e))
close_front_same (suc k) [] p m st e n = absurd (omega (arith, counted st.table, ap length e))
close_front_same (suc k) (c ∷ cs) p m st e n =
    let i = get_or p.available 0 0 in
    let tr = front_transit p m c cs k st n e in
    let cl = close_at_same PoolClosed i c.id 0 (S.pop_front p).pool (P.with_available m cs) tr (ap (λ (x : Conn). x.id) (front_shown p m c cs k st n e)) in
    let more = close_front_same k cs _ _ cl.stands refl (omega (arith, close_at_counts PoolClosed i 0 (S.pop_front p).pool, front_counts i p)) in
    record { records = rw (cl.records, more.records); stands = more.stands }

pub shut_same : (p : SlotPool) (m : Pool) → Stands p m → Same (S.shut p) (D.shut m)
unfolding S.shut D.shut
shut_same p m st =
    let q : Pool = P.with_available m [] in
    let all = close_front_same p.availables m.available p m st refl refl in
    let told = tell_all_same Gone _ _ all.stands in
    same_silent (become q) _ m refl
    (same_said (S.close_front p.availables) _ (emit_all (closings m.available)) _ p q all.records
    (same_then (S.tell_all Gone) _ (D.tell_all Gone) _ _ _ told
    (same_then (emit PoolShut) (S.enter Closed p.generation) (emit PoolShut) (D.enter Closed m.generation) _ _ (same_emit PoolShut PoolShut _ _ refl told.stands)
    (enter_same Closed p.generation m.generation _ _ st.alike.generation told.stands))))
