-- Each part of the steps, on slots and on lists alike: closed, shelved, lent, turned, created.
use Rattle.std.specs.Prelude.{◌≡◌, refl, Bool, true, false, [], ◌∷◌, ℕ, ◌+◌, ◌≤◌, ◌<◌, get_or}
use Rattle.std.proofs.Common.{ap, sym, ◌∙◌, true≢false, arith, length-append}
use Rattle.std.proofs.lemmas.Bool.{false≢true}
use Rattle.definition.specs.Laws.{find_id}
use Rattle.definition.specs.Words.{when◌then◌else◌}
use Rattle.definition.specs.Pool as P
use Rattle.definition.specs.Pool.{slot_count, Pool, Conn, stale_in, find, state_no}
use Rattle.definition.specs.declared.Record.{Record}
use Rattle.definition.specs.declared.Record.TheVariants.{ConnectionClosed}
use Rattle.definition.specs.Steps as D
use Rattle.definition.specs.Steps.{Out, Act, nothing, emit, ◌>>◌}
use Rattle.definition.specs.declared.ClosedReason.{ClosedReason}
use Rattle.definition.specs.declared.ConnectionState.{ConnectionState}
use Rattle.definition.specs.declared.ConnectionState.TheVariants.{CheckedIn, CheckedOut}
use Rattle.definition.specs.declared.Purpose.{Purpose}
use Rattle.definition.specs.declared.Purpose.TheVariants.{Request, Background}
use Rattle.slots.specs.Order.{vacant_slot}
use Rattle.slots.specs.Finding.{vacant_at, vacant_found}
use Rattle.slots.specs.View.{SlotPool, Slot, vacant, new_slot}
use Rattle.slots.specs.View as View
use Rattle.slots.specs.Slots as S
use Rattle.refinement.specs.Table.{Fresh, cell, conn_in, has_it, one, one_pos, one_zero, taken_put}
use Rattle.refinement.specs.Mirror.{is_lent, is_pending, mirror_put, unlisted, same, into, in_ids}
use Rattle.refinement.specs.Alike.{Alike}
use Rattle.refinement.proofs.Alike.{alike_table, alike_created}
use Rattle.refinement.specs.Stands.{Stands, Same}
use Rattle.refinement.proofs.Transit.{seen, off_lent, off_pending, set_lent, onto_nothing, onto_lent, onto_back}
use Rattle.refinement.specs.Acts.{Transit, Is, pending_no}

-- ── One act after another ──────────────────────────────────────────────────────────────────────────────────────────────

pub same_nothing : {p : SlotPool} {m : Pool} → Stands p m → Same (nothing p) (nothing m)
same_nothing st = record { records = refl; stands = st }

pub same_emit : (r r' : Record) (p : SlotPool) (m : Pool) → r ≡ r' → Stands p m → Same (emit r p) (emit r' m)
same_emit r r' p m e st = record { records = ap (λ (x : Record). x ∷ []) e; stands = st }

pub same_then : (a b : Act SlotPool) (a' b' : Act Pool) (p : SlotPool) (m : Pool) → Same (a p) (a' m) → Same (b (a p).pool) (b' (a' m).pool) → Same ((a >> b) p) ((a' >> b') m)
unfolding ◌>>◌
same_then a b a' b' p m f g = record { records = rw (f.records, g.records); stands = g.stands }

-- acts of which only the records agree so far, and what follows them
pub same_said : (a b : Act SlotPool) (a' b' : Act Pool) (p : SlotPool) (m : Pool) → (a p).records ≡ (a' m).records → Same (b (a p).pool) (b' (a' m).pool) → Same ((a >> b) p) ((a' >> b') m)
unfolding ◌>>◌
same_said a b a' b' p m e g = record { records = rw (e, g.records); stands = g.stands }

-- an act on lists that says nothing
pub same_silent : (a' b' : Act Pool) (m : Pool) {o : Out SlotPool} → (a' m).records ≡ [] → Same o (b' (a' m).pool) → Same o ((a' >> b') m)
unfolding ◌>>◌
same_silent a' b' m e g = record { records = rw e g.records; stands = g.stands }

-- two tests that are equal lead the same way
pub same_if : {b b' : Bool} (a₁ a₂ : Act SlotPool) (b₁ b₂ : Act Pool) (p : SlotPool) (m : Pool) → b ≡ b' → (b ≡ true → Same (a₁ p) (b₁ m)) → (b ≡ false → Same (a₂ p) (b₂ m)) → Same ((when b then a₁ else a₂) p) ((when b' then b₁ else b₂) m)
unfolding when◌then◌else◌
same_if {b = true} {b' = true} a₁ a₂ b₁ b₂ p m e f g = f refl
same_if {b = false} {b' = false} a₁ a₂ b₁ b₂ p m e f g = g refl
same_if {b = true} {b' = false} a₁ a₂ b₁ b₂ p m e f g = absurd (true≢false e)
same_if {b = false} {b' = true} a₁ a₂ b₁ b₂ p m e f g = absurd (false≢true e)

pub close_at_same : (r : ClosedReason) (i n other : ℕ) (p : SlotPool) (m : Pool) → Transit p m i → View.id_at p i ≡ n → Same (S.close_at r i other p) (D.close r n other m)
unfolding S.close_at ◌>>◌
close_at_same r i n other p m tr e = record { records = ap (λ (x : ℕ). ConnectionClosed r x other ∷ []) e; stands = record { alike = alike_table tr.alike; table = onto_nothing tr.off } }

is_found : (n : ℕ) (s : Slot) (x : Conn) → x.id ≡ n → cell x ≡ s → (q : ConnectionState) (t : ℕ) → P.with_state q t x ≡ conn_in n (View.with_state (state_no q) t s) q
is_found n s x e f q t = rw (e, ← f)

pub is_stale : {p : SlotPool} {m : Pool} (i : ℕ) (x : Conn) → Alike p m → Is p i x → View.stale_at p i ≡ P.stale m x
is_stale {p} {m} i x a is =
    ap (λ (g : ℕ). stale_in g (View.slot_at p i).generation) a.generation
    ∙ ap (λ (c : Conn). stale_in m.generation c.generation) (sym (is CheckedIn 0))

pub shelve_same : (i t : ℕ) (x : Conn) (p : SlotPool) (m : Pool) → Transit p m i → Is p i x → Same (S.shelve i t p) (D.shelve x t m)
unfolding S.shelve D.shelve
shelve_same i t x p m tr is = record {
  records = refl;
  stands = record { alike = alike_table tr.alike; table = onto_back tr.off (View.with_state 1 t (View.slot_at p i)) (P.with_state CheckedIn t x) refl (is CheckedIn t) };
}

pub lend_out_same : (i : ℕ) (x : Conn) (p : SlotPool) (m : Pool) → Transit p m i → Is p i x → Same (S.set_state_at S.checked_out_no i p) (D.lend_out x m)
unfolding S.set_state_at D.lend_out
lend_out_same i x p m tr is =
    let s : Slot = View.with_state 2 p.clock (View.slot_at p i) in
    let y : Conn = P.with_state CheckedOut m.clock x in
    let e : y ≡ conn_in (View.id_at p i) s CheckedOut = ap (λ (t : ℕ). P.with_state CheckedOut t x) (sym tr.alike.clock) ∙ is CheckedOut p.clock in
    record { records = refl; stands = record { alike = alike_table tr.alike; table = onto_lent tr.off s y refl (ap (λ (c : Conn). c.id) e) (ap cell e) } }

-- a lent connection, a pending one: it leaves its list
module _ {p : SlotPool} {m : Pool} (st : Stands p m) (i : ℕ) (low : i < slot_count) where
  abbrev n : ℕ
  n = View.id_at p i

  module _ (h : is_lent (View.slot_at p i).state ≡ true) where
    pub lent_transit : Transit p (D.leave_lent n m).pool i
    unfolding D.leave_lent
    lent_transit = record { alike = alike_table st.alike; off = off_lent st.table i low h }

    pub lent_cell : (P.has n m.lent ≡ true) × (cell (find n m.lent) ≡ View.slot_at p i)
    lent_cell = has_it n m.lent (View.slot_at p i) (seen st.table i low is_lent refl h st.table.mirror.lent)

    pub lent_is : Is p i (find n m.lent)
    lent_is = is_found n (View.slot_at p i) (find n m.lent) (find_id n m.lent) lent_cell.1

    pub repin_same : (q : ConnectionState) → is_lent (state_no q) ≡ true → Same (S.set_state_at (state_no q) i p) (D.repin q n m)
    unfolding S.set_state_at D.repin
    repin_same q hq = record {
      records = refl;
      stands = record { alike = alike_table st.alike; table = rw (← st.alike.clock) (set_lent st.table i low q p.clock hq h) };
    }

  module _ (h : is_pending (View.slot_at p i).state ≡ true) where
    pub pending_transit : Transit (S.leave_pending p).pool (D.leave_pending n m).pool i
    unfolding D.leave_pending S.leave_pending
    pending_transit = record { alike = alike_table st.alike; off = off_pending st.table i low h }

    pub pending_cell : (P.has n m.pending ≡ true) × (cell (find n m.pending) ≡ View.slot_at p i)
    pending_cell = has_it n m.pending (View.slot_at p i) (seen st.table i low is_pending refl h st.table.mirror.pending)

    pub pending_is : Is p i (find n m.pending)
    pending_is = is_found n (View.slot_at p i) (find n m.pending) (find_id n m.pending) pending_cell.1

-- ── Created ────────────────────────────────────────────────────────────────────────────────────────────────────────────

pub vacancy : {p : SlotPool} {m : Pool} → Stands p m → p.total < slot_count → vacant_slot p.ids < slot_count
vacancy {p} st h = vacant_found p.ids st.table.mirror.long_ids (omega (arith, st.table.holds))

pending_no_lem : (why : Purpose) → is_pending (pending_no why) ≡ true
pending_no_lem Request = refl
pending_no_lem Background = refl

not_lent_no : (why : Purpose) → is_lent (pending_no why) ≡ false
not_lent_no Request = refl
not_lent_no Background = refl

used_no : (why : Purpose) → (0 < pending_no why) × (pending_no why ≤ 6)
used_no Request = omega arith
used_no Background = omega arith

pub create_same : (why : Purpose) (p : SlotPool) (m : Pool) → Stands p m → p.total < slot_count → Same (S.create_pending_connection (pending_no why) p) (D.create_pending_connection why m)
unfolding S.create_pending_connection D.create_pending_connection ◌>>◌
create_same why p m st h =
    let low : vacant_slot p.ids < slot_count = vacancy st h in
    let tb = st.table in
    let k = tb.mirror in
    let i = vacant_slot p.ids in
    let n = p.next_id in
    let s : Slot = new_slot p (pending_no why) in
    let x : Conn = P.new_conn m why in
    let e : cell x ≡ s = rw (st.alike.generation, st.alike.clock) in
    let z : get_or p.ids i 0 ≡ 0 = vacant_at p.ids low in
    let b : get_or p.slots i vacant ≡ vacant = k.blank i z in
    let b0 : (get_or p.slots i vacant).state ≡ 0 = ap (λ (y : Slot). y.state) b in
    let fr : Fresh p.ids i n = λ j a q e. absurd (omega (arith, k.below j, e)) in
    let zn : 0 < n = omega (arith, k.below i) in
    let o0 : one (get_or p.ids i 0) ≡ 0 = ap one z ∙ one_zero in
    record {
      records = rw st.alike.next_id;
      stands = record {
        alike = alike_created st.alike;
        table = record {
          mirror = mirror_put k i low n s (n + 1) (unlisted k i low (λ q. omega arith)) fr (λ q. absurd (omega arith)) (λ _. used_no why) (omega arith) (omega arith)
              (same k i low is_lent n s fr k.lent (λ q. absurd (omega arith)) (λ _. not_lent_no why))
              (into k i low is_pending n s fr k.pending x (sym st.alike.next_id) e zn (λ q. absurd (omega arith)) (pending_no_lem why));
          room = tb.room;
          fits = tb.fits;
          rest = tb.rest;
          total = rw length-append (omega (arith, tb.total));
          pendings = rw length-append (omega (arith, tb.pendings));
          holds = omega (arith, tb.holds, taken_put p.ids i n (in_ids k i low), o0, one_pos n zn);
        };
      };
    }
