-- Every connection of a pool that stands for lists is in one place: a slot is of one class, and no id stands in two slots.
use Rattle.std.specs.Prelude.{◌≡◌, refl, true, false, List, [], ◌∷◌, ◌≢◌, ℕ, ◌+◌, ◌≤◌, ◌<◌, length, get_or, take}
use Rattle.std.proofs.Common.{ap, sym, subst, ◌∙◌, arith, eq-eqb, ne_eqb}
use Rattle.std.specs.Prelude.{Option, None as none, Some as some}
use Rattle.definition.specs.Booleans.{by_bool, by_eq}
use Rattle.definition.specs.Words.{when◌then◌else◌}
use Rattle.definition.specs.Pool.{Pool, Conn, slot_count, total}
use Rattle.definition.specs.Log.{numbers, often, sum_of}
use Rattle.promises.specs.Promises.{standing}
use Rattle.slots.specs.View.{SlotPool, Slot, vacant}
use Rattle.refinement.specs.Table.{Unique, look, look_at, lookup, Once}
use Rattle.refinement.specs.Agree.{Class, Agrees, only, only_out, only_none}
use Rattle.refinement.specs.Mirror.{Mirror, is_lent, is_pending, All, Distinct, Listed, view}
use Rattle.refinement.specs.Order.{within}
use Rattle.refinement.specs.Stands.{Stands}

-- ── How often a number stands in a list ────────────────────────────────────────────────────────────────────────────────

often_here : (i n : ℕ) (l : List ℕ) → n ≡ i → often i (n ∷ l) ≡ 1 + often i l
unfolding sum_of when◌then◌else◌
often_here i n l e = rw (eq-eqb n i e)

often_there : (i n : ℕ) (l : List ℕ) → (n ≡ i → ⊥) → often i (n ∷ l) ≡ often i l
unfolding sum_of when◌then◌else◌
often_there i n l e = rw (ne_eqb n i e) (omega arith)

often_none : (i : ℕ) → often i [] ≡ 0
unfolding sum_of
often_none i = refl

-- whoever is not looked up does not stand there
unlisted : (i : ℕ) (l : List Conn) → lookup i l ≡ none → often i (numbers l) ≡ 0
unfolding lookup when◌then◌else◌
unlisted i [] h = often_none i
unlisted i (c ∷ l) h =
    by_eq c.id i
    (λ e. let k = eq-eqb c.id i e in let z : ◌≡◌ {A = ℕ} 0 1 = cc in absurd (omega arith))
    (λ n. often_there i c.id (numbers l) n ∙ unlisted i l (rw (ne_eqb c.id i n) at h))

at_most_once : (i : ℕ) (l : List Conn) → Once l → often i (numbers l) ≤ 1
at_most_once i [] o = omega (arith, often_none i)
at_most_once i (c ∷ l) o =
    by_eq c.id i
    (λ e. omega (arith, often_here i c.id (numbers l) e, unlisted i l (ap (λ (x : ℕ). lookup x l) (sym e) ∙ o.0)))
    (λ n. omega (arith, often_there i c.id (numbers l) n, at_most_once i l o.1))

-- ── Of a class ─────────────────────────────────────────────────────────────────────────────────────────────────────────

module _ {t : Class} {xs : List ℕ} {ss : List Slot} {l : List Conn} (a : Agrees t xs ss l) (i : ℕ) where
  class_once : often i (numbers l) ≤ 1
  class_once = at_most_once i l a.once

  -- a number whose slot is of another class, or has none
  class_none : (0 < i → only t (look i xs ss) ≡ none) → often i (numbers l) ≡ 0
  class_none h = unlisted i l (by_eq i 0 (λ e. ap (λ (x : ℕ). lookup x l) e ∙ a.named) (λ n. let z : 0 < i = omega (arith, n) in sym (a.finds i z) ∙ h z))

-- ── Available ──────────────────────────────────────────────────────────────────────────────────────────────────────────

module _ (xs : List ℕ) (ss : List Slot) (i : ℕ) where
  -- no listed slot has that number
  view_none : (o : List ℕ) → All (Listed xs ss) o → ((e : ℕ) → Listed xs ss e → get_or xs e 0 ≡ i → ⊥) → often i (numbers (view xs ss o)) ≡ 0
  view_none [] al h = often_none i
  view_none (e ∷ o) al h = often_there i (get_or xs e 0) (numbers (view xs ss o)) (h e al.0) ∙ view_none o al.1 h

  -- the slot that has it is listed once at most
  view_away : (s : ℕ) (o : List ℕ) → All (λ y. y ≢ s) o → ((e : ℕ) → Listed xs ss e → get_or xs e 0 ≡ i → e ≡ s) → All (Listed xs ss) o → often i (numbers (view xs ss o)) ≡ 0
  view_away s [] d h al = often_none i
  view_away s (e ∷ o) d h al = often_there i (get_or xs e 0) (numbers (view xs ss o)) (λ q. d.0 (h e al.0 q)) ∙ view_away s o d.1 h al.1

  view_once : (o : List ℕ) → length xs ≡ slot_count → Unique xs → All (Listed xs ss) o → Distinct o → often i (numbers (view xs ss o)) ≤ 1
  view_once [] l u al d = omega (arith, often_none i)
  view_once (e ∷ o) l u al d =
      by_eq (get_or xs e 0) i
      (λ q. omega (
        arith,
        often_here i (get_or xs e 0) (numbers (view xs ss o)) q,
        view_away e o d.0 (λ y k r. u y e (omega (arith, k.0, l)) (omega (arith, al.0.0, l)) k.1 (r ∙ sym q)) al.1,
      ))
      (λ n. omega (arith, often_there i (get_or xs e 0) (numbers (view xs ss o)) n, view_once o l u al.1 d.1))

-- ── In one place ───────────────────────────────────────────────────────────────────────────────────────────────────────

lent_alone : (k : ℕ) → is_lent k ≡ true → is_pending k ≡ false
lent_alone k h = let w = within 2 4 k h in by_bool (is_pending k) (λ p. let v = within 5 6 k p in absurd (omega arith)) (λ p. p)

module _ {xs : List ℕ} {ss : List Slot} {o : List ℕ} {next : ℕ} {av le pe : List Conn} (k : Mirror xs ss o next av le pe) (i : ℕ) where
  abbrev times : ℕ
  times = often i (numbers (view xs ss o)) + often i (numbers le) + often i (numbers pe)

  -- a slot that is listed is checked in
  shelved : (s : Slot) → look i xs ss ≡ some s → (s.state ≡ 1 → ⊥) → often i (numbers (view xs ss o)) ≡ 0
  shelved s h n = view_none xs ss i o k.listed (λ e l q.
      let z : 0 < i = omega (arith, l.1, q) in
      let at = look_at i e xs ss (omega (arith, k.long_ids, k.long_slots)) k.unique (omega (arith, l.0, k.long_ids)) z q in
      let same : s ≡ get_or ss e vacant = cc in
      n (ap (λ (x : Slot). x.state) same ∙ l.2))

  unfound : look i xs ss ≡ none → often i (numbers (view xs ss o)) ≡ 0
  unfound h = view_none xs ss i o k.listed (λ e l q.
      let z : 0 < i = omega (arith, l.1, q) in
      let at = look_at i e xs ss (omega (arith, k.long_ids, k.long_slots)) k.unique (omega (arith, l.0, k.long_ids)) z q in
      let bad : ◌≡◌ {A = ℕ} 0 1 = cc in omega arith)

  placed : (x : Option Slot) → look i xs ss ≡ x → times ≤ 1
  placed none h =
      omega (arith, unfound h, class_none k.lent i (λ z. ap (only is_lent) h ∙ only_none is_lent), class_none k.pending i (λ z. ap (only is_pending) h ∙ only_none is_pending))
  placed (some s) h =
      by_bool (is_lent s.state)
      (λ l.
      let w = within 2 4 s.state l in
      omega (arith, shelved s h (λ e. omega arith), class_once k.lent i, class_none k.pending i (λ z. ap (only is_pending) h ∙ only_out is_pending s (lent_alone s.state l))))
      (λ l.
      let none_lent = class_none k.lent i (λ z. ap (only is_lent) h ∙ only_out is_lent s l) in
      by_bool (is_pending s.state)
      (λ p. let w = within 5 6 s.state p in omega (arith, none_lent, shelved s h (λ e. omega arith), class_once k.pending i))
      (λ p. omega (arith, none_lent, class_none k.pending i (λ z. ap (only is_pending) h ∙ only_out is_pending s p), view_once xs ss i o k.long_ids k.unique k.listed k.distinct)))

pub one_place : {p : SlotPool} {m : Pool} → Stands p m → (i : ℕ) → standing i m ≤ 1
one_place {p} {m} st i =
    let k = st.table.mirror in
    let h : often i (numbers (view p.ids p.slots (take p.availables p.available))) + often i (numbers m.lent) + often i (numbers m.pending) ≤ 1 = placed k i (look i p.ids p.slots) refl in
    subst (λ (l : List Conn). often i (numbers l) + often i (numbers m.lent) + often i (numbers m.pending) ≤ 1) k.available h

-- ── Whatever lists it stands for ───────────────────────────────────────────────────────────────────────────────────────

listed_once : (i : ℕ) (l : List Conn) (s : Slot) → Once l → lookup i l ≡ some s → often i (numbers l) ≡ 1
unfolding lookup when◌then◌else◌
listed_once i [] s o h = let z : ◌≡◌ {A = ℕ} 0 1 = cc in absurd (omega arith)
listed_once i (c ∷ l) s o h =
    by_eq c.id i
    (λ e. omega (arith, often_here i c.id (numbers l) e, unlisted i l (ap (λ (x : ℕ). lookup x l) (sym e) ∙ o.0)))
    (λ n. often_there i c.id (numbers l) n ∙ listed_once i l s o.1 (rw (ne_eqb c.id i n) at h))

-- how often a number stands in a list is told by looking it up
looked_up : (i : ℕ) (l k : List Conn) → Once l → Once k → (x : Option Slot) → lookup i l ≡ x → lookup i k ≡ x → often i (numbers l) ≡ often i (numbers k)
looked_up i l k o p none a b = unlisted i l a ∙ sym (unlisted i k b)
looked_up i l k o p (some s) a b = listed_once i l s o a ∙ sym (listed_once i k s p b)

agrees_often : {t : Class} {xs : List ℕ} {ss : List Slot} {l k : List Conn} → Agrees t xs ss l → Agrees t xs ss k → (i : ℕ) → often i (numbers l) ≡ often i (numbers k)
agrees_often {l = l} {k = k} a b i =
    looked_up i l k a.once b.once (lookup i k)
    (by_eq i 0
    (λ e. ap (λ (x : ℕ). lookup x l) e ∙ a.named ∙ sym b.named ∙ ap (λ (x : ℕ). lookup x k) (sym e))
    (λ n. let z : 0 < i = omega (arith, n) in sym (a.finds i z) ∙ b.finds i z))
    refl

-- two pools on lists that one on slots stands for hold the same connections in the same places, as many, and the same who wait
module _ {p : SlotPool} {m n : Pool} (a : Stands p m) (b : Stands p n) where
  pub same_places : (i : ℕ) → standing i m ≡ standing i n
  same_places i =
      let av : m.available ≡ n.available = sym a.table.mirror.available ∙ b.table.mirror.available in
      omega (
        arith,
        ap (λ (l : List Conn). often i (numbers l)) av,
        agrees_often a.table.mirror.lent b.table.mirror.lent i,
        agrees_often a.table.mirror.pending b.table.mirror.pending i,
      )

  pub same_total : total m ≡ total n
  same_total = sym a.table.total ∙ b.table.total

  pub same_waiting : m.waiting ≡ n.waiting
  same_waiting = sym a.alike.queue.waits ∙ b.alike.queue.waits
