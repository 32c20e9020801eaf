-- The rules of structure of a pool on slots, with no list in them; a pool is formed exactly where it keeps them.
use Rattle.std.specs.Prelude.{◌≡◌, refl, List, [], ◌∷◌, ℕ, zero, suc, ◌+◌, ◌≤◌, ◌<◌, length, get_or, take}
use Rattle.std.proofs.Common.{ap, sym, ◌∙◌, mod-lt, arith, length-take-le, eq-eqb, ne_eqb}
use Rattle.std.specs.Prelude.{None as none, Some as some}
use Rattle.std.proofs.lemmas.List.{length-map}
use Rattle.definition.specs.Booleans.{by_bool, by_eq}
use Rattle.definition.specs.Words.{when◌then◌else◌}
use Rattle.definition.specs.Pool as P
use Rattle.definition.specs.Pool.{Pool, Conn, without}
use Rattle.definition.specs.Laws.{number_back}
use Rattle.definition.specs.declared.Options.{Options}
use Rattle.promises.specs.States.{state_fits, Stated}
use Rattle.promises.specs.Reached.{Reached}
use Rattle.slots.specs.View.{SlotPool, Slot, vacant}
use Rattle.slots.specs.Needs.{taken}
use Rattle.refinement.specs.Table.{Unique, unique_tail, look, cell, lookup, Once, none_not_some, lookup_other, lookup_gone, once_without, length_without, one, one_pos, one_zero}
use Rattle.refinement.specs.Agree.{Class, Agrees, only}
use Rattle.refinement.specs.Mirror.{is_lent, is_pending, Used, view}
use Rattle.refinement.proofs.Alike.{alike_lists}
use Rattle.refinement.specs.Stands.{Stands, Formed}
use Rattle.refinement.proofs.Transit.{counted}
use Rattle.refinement.proofs.Queue.{waiters_counted}
use Rattle.refinement.proofs.Needs.{whole}
use Rattle.refinement.specs.Rules.{conn_of, collect, many, is_shelved, one_if, Rules, lists_of}

cell_of : (x : ℕ) (s : Slot) → s.state ≤ 6 → cell (conn_of x s) ≡ s
cell_of x s h = rw (number_back s.state h)

-- every slot that is taken is in a state of a connection
abbrev AllUsed : List ℕ → List Slot → Type 0
AllUsed xs ss = (j : ℕ) → 0 < get_or xs j 0 → Used (get_or ss j vacant)

collect_none : (t : Class) (k : ℕ) (xs : List ℕ) (ss : List Slot) → ((j : ℕ) → j < length xs → 0 < get_or xs j 0 → get_or xs j 0 ≡ k → ⊥) → lookup k (collect t xs ss) ≡ none
unfolding collect lookup when◌then◌else◌
collect_none t k [] ss h = refl
collect_none t k (x ∷ xs) [] h = refl
collect_none t k (x ∷ xs) (s ∷ ss) h =
    let r = collect_none t k xs ss (λ j a. h (suc j) (omega arith)) in
    by_eq x 0
    (λ e. rw (eq-eqb x 0 e) r)
    (λ n. by_bool (t s.state) (λ b. rw (ne_eqb x 0 n, b, ne_eqb x k (h 0 (omega arith) (omega (arith, n)))) r) (λ b. rw (ne_eqb x 0 n, b) r))

others_not : (x : ℕ) (xs : List ℕ) → Unique (x ∷ xs) → 0 < x → (j : ℕ) → j < length xs → get_or xs j 0 ≡ x → ⊥
others_not x xs u z j a e = omega (arith, u 0 (suc j) (omega arith) (omega arith) z (sym e))

collect_finds : (t : Class) (k : ℕ) (xs : List ℕ) (ss : List Slot) → Unique xs → AllUsed xs ss → 0 < k → only t (look k xs ss) ≡ lookup k (collect t xs ss)
unfolding collect lookup look only when◌then◌else◌
collect_finds t k [] ss u a z = refl
collect_finds t k (x ∷ xs) [] u a z = refl
collect_finds t k (x ∷ xs) (s ∷ ss) u a z =
    by_eq x k
    (λ e. let n : x ≡ 0 → ⊥ = λ q. omega arith in
    by_bool (t s.state)
    (λ b. rw (eq-eqb x k e, ne_eqb x 0 n, b, eq-eqb x k e) (ap (λ (y : Slot). some y) (sym (cell_of x s (a 0 (omega arith)).1))))
    (λ b. rw (eq-eqb x k e, ne_eqb x 0 n, b) (sym (collect_none t k xs ss (λ j i p q. others_not x xs u (omega arith) j i (q ∙ sym e))))))
    (λ d. let r = collect_finds t k xs ss (unique_tail x xs u) (λ j. a (suc j)) z in
    by_eq x 0
    (λ e. rw (ne_eqb x k d, eq-eqb x 0 e) r)
    (λ n. by_bool (t s.state) (λ b. rw (ne_eqb x k d, ne_eqb x 0 n, b, ne_eqb x k d) r) (λ b. rw (ne_eqb x k d, ne_eqb x 0 n, b) r)))

collect_once : (t : Class) (xs : List ℕ) (ss : List Slot) → Unique xs → Once (collect t xs ss)
unfolding collect when◌then◌else◌
collect_once t [] ss u = tt
collect_once t (x ∷ xs) [] u = tt
collect_once t (x ∷ xs) (s ∷ ss) u =
    let r = collect_once t xs ss (unique_tail x xs u) in
    by_eq x 0
    (λ e. rw (eq-eqb x 0 e) r)
    (λ n. by_bool (t s.state) (λ b. rw (ne_eqb x 0 n, b) (collect_none t x xs ss (λ j i p. others_not x xs u (omega (arith, n)) j i), r)) (λ b. rw (ne_eqb x 0 n, b) r))

pub agrees_collect : (t : Class) (xs : List ℕ) (ss : List Slot) → Unique xs → AllUsed xs ss → Agrees t xs ss (collect t xs ss)
agrees_collect t xs ss u a = record {
  finds = λ k z. collect_finds t k xs ss u a z;
  named = collect_none t 0 xs ss (λ j i p e. omega arith);
  once = collect_once t xs ss u;
}

-- ── Counting ───────────────────────────────────────────────────────────────────────────────────────────────────────────

lookup_head : (c : Conn) (l : List Conn) → lookup c.id (c ∷ l) ≡ some (cell c)
unfolding lookup when◌then◌else◌
lookup_head c l = rw (eq-eqb c.id c.id refl)

lookup_later : (k : ℕ) (c : Conn) (l : List Conn) → (c.id ≡ k → ⊥) → lookup k (c ∷ l) ≡ lookup k l
unfolding lookup when◌then◌else◌
lookup_later k c l h = rw (ne_eqb c.id k h)

lookup_nobody : (k : ℕ) → lookup k [] ≡ none
unfolding lookup
lookup_nobody k = refl

same_length : (l k : List Conn) → Once l → Once k → ((n : ℕ) → lookup n l ≡ lookup n k) → length l ≡ length k
same_length [] [] o q h = refl
same_length [] (c ∷ k) o q h = none_not_some (lookup c.id (c ∷ k)) (cell c) (sym (h c.id) ∙ lookup_nobody c.id) (lookup_head c k)
same_length (c ∷ l) k o q h =
    let f : lookup c.id k ≡ some (cell c) = sym (h c.id) ∙ lookup_head c l in
    let r = same_length l (without c.id k) o.1 (once_without c.id k q)
    (λ n. by_eq c.id n
    (λ e. ap (λ (x : ℕ). lookup x l) (sym e) ∙ o.0 ∙ sym (lookup_gone c.id k q) ∙ ap (λ (x : ℕ). lookup x (without c.id k)) e)
    (λ d. sym (lookup_later n c l d) ∙ h n ∙ sym (lookup_other n c.id k (λ y. d (sym y))))) in
    omega (arith, r, length_without c.id k (cell c) f)

-- a list that agrees with a class has as many as the class
pub as_many : (t : Class) (xs : List ℕ) (ss : List Slot) (l : List Conn) → Unique xs → AllUsed xs ss → Agrees t xs ss l → length l ≡ many t xs ss
as_many t xs ss l u us a =
    let c = agrees_collect t xs ss u us in
    same_length l (collect t xs ss) a.once c.once
    (λ n. by_eq n 0
    (λ e. ap (λ (x : ℕ). lookup x l) e ∙ a.named ∙ sym c.named ∙ ap (λ (x : ℕ). lookup x (collect t xs ss)) (sym e))
    (λ d. sym (a.finds n (omega (arith, d))) ∙ c.finds n (omega (arith, d))))

-- a state is of exactly one class
tally : (k : ℕ) → 0 < k → k ≤ 6 → one_if (is_shelved k) + one_if (is_lent k) + one_if (is_pending k) ≡ 1
tally zero z h = absurd (omega arith)
tally (suc zero) z h = refl
tally (suc (suc zero)) z h = refl
tally (suc (suc (suc zero))) z h = refl
tally (suc (suc (suc (suc zero)))) z h = refl
tally (suc (suc (suc (suc (suc zero))))) z h = refl
tally (suc (suc (suc (suc (suc (suc zero)))))) z h = refl
tally (suc (suc (suc (suc (suc (suc (suc k))))))) z h = absurd (omega arith)

pub many_none : (t : Class) (x : ℕ) (xs : List ℕ) (s : Slot) (ss : List Slot) → x ≡ 0 → many t (x ∷ xs) (s ∷ ss) ≡ many t xs ss
unfolding collect when◌then◌else◌
many_none t x xs s ss e = rw (eq-eqb x 0 e)

pub many_one_if : (t : Class) (x : ℕ) (xs : List ℕ) (s : Slot) (ss : List Slot) → (x ≡ 0 → ⊥) → many t (x ∷ xs) (s ∷ ss) ≡ one_if (t s.state) + many t xs ss
unfolding collect when◌then◌else◌
many_one_if t x xs s ss n = by_bool (t s.state) (λ b. rw (ne_eqb x 0 n, b) (omega arith)) (λ b. rw (ne_eqb x 0 n, b) (omega arith))

nothing_taken : (ss : List Slot) → taken [] ≡ many is_shelved [] ss + many is_lent [] ss + many is_pending [] ss
unfolding taken collect
nothing_taken ss = refl

pub taken_cons : (x : ℕ) (xs : List ℕ) → taken (x ∷ xs) ≡ one x + taken xs
unfolding taken
taken_cons x xs = refl

pub split : (xs : List ℕ) (ss : List Slot) → length ss ≡ length xs → AllUsed xs ss → taken xs ≡ many is_shelved xs ss + many is_lent xs ss + many is_pending xs ss
split [] ss l h = omega (arith, nothing_taken ss)
split (x ∷ xs) [] l h = absurd (omega arith)
split (x ∷ xs) (s ∷ ss) l h =
    let r = split xs ss (omega arith) (λ j z. h (suc j) z) in
    by_eq x 0
    (λ e. omega (arith, r, taken_cons x xs, ap one e ∙ one_zero, many_none is_shelved x xs s ss e, many_none is_lent x xs s ss e, many_none is_pending x xs s ss e))
    (λ n. let z : 0 < x = omega (arith, n) in
    omega (arith, r, taken_cons x xs, one_pos x z, tally s.state (h 0 z).0 (h 0 z).1, many_one_if is_shelved x xs s ss n, many_one_if is_lent x xs s ss n, many_one_if is_pending x xs s ss n))

pub rules_stand : (p : SlotPool) → Rules p → Stands p (lists_of p)
rules_stand p r =
    let n = p.availables in
    let v : length (view p.ids p.slots (take n p.available)) ≡ n = simp length-map (length-take-le n p.available (omega (arith, r.fits, r.columns.available))) in
    let s = split p.ids p.slots (omega (arith, r.columns.ids, r.columns.slots)) r.used in
    record {
      alike = alike_lists p _ _ _ r.serial r.limits (record { room = r.columns.waiters; fits = r.queue; waits = refl; rest = r.queue_rest; rises = r.rises });
      table = record {
        mirror = record {
          long_ids = r.columns.ids;
          long_slots = r.columns.slots;
          unique = r.unique;
          below = r.below;
          blank = r.blank;
          used = r.used;
          listed = r.listed;
          distinct = r.distinct;
          available = refl;
          lent = agrees_collect is_lent p.ids p.slots r.unique r.used;
          pending = agrees_collect is_pending p.ids p.slots r.unique r.used;
        };
        room = r.columns.available;
        fits = r.fits;
        rest = r.rest;
        total = omega (arith, r.total, s, v, r.shelved);
        pendings = r.pending;
        holds = r.total;
      };
    }

-- what the state says is said of the counts on slots as of the lists
state_same : {p : SlotPool} {m : Pool} → Stands p m
    → state_fits p.state p.generation p.next_id p.total p.availables p.waitings ≡ state_fits m.state m.generation m.next_id (P.total m) (length m.available) (length m.waiting)
state_same {p} {m} st =
    rw (st.alike.state, st.alike.generation, st.alike.next_id, st.table.total, sym (counted st.table), sym (waiters_counted st.alike.queue))

pub rules_reached : (p : SlotPool) → Rules p → Reached (lists_of p)
unfolding Stated
rules_reached p r =
    let st = rules_stand p r in
    record {
      ordered = r.limits.minimum;
      fits = omega (arith, st.table.total, r.bounded);
      short = omega (arith, waiters_counted st.alike.queue, r.queue);
      state = sym (state_same st) ∙ r.state;
    }

pub rules_formed : (p : SlotPool) → Rules p → Formed p
rules_formed p r = record { lists = lists_of p; stands = rules_stand p r; reached = rules_reached p r; sited = r.sited; numbers = r.numbers }

-- and every formed pool keeps them
pub formed_rules : (p : SlotPool) → Formed p → Rules p
unfolding Stated
formed_rules p f =
    let st = f.stands in
    let k = st.table.mirror in
    let le = as_many is_lent p.ids p.slots f.lists.lent k.unique k.used k.lent in
    let pe = as_many is_pending p.ids p.slots f.lists.pending k.unique k.used k.pending in
    let s = split p.ids p.slots (omega (arith, k.long_ids, k.long_slots)) k.used in
    record {
      limits = st.alike.limits;
      columns = whole st;
      unique = k.unique;
      below = k.below;
      blank = k.blank;
      used = k.used;
      fits = st.table.fits;
      listed = k.listed;
      distinct = k.distinct;
      rest = st.table.rest;
      shelved = omega (arith, s, le, pe, st.table.total, st.table.holds, counted st.table);
      pending = st.table.pendings ∙ pe;
      total = st.table.holds;
      queue = st.alike.queue.fits;
      queue_rest = st.alike.queue.rest;
      rises = rw st.alike.queue.waits st.alike.queue.rises;
      serial = rw st.alike.serial (mod-lt f.lists.written {m = 4294967296} (omega arith));
      numbers = f.numbers;
      bounded = omega (arith, st.table.total, f.reached.fits, ap (λ (o : Options). o.maximum) st.alike.options);
      state = state_same st ∙ f.reached.state;
      sited = f.sited;
    }
