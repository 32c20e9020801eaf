-- The slots, the order list, and the three lists that they stand for.
use Rattle.std.specs.Prelude.{◌≡◌, refl, ◌≢◌, true, false, List, [], ◌∷◌, ◌++◌, map, ℕ, zero, suc, ◌≤◌, ◌<◌, length, get_or, set}
use Rattle.std.proofs.Common.{ap, sym, ◌∙◌, arith, length-set, get_or-set_same, get_or-set_other}
use Rattle.std.proofs.lemmas.List.{map-append}
use Rattle.definition.specs.Booleans.{by_eq}
use Rattle.definition.specs.Words.{◌∷ʳ◌}
use Rattle.definition.specs.Pool.{slot_count, Conn, without}
use Rattle.definition.specs.Steps.{◌to◌holds◌}
use Rattle.definition.specs.declared.ConnectionState.TheVariants.{CheckedIn}
use Rattle.slots.specs.View.{Slot, vacant}
use Rattle.refinement.specs.Table.{Unique, Fresh, fresh_old, unique_put, cell, conn_in}
use Rattle.refinement.specs.Agree.{Class, Agrees, agrees_same, agrees_in, agrees_out}

-- the classes: lent (2 to 4), pending (5 and 6)
abbrev pub is_lent : Class
is_lent k = 2 to 4 holds k

abbrev pub is_pending : Class
is_pending k = 5 to 6 holds k

-- ── Lists of slots ─────────────────────────────────────────────────────────────────────────────────────────────────────

abbrev pub All : {A : Type 0} → (A → Type 0) → List A → Type 0
All P [] = Unit {0}
All P (x ∷ l) = P x × All P l

abbrev pub Distinct : List ℕ → Type 0
Distinct [] = Unit {0}
Distinct (x ∷ l) = All (λ y. y ≢ x) l × Distinct l

pub all_map : {A : Type 0} {P Q : A → Type 0} (l : List A) → ((x : A) → P x → Q x) → All P l → All Q l
all_map [] f a = tt
all_map (x ∷ l) f a = (f x a.0, all_map l f a.1)

all_both : {A : Type 0} (P Q : A → Type 0) (l : List A) → All P l → All Q l → All (λ x. P x × Q x) l
all_both P Q [] a b = tt
all_both P Q (x ∷ l) a b = ((a.0, b.0), all_both P Q l a.1 b.1)

pub all_snoc : {A : Type 0} (P : A → Type 0) (l : List A) (x : A) → All P l → P x → All P (l ++ x ∷ [])
all_snoc P [] x a p = (p, tt)
all_snoc P (y ∷ l) x a p = (a.0, all_snoc P l x a.1 p)

all_init : {A : Type 0} (P : A → Type 0) (l : List A) (x : A) → All P (l ++ x ∷ []) → All P l
all_init P [] x a = tt
all_init P (y ∷ l) x a = (a.0, all_init P l x a.1)

pub all_last : {A : Type 0} (P : A → Type 0) (l : List A) (x : A) → All P (l ++ x ∷ []) → P x
all_last P [] x a = a.0
all_last P (y ∷ l) x a = all_last P l x a.1

pub all_at : (P : ℕ → Type 0) (l : List ℕ) → All P l → (j : ℕ) → j < length l → P (get_or l j 0)
all_at P [] a j h = absurd (omega arith)
all_at P (x ∷ l) a zero h = a.0
all_at P (x ∷ l) a (suc j) h = all_at P l a.1 j (omega arith)

distinct_snoc : (l : List ℕ) (s : ℕ) → Distinct l → All (λ e. e ≢ s) l → Distinct (l ++ s ∷ [])
distinct_snoc [] s d a = (tt, tt)
distinct_snoc (x ∷ l) s d a = (all_snoc (λ y. y ≢ x) l s d.0 (λ e. a.0 (sym e)), distinct_snoc l s d.1 a.1)

distinct_init : (l : List ℕ) (s : ℕ) → Distinct (l ++ s ∷ []) → Distinct l
distinct_init [] s d = tt
distinct_init (x ∷ l) s d = (all_init (λ y. y ≢ x) l s d.0, distinct_init l s d.1)

pub distinct_last : (l : List ℕ) (s : ℕ) → Distinct (l ++ s ∷ []) → All (λ e. e ≢ s) l
distinct_last [] s d = tt
distinct_last (x ∷ l) s d = ((λ e. all_last (λ y. y ≢ x) l s d.0 (sym e)), distinct_last l s d.1)

-- ── The view ───────────────────────────────────────────────────────────────────────────────────────────────────────────

-- the available connection of slot i
abbrev pub conn_at : List ℕ → List Slot → ℕ → Conn
conn_at xs ss i = conn_in (get_or xs i 0) (get_or ss i vacant) CheckedIn

abbrev pub view : List ℕ → List Slot → List ℕ → List Conn
view xs ss o = map (conn_at xs ss) o

view_put : (xs : List ℕ) (ss : List Slot) (i v : ℕ) (s : Slot) (o : List ℕ) → All (λ e. e ≢ i) o → view (set xs i v) (set ss i s) o ≡ view xs ss o
view_put xs ss i v s [] a = refl
view_put xs ss i v s (e ∷ o) a = rw (get_or-set_other xs i e v 0 a.0, get_or-set_other ss i e s vacant a.0, view_put xs ss i v s o a.1)

-- a slot of the order list: it holds a checked-in connection
abbrev pub Listed : List ℕ → List Slot → ℕ → Type 0
Listed xs ss e = (e < slot_count) × (0 < get_or xs e 0) × ((get_or ss e vacant).state ≡ 1)

listed_put : (xs : List ℕ) (ss : List Slot) (i v : ℕ) (s : Slot) (e : ℕ) → e ≢ i → Listed xs ss e → Listed (set xs i v) (set ss i s) e
listed_put xs ss i v s e n h = rw (get_or-set_other xs i e v 0 n, get_or-set_other ss i e s vacant n) h

-- a state that a connection can have
abbrev pub Used : Slot → Type 0
Used s = (0 < s.state) × (s.state ≤ 6)

-- ids xs beside slots ss, the order list o, and the available, lent and pending connections
pub record Mirror (xs : List ℕ) (ss : List Slot) (o : List ℕ) (next : ℕ) (av le pe : List Conn) : Type 0 where
  pub long_ids : length xs ≡ slot_count
  pub long_slots : length ss ≡ slot_count
  pub unique : Unique xs
  pub below : (j : ℕ) → get_or xs j 0 < next
  pub blank : (j : ℕ) → get_or xs j 0 ≡ 0 → get_or ss j vacant ≡ vacant
  pub used : (j : ℕ) → 0 < get_or xs j 0 → Used (get_or ss j vacant)
  pub listed : All (Listed xs ss) o
  pub distinct : Distinct o
  pub available : view xs ss o ≡ av
  pub lent : Agrees is_lent xs ss le
  pub pending : Agrees is_pending xs ss pe

module _ {xs : List ℕ} {ss : List Slot} {o : List ℕ} {next : ℕ} {av le pe : List Conn} (k : Mirror xs ss o next av le pe) (i : ℕ) (low : i < slot_count) where
  pub in_ids : i < length xs
  in_ids = omega (arith, k.long_ids)

  pub in_slots : i < length ss
  in_slots = omega (arith, k.long_slots)

  pub lengths : length ss ≡ length xs
  lengths = omega (arith, k.long_ids, k.long_slots)

  pub fresh_held : Fresh xs i (get_or xs i 0)
  fresh_held = fresh_old xs i in_ids k.unique

  -- v and s are put into a slot that is not listed: the one law for close, shelve, create, lend and turn
  pub mirror_put : (v : ℕ) (s : Slot) (next' : ℕ) {le' pe' : List Conn} → All (λ e. e ≢ i) o → Fresh xs i v → (v ≡ 0 → s ≡ vacant) → (0 < v → Used s) → v < next' → next ≤ next'
      → Agrees is_lent (set xs i v) (set ss i s) le' → Agrees is_pending (set xs i v) (set ss i s) pe' → Mirror (set xs i v) (set ss i s) o next' av le' pe'
  mirror_put v s next' away f z us b m al ap' = record {
    long_ids = rw length-set k.long_ids;
    long_slots = rw length-set k.long_slots;
    unique = unique_put xs i v in_ids k.unique f;
    below = λ j. by_eq j i (λ e. rw (e, get_or-set_same xs i v 0 in_ids) b) (λ n. rw (get_or-set_other xs i j v 0 n) (omega (arith, k.below j)));
    blank = λ j. by_eq j i (λ e. rw (e, get_or-set_same xs i v 0 in_ids, get_or-set_same ss i s vacant in_slots) z) (λ n. rw (get_or-set_other xs i j v 0 n, get_or-set_other ss i j s vacant n) (k.blank j));
    used = λ j. by_eq j i (λ e. rw (e, get_or-set_same xs i v 0 in_ids, get_or-set_same ss i s vacant in_slots) us) (λ n. rw (get_or-set_other xs i j v 0 n, get_or-set_other ss i j s vacant n) (k.used j));
    listed = all_map {P = λ e. Listed xs ss e × (e ≢ i)} o (λ e a. listed_put xs ss i v s e a.1 a.0) (all_both (Listed xs ss) (λ e. e ≢ i) o k.listed away);
    distinct = k.distinct;
    available = view_put xs ss i v s o away ∙ k.available;
    lent = al;
    pending = ap';
  }

  -- what it does to one class
  module _ (t : Class) (v : ℕ) (s : Slot) (f : Fresh xs i v) {l : List Conn} (a : Agrees t xs ss l) where
    pub same : (0 < get_or xs i 0 → t (get_or ss i vacant).state ≡ false) → (0 < v → t s.state ≡ false) → Agrees t (set xs i v) (set ss i s) l
    same p q = agrees_same t xs ss i v s lengths in_ids k.unique f p q a

    pub into : (c : Conn) → c.id ≡ v → cell c ≡ s → 0 < v → (0 < get_or xs i 0 → t (get_or ss i vacant).state ≡ false) → t s.state ≡ true → Agrees t (set xs i v) (set ss i s) (l ∷ʳ c)
    into c ci cs z p q = agrees_in t xs ss i v s lengths in_ids k.unique f c ci cs z p q a

    pub out : 0 < get_or xs i 0 → (0 < v → v ≡ get_or xs i 0) → (0 < v → t s.state ≡ false) → Agrees t (set xs i v) (set ss i s) (without (get_or xs i 0) l)
    out z w q = agrees_out t xs ss i v s lengths in_ids k.unique f z w q a

  -- a slot that is not checked in is not listed
  pub unlisted : (get_or ss i vacant).state ≢ 1 → All (λ e. e ≢ i) o
  unlisted h = all_map {P = Listed xs ss} o (λ e a q. h (ap (λ (x : ℕ). (get_or ss x vacant).state) (sym q) ∙ a.2)) k.listed

  -- a slot goes to the back of the order list
  pub mirror_list : All (λ e. e ≢ i) o → 0 < get_or xs i 0 → (get_or ss i vacant).state ≡ 1 → Mirror xs ss (o ++ i ∷ []) next (av ∷ʳ conn_at xs ss i) le pe
  mirror_list away z h = record {
    long_ids = k.long_ids;
    long_slots = k.long_slots;
    unique = k.unique;
    below = k.below;
    blank = k.blank;
    used = k.used;
    listed = all_snoc (Listed xs ss) o i k.listed (low, z, h);
    distinct = distinct_snoc o i k.distinct away;
    available = rw (map-append, ← k.available);
    lent = k.lent;
    pending = k.pending;
  }

-- the front leaves the order list, or the back
pub mirror_front : {xs : List ℕ} {ss : List Slot} {e : ℕ} {o : List ℕ} {next : ℕ} {av le pe : List Conn} → Mirror xs ss (e ∷ o) next av le pe → Mirror xs ss o next (view xs ss o) le pe
mirror_front k = record {
  long_ids = k.long_ids;
  long_slots = k.long_slots;
  unique = k.unique;
  below = k.below;
  blank = k.blank;
  used = k.used;
  listed = k.listed.1;
  distinct = k.distinct.1;
  available = refl;
  lent = k.lent;
  pending = k.pending;
}

pub mirror_back : {xs : List ℕ} {ss : List Slot} (e : ℕ) (o : List ℕ) {next : ℕ} {av le pe : List Conn} → Mirror xs ss (o ++ e ∷ []) next av le pe → Mirror xs ss o next (view xs ss o) le pe
mirror_back e o k = record {
  long_ids = k.long_ids;
  long_slots = k.long_slots;
  unique = k.unique;
  below = k.below;
  blank = k.blank;
  used = k.used;
  listed = all_init _ o e k.listed;
  distinct = distinct_init o e k.distinct;
  available = refl;
  lent = k.lent;
  pending = k.pending;
}
