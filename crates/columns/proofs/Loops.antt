-- One turn and the end of the loop that takes the slots apart, and of the one that puts them together.
use mathlib.Core.Path.{◌≡◌, refl, sym, ap, ◌∙◌}
use mathlib.Core.List.{List, [], ◌∷◌, map}
use Prim.Native.Nat.{ℕ, zero, suc, ◌+◌, ◌≤◌, ◌<◌}
use native.Mathlib.Numerals.{add-one}
use native.Mathlib.Omega.{arith}
use lib.ListN.{length, get_or, set, take, length-map, length-set}
use lib.Seq.{take-suc, take-suc-set, take_all}
use Rattle.definition.specs.Pool.{slot_count, state_no}
use Rattle.slots.specs.View as Of
use Rattle.slots.specs.View.{pool_in, vacant, Whole}
use Rattle.slots.specs.Columns.{zip_at, zip_long}
use Rattle.slots.specs.Parts.{slots_at}
use Rattle.columns.specs.View.{id_of, generation_of, time_of, code_of, value_at, slot_values, worker_of, pool_from}
use Rattle.pool.specs.declared.Slot.{Slot}
use Rattle.pool.specs.declared.Pool.{Pool}
use Rattle.slots.specs.declared.Head.{Head}
use Rattle.slots.specs.declared.ConnectionPoolWorker.{ConnectionPoolWorker}

-- ── A column written from the front ────────────────────────────────────────────────────────────────────────────────────

-- the first i of c are those of xs
pub record Column {A : Type 0} (xs c : List A) (i : ℕ) : Type 0 where
  pub long : length c ≡ slot_count
  pub front : take i c ≡ take i xs

one_more : {A : Type 0} (xs c : List A) (d v : A) (i : ℕ) → i < length c → i < length xs → v ≡ get_or xs i d → take i c ≡ take i xs
    → take (i + 1) (set c i v) ≡ take (i + 1) xs
one_more xs c d v i h k e r = rw (add-one i, take-suc-set c i v h, take-suc xs i d k, e, r)

column_more : {A : Type 0} (xs c : List A) (d v : A) (i : ℕ) → i < slot_count → length xs ≡ slot_count → v ≡ get_or xs i d
    → Column xs c i → Column xs (set c i v) (i + 1)
column_more xs c d v i low l e o = record {
  long = simp length-set o.long;
  front = one_more xs c d v i (omega (arith, o.long)) (omega arith) e o.front;
}

column_end : {A : Type 0} (xs c : List A) (i : ℕ) → i ≡ slot_count → length xs ≡ slot_count → Column xs c i → c ≡ xs
column_end xs c i e l o = sym (take_all i c (omega (arith, o.long))) ∙ o.front ∙ take_all i xs (omega arith)

-- cell i of what a list gives
got : {A : Type 0} (f : A → ℕ) (l : List A) (i : ℕ) (d : A) → i < length l → get_or (map f l) i 0 ≡ f (get_or l i d)
got f [] i d h = absurd (omega arith)
got f (x ∷ l) zero d h = refl
got f (x ∷ l) (suc i) d h = got f l i d (omega arith)

-- ── Taken apart ────────────────────────────────────────────────────────────────────────────────────────────────────────

-- of what the slots hold, the first i are taken
pub record Taking (ss : List Slot) (i : ℕ) (xs gs ts ks : List ℕ) : Type 0 where
  pub some : i ≤ slot_count
  pub ids : Column (map id_of ss) xs i
  pub generations : Column (map generation_of ss) gs i
  pub times : Column (map time_of ss) ts i
  pub states : Column (map code_of ss) ks i

module _ (ss : List Slot) (i : ℕ) (xs gs ts ks : List ℕ) (ls : length ss ≡ slot_count) (t : Taking ss i xs gs ts ks) where
  map_long : (f : Slot → ℕ) → length (map f ss) ≡ slot_count
  map_long f = length-map ss f ∙ ls

  pub taking_more : (d s : Slot) (k : ℕ) → i < slot_count → s ≡ get_or ss i d → k ≡ state_no s.state
      → Taking ss (i + 1) (set xs i s.id) (set gs i s.generation) (set ts i s.time) (set ks i k)
  taking_more d s k low e ek =
      let at : (f : Slot → ℕ) → f s ≡ get_or (map f ss) i 0 = λ f. ap f e ∙ sym (got f ss i d (omega arith)) in
      record {
        some = omega arith;
        ids = column_more (map id_of ss) xs 0 s.id i low (map_long id_of) (at id_of) t.ids;
        generations = column_more (map generation_of ss) gs 0 s.generation i low (map_long generation_of) (at generation_of) t.generations;
        times = column_more (map time_of ss) ts 0 s.time i low (map_long time_of) (at time_of) t.times;
        states = column_more (map code_of ss) ks 0 k i low (map_long code_of) (ek ∙ at code_of) t.states;
      }

  pub taking_end : i ≡ slot_count → (h : Head) (av ws : List ℕ)
      → ◌≡◌ {A = ConnectionPoolWorker} (record { head = h; ids = xs; generations = gs; times = ts; states = ks; available = av; waiters = ws })
      (worker_of (record { head = h; slots = ss; available = av; waiters = ws }))
  taking_end e h av ws = rw (
    column_end (map id_of ss) xs i e (map_long id_of) t.ids,
    column_end (map generation_of ss) gs i e (map_long generation_of) t.generations,
    column_end (map time_of ss) ts i e (map_long time_of) t.times,
    column_end (map code_of ss) ks i e (map_long code_of) t.states,
  )

-- ── Put together ───────────────────────────────────────────────────────────────────────────────────────────────────────

module _ (w : ConnectionPoolWorker) (whole : Whole (pool_in w)) where
  values_long : length (slot_values w) ≡ slot_count
  values_long = zip_long _ w.ids (pool_in w).slots slot_count whole.ids whole.slots

  values_at : (i : ℕ) (d : Slot) → i < slot_count → get_or (slot_values w) i d ≡ value_at w i
  values_at i d low =
      zip_at _ w.ids (pool_in w).slots i 0 vacant d (omega (arith, values_long)) ∙ rw (slots_at w.generations w.times w.states whole.slots i low)

  module _ (i : ℕ) (slots : List Slot) (t : Column (slot_values w) slots i) where
    pub putting_more : (s : Slot) → i < slot_count → s ≡ value_at w i → Column (slot_values w) (set slots i s) (i + 1)
    putting_more s low e = column_more (slot_values w) slots s s i low values_long (e ∙ sym (values_at i s low)) t

    pub putting_end : i ≡ slot_count → {available : List ℕ} → available ≡ w.available → ◌≡◌ {A = Pool} (record { head = w.head; slots = slots; available = available; waiters = w.waiters }) (pool_from (pool_in w))
    unfolding pool_from
    putting_end e a = rw (column_end (slot_values w) slots i e values_long t, a)
