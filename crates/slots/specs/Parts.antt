-- What a change of a worker's columns is to the pool that they make.
use Rattle.std.specs.Prelude.{◌≡◌, List, map, ℕ, ◌<◌, length, set, replicate}
use Rattle.std.proofs.Math.Path.{ap}
use Rattle.std.proofs.Common.{◌∙◌, arith}
use Rattle.std.proofs.Math.ListN.{get_or}
use Rattle.definition.specs.Pool.{slot_count, queue_length}
use Rattle.slots.specs.Columns.{zip, zip_set, zip_set_second, zip_at, zip_long, zip_fits, zip_map, zip_replicate}
use Rattle.slots.specs.View.{SlotPool, Slot, slot, vacant, with_state, with_table, slot_at, slot_in, slots_of, pool_of, pool_in, Whole}
use Rattle.slots.specs.declared.ConnectionPoolWorker.{ConnectionPoolWorker}

-- ── The slots ──────────────────────────────────────────────────────────────────────────────────────────────────────────

abbrev applied : (ℕ → Slot) → ℕ → Slot
applied f s = f s

-- a generation, a time and a state are put in every column
slots_put : (gs ts ss : List ℕ) (i g t s : ℕ) → slots_of (set gs i g) (set ts i t) (set ss i s) ≡ set (slots_of gs ts ss) i (slot g t s)
unfolding slots_of
slots_put gs ts ss i g t s = rw (zip_set slot gs ts i g t) (zip_set applied (zip slot gs ts) ss i (slot g t) s)

-- as many as the columns are long
pub slots_long : (gs ts ss : List ℕ) → length gs ≡ slot_count → length ts ≡ slot_count → length ss ≡ slot_count → length (slots_of gs ts ss) ≡ slot_count
unfolding slots_of
slots_long gs ts ss a b c = zip_long applied (zip slot gs ts) ss slot_count (zip_long slot gs ts slot_count a b) c

-- columns that one list gives
pub slots_map : {A : Type 0} (g t s : A → ℕ) (l : List A) → slots_of (map g l) (map t l) (map s l) ≡ map (λ x. slot (g x) (t x) (s x)) l
unfolding slots_of
slots_map g t s l = rw (zip_map slot g t l) (zip_map applied (λ x. slot (g x) (t x)) s l)

-- a slot is what the columns hold at its place
module _ (gs ts ss : List ℕ) (w : length (slots_of gs ts ss) ≡ slot_count) where
  pub slots_at : (i : ℕ) → i < slot_count → get_or (slots_of gs ts ss) i vacant ≡ slot_in gs ts ss i
  unfolding slots_of
  slots_at i low =
      let o = zip_fits applied (zip slot gs ts) ss in
      zip_at applied (zip slot gs ts) ss i (slot 0 0) 0 vacant (omega (arith, w))
      ∙ rw (zip_at slot gs ts i 0 0 (slot 0 0) (omega (arith, w, o.0)))

  -- in another state, since the time given
  pub slots_set_state : (i t s : ℕ) → i < slot_count
      → slots_of gs (set ts i t) (set ss i s) ≡ set (slots_of gs ts ss) i (with_state s t (get_or (slots_of gs ts ss) i vacant))
  unfolding slots_of
  slots_set_state i t s low =
      let g : (get_or (slots_of gs ts ss) i vacant).generation ≡ get_or gs i 0 = ap (λ (x : Slot). x.generation) (slots_at i low) in
      rw (g, zip_set_second slot gs ts i 0 t) (zip_set applied (zip slot gs ts) ss i (slot (get_or gs i 0) t) s)

-- ── The pool ───────────────────────────────────────────────────────────────────────────────────────────────────────────

module _ (w : ConnectionPoolWorker) where
  abbrev pool : SlotPool
  pool = pool_in w

  -- slot i gets an id, a generation, a time and a state
  pub put_pool : (i x g t s : ℕ)
      → pool_of w.head (set w.ids i x) (set w.generations i g) (set w.times i t) (set w.states i s) w.available w.waiters
      ≡ with_table pool (set pool.ids i x) (set pool.slots i (slot g t s))
  put_pool i x g t s = rw (slots_put w.generations w.times w.states i g t s)

  -- slot i gets a time and a state
  pub state_pool : length pool.slots ≡ slot_count → (i t s : ℕ) → i < slot_count
      → pool_of w.head w.ids w.generations (set w.times i t) (set w.states i s) w.available w.waiters
      ≡ with_table pool pool.ids (set pool.slots i (with_state s t (slot_at pool i)))
  state_pool long i t s low = rw (slots_set_state w.generations w.times w.states long i t s low)

  -- ── What is read ───────────────────────────────────────────────────────────────────────────────────────────────────────

  pub slot_at_lem : Whole pool → (i : ℕ) → i < slot_count → slot_at pool i ≡ slot_in w.generations w.times w.states i
  slot_at_lem whole i low = slots_at w.generations w.times w.states whole.slots i low

  pub generation_at : Whole pool → (i : ℕ) → i < slot_count → (slot_at pool i).generation ≡ get_or w.generations i 0
  generation_at whole i low = ap (λ (s : Slot). s.generation) (slot_at_lem whole i low)

-- ── A worker's columns have their lengths, by its type ──

pub worker_whole : (w : ConnectionPoolWorker)
    → (length w.ids ≡ slot_count) × (length w.generations ≡ slot_count) × (length w.times ≡ slot_count) × (length w.states ≡ slot_count) × (length w.available ≡ slot_count) × (length w.waiters ≡ queue_length)
    → Whole (pool_in w)
worker_whole w h = record { ids = h.0; slots = slots_long w.generations w.times w.states h.1 h.2 h.3; available = h.4; waiters = h.5 }

-- ── A pool whose columns are blank ─────────────────────────────────────────────────────────────────────────────────────

pub slots_blank : slots_of (replicate slot_count 0) (replicate slot_count 0) (replicate slot_count 0) ≡ replicate slot_count vacant
unfolding slots_of
slots_blank = rw (zip_replicate slot slot_count 0 0) (zip_replicate applied slot_count (slot 0 0) 0)
