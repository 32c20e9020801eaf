-- The structure test of a pool value, and what a call of it is, case by case.
use Rattle.std.specs.Prelude.{◌≡◌, refl, Bool, true, false, List, ℕ, ◌≤◌, ◌<◌, length}
use Rattle.std.proofs.Math.Path.{sym, ap}
use Rattle.std.proofs.Common.{subst, ◌∙◌, lt-ltb, le-ltb}
use Rattle.std.proofs.lemmas.Bool.{false≢true}
use Rattle.std.proofs.lemmas.List.{length-map}
use Rattle.definition.specs.Pool.{queue_length, slot_count}
use Rattle.definition.specs.Words.{when◌then◌else◌}
use Rattle.definition.specs.Refusals.{enough_room}
use Rattle.definition.specs.Bytes.{frame_of}
use Rattle.definition.specs.declared.Frame.{Frame}
use Rattle.definition.specs.declared.Refusal.TheVariants.{OutputShort, Malformed}
use Rattle.slots.specs.View.{SlotPool, pool_in, Whole}
use Rattle.slots.specs.Call.{world, call}
use Rattle.slots.specs.declared.ConnectionPoolWorker.{ConnectionPoolWorker}
use Rattle.slots.specs.Outcome.{Outcome}
use Rattle.std.specs.declared.result.Result.TheVariants.{Err}
use Rattle.rules.specs.Exact.{Exactly, exactly}
use Rattle.columns.specs.View.{id_of, seen, view_of, worker_of, pool_from}
use Rattle.entry.specs.Entry.{entered, keeps, back, entry}
use Rattle.columns.specs.Laws.{view_columns}
use Rattle.pool.specs.declared.Pool.{Pool}

-- what the types of the code say of every pool value
pub record Typed (p : Pool) : Type 0 where
  pub slots : length p.slots ≡ slot_count
  pub available : length p.available ≡ slot_count
  pub waiters : length p.waiters ≡ queue_length
  pub serial : p.head.serial < 4294967296

pub view_whole : (p : Pool) → Typed p → Whole (view_of p)
view_whole p t = record {
  ids = length-map p.slots id_of ∙ t.slots;
  slots = length-map p.slots seen ∙ t.slots;
  available = t.available;
  waiters = t.waiters;
}

-- ── The test ───────────────────────────────────────────────────────────────────────────────────────────────────────────

-- it is exact: a pool value passes exactly where its view keeps the rules
pub keeps_exact : (p : Pool) → Typed p → Exactly (keeps p) (view_of p)
keeps_exact p t =
    let e = view_columns p in
    subst (λ (v : SlotPool). Exactly (keeps p) v) (sym e) (exactly (worker_of p) (keeps p) (subst Whole e (view_whole p t)) t.serial refl)

-- and any other exact one says the same
pub same_test : (a b : Bool) (v : SlotPool) → Exactly a v → Exactly b v → a ≡ b
same_test true true v x y = refl
same_test true false v x y = absurd (false≢true (y.complete (x.sound refl)))
same_test false true v x y = absurd (false≢true (x.complete (y.sound refl)))
same_test false false v x y = refl

-- ── A call, case by case ───────────────────────────────────────────────────────────────────────────────────────────────

module _ (p : Pool) (b l : List ℕ) where
  pub entry_short : length l < enough_room → entry p b l ≡ entered p l (Err OutputShort)
  unfolding entry when◌then◌else◌
  entry_short h = rw (lt-ltb (length l) enough_room h)

  pub entry_broken : enough_room ≤ length l → keeps p ≡ false → entry p b l ≡ entered p l (Err Malformed)
  unfolding entry when◌then◌else◌
  entry_broken h k = rw (le-ltb (length l) enough_room h, k)

  pub entry_kept : enough_room ≤ length l → keeps p ≡ true → entry p b l ≡ back (call (view_of p) l (frame_of b))
  unfolding entry when◌then◌else◌
  entry_kept h k = rw (le-ltb (length l) enough_room h, k)

-- ── What the code does ─────────────────────────────────────────────────────────────────────────────────────────────────

module _ (p : Pool) (t : Typed p) {w : ConnectionPoolWorker} (a : w ≡ worker_of p) where
  -- the worker that was made works on the view
  worker_view : pool_in w ≡ view_of p
  worker_view = ap (λ (x : ConnectionPoolWorker). pool_in x) a ∙ sym (view_columns p)

  -- k is what the test of the worker said
  module _ {k : Bool} (x : Exactly k (pool_in w)) (b l : List ℕ) (room : enough_room ≤ length l) where
    worker_test : keeps p ≡ k
    worker_test = same_test (keeps p) k (view_of p) (keeps_exact p t) (subst (λ (v : SlotPool). Exactly k v) worker_view x)

    pub step_broken : k ≡ false → entered p l (Err Malformed) ≡ entry p b l
    step_broken e = sym (entry_broken p b l room (worker_test ∙ e))

    pub step_done : k ≡ true → {f : Frame} → f ≡ frame_of b → {v : SlotPool} {l' : List ℕ} {o : Outcome} {q : Pool}
        → world v l' o ≡ call (pool_in w) l f → q ≡ pool_from v → entered q l' o ≡ entry p b l
    step_done e {f} ef {v} {l'} {o} {q} c n =
        ap (λ (y : Pool). entered y l' o) n
        ∙ ap back (c ∙ ap (λ (z : SlotPool). call z l f) worker_view ∙ ap (call (view_of p) l) ef)
        ∙ sym (entry_kept p b l room (worker_test ∙ e))
