-- A pool value and its columns have the same view, a pool value is that of its view, and equal views are equal pools.
use Rattle.std.specs.Prelude.{◌≡◌, refl, List, [], ◌∷◌, map, ℕ, suc, ◌≤◌, length, get_or}
use Rattle.std.proofs.Common.{sym, ap, ◌∙◌, arith}
use Rattle.definition.specs.Laws.{state_back, number_back}
use Rattle.slots.specs.Columns.{zip}
use Rattle.slots.specs.Parts.{slots_map}
use Rattle.slots.specs.View as Of
use Rattle.slots.specs.View.{SlotPool, pool_in, vacant}
use Rattle.columns.specs.View.{id_of, generation_of, time_of, code_of, seen, view_of, worker_of, together, pool_from}
use Rattle.pool.specs.declared.Slot.{Slot}
use Rattle.pool.specs.declared.Pool.{Pool}

-- ── The columns are the view's ─────────────────────────────────────────────────────────────────────────────────────────

pub view_columns : (p : Pool) → view_of p ≡ pool_in (worker_of p)
view_columns p = rw (slots_map generation_of time_of code_of p.slots)

-- ── There and back ─────────────────────────────────────────────────────────────────────────────────────────────────────

together_seen : (ss : List Slot) → together (map id_of ss) (map seen ss) ≡ ss
unfolding zip
together_seen [] = refl
together_seen (s ∷ ss) = rw (state_back s.state, together_seen ss)

-- a pool value is that of its view
pub back_view : (p : Pool) → pool_from (view_of p) ≡ p
unfolding pool_from
back_view p =
    ap (λ (ss : List Slot). record { head = p.head; slots = ss; available = p.available; waiters = p.waiters })
    (together_seen p.slots)

-- so equal views are equal pools
pub view_injective : (p q : Pool) → view_of p ≡ view_of q → p ≡ q
view_injective p q e = sym (back_view p) ∙ ap pool_from e ∙ back_view q

ids_together : (xs : List ℕ) (ss : List Of.Slot) → length ss ≡ length xs → map id_of (together xs ss) ≡ xs
unfolding zip
ids_together [] ss l = refl
ids_together (x ∷ xs) [] l = absurd (omega arith)
ids_together (x ∷ xs) (s ∷ ss) l = ap (λ (r : List ℕ). x ∷ r) (ids_together xs ss (omega arith))

seen_together : (xs : List ℕ) (ss : List Of.Slot) → length ss ≡ length xs → ((j : ℕ) → (get_or ss j vacant).state ≤ 6)
    → map seen (together xs ss) ≡ ss
unfolding zip
seen_together [] [] l h = refl
seen_together [] (s ∷ ss) l h = absurd (omega arith)
seen_together (x ∷ xs) [] l h = absurd (omega arith)
seen_together (x ∷ xs) (s ∷ ss) l h = rw (number_back s.state (h 0), seen_together xs ss (omega arith) (λ j. h (suc j)))

-- and a pool on slots is the view of its pool value, where its columns are as long and its states are states
pub view_back : (v : SlotPool) → length v.slots ≡ length v.ids → ((j : ℕ) → (get_or v.slots j vacant).state ≤ 6) → view_of (pool_from v) ≡ v
unfolding pool_from
view_back v l h = rw (ids_together v.ids v.slots l, seen_together v.ids v.slots l h)
