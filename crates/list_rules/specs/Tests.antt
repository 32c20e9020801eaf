-- The rules on the available list and on the queue: what each function of the code gives, said of the columns that it is lent.
use Rattle.std.specs.Prelude.{Bool, not, ◌&&◌, ◌||◌, List, ℕ, zero, suc, ◌/◌, get_or}
use Rattle.definition.specs.Words.{◌=?◌, ◌<?◌, ◌≤?◌}
use Rattle.definition.specs.Pool.{queue_length, slot_count}
use Rattle.refinement.specs.Rules.{is_shelved}
use Rattle.slot_rules.specs.Tests.{every, among}

-- ── One cell ───────────────────────────────────────────────────────────────────────────────────────────────────────────

-- past the first n stands 0
abbrev pub blank_past : ℕ → ℕ → ℕ → Bool
blank_past n i x = i <? n || x =? 0

-- the request id of the waiter before place i; b before the front
abbrev pub before : ℕ → List ℕ → ℕ → ℕ
before b l zero = b
before b l (suc i) = get_or l i 0 / 4

abbrev pub waiter_fits : ℕ → ℕ → ℕ → Bool
waiter_fits b id last = b <? id && id ≤? last

-- ── The rules ──────────────────────────────────────────────────────────────────────────────────────────────────────────

-- what place i of the order list names is a slot, checked in, and not named before
abbrev pub listed_at : List ℕ → List ℕ → ℕ → Bool
listed_at order states i = get_or order i 0 <? slot_count && (is_shelved (get_or states (get_or order i 0) 0) && not (among (get_or order i 0) i order))

unfoldable pub order_right : List ℕ → List ℕ → ℕ → Bool
order_right order states n = n ≤? slot_count && every n (listed_at order states)

unfoldable pub blank_from : ℕ → ℕ → List ℕ → Bool
blank_from size n l = every size (λ i. blank_past n i (get_or l i 0))

unfoldable pub queue_rises : List ℕ → ℕ → ℕ → Bool
queue_rises waiters n last = n ≤? queue_length && every n (λ i. waiter_fits (before 0 waiters i) (get_or waiters i 0 / 4) last)
