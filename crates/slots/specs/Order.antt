-- Order lists: compact at the front of a column.
use Rattle.std.specs.Prelude.{List, ◌∷◌, ◌++◌, ℕ, zero, suc, ◌-◌, ◌/◌, take, drop, get_or}
use Rattle.definition.specs.Words.{when◌then◌else◌, ◌=?◌}
use Rattle.definition.specs.Pool.{slot_count}

-- of the first n, the first place that holds a number, read by f; n where there is none
unfoldable pub place_by : (ℕ → ℕ) → ℕ → ℕ → List ℕ → ℕ
place_by f x zero l = 0
place_by f x (suc n) l = when f (get_or l 0 0) =? x then 0 else suc (place_by f x n (drop 1 l))

abbrev pub place : ℕ → ℕ → List ℕ → ℕ
place = place_by (λ v. v)

-- the slot that holds an id, slot_count where none does; and a slot that is free, slot_count where none is. Where the search begins is
-- known to the laws in OrderLaws alone
unfoldable pub slot_holding : (id : ℕ) → (ids : List ℕ) → ℕ
slot_holding id ids = place id slot_count ids

unfoldable pub vacant_slot : (ids : List ℕ) → ℕ
vacant_slot ids = place 0 slot_count ids

-- of waiters, each four times its id, and its marks
abbrev pub place_of : ℕ → ℕ → List ℕ → ℕ
place_of = place_by (λ v. v / 4)

-- of the first n the front leaves, and a 0 stands last of them
unfoldable pub shifted : ℕ → List ℕ → List ℕ
shifted n l = take (n - 1) (drop 1 l) ++ 0 ∷ drop n l
