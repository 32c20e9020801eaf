-- The rules of structure of a pool on slots, with no list in them; a pool is formed exactly where it keeps them.
use Rattle.std.specs.Prelude.{◌≡◌, Bool, true, false, List, [], ◌∷◌, ℕ, ◌≤◌, ◌<◌, length, get_or, take}
use Rattle.definition.specs.Limits.{Limits}
use Rattle.definition.specs.Words.{when◌then◌else◌, ◌=?◌}
use Rattle.definition.specs.Pool.{queue_length, slot_count, Pool, Conn, state_of_no}
use Rattle.definition.specs.Refusals.{most_next_id}
use Rattle.promises.specs.States.{state_fits}
use Rattle.slots.specs.View.{SlotPool, Slot, Whole, vacant}
use Rattle.slots.specs.View as View
use Rattle.slots.specs.Slots as S
use Rattle.slots.specs.Needs.{taken}
use Rattle.refinement.specs.Table.{Unique, conn_in}
use Rattle.refinement.specs.Agree.{Class}
use Rattle.refinement.specs.Mirror.{is_lent, is_pending, All, Distinct, Listed, Used, view}
use Rattle.refinement.specs.Alike.{Rises, lists_with}
use Rattle.refinement.specs.Sites.{Sited}

-- ── The connections of a class, in the order of their slots ────────────────────────────────────────────────────────────

abbrev pub conn_of : ℕ → Slot → Conn
conn_of x s = conn_in x s (state_of_no s.state)

unfoldable pub collect : Class → List ℕ → List Slot → List Conn
collect t [] ss = []
collect t (x ∷ xs) [] = []
collect t (x ∷ xs) (s ∷ ss) = when x =? 0 then collect t xs ss else when t s.state then conn_of x s ∷ collect t xs ss else collect t xs ss

abbrev pub many : Class → List ℕ → List Slot → ℕ
many t xs ss = length (collect t xs ss)

abbrev pub is_shelved : Class
is_shelved k = k =? 1

abbrev pub one_if : Bool → ℕ
one_if true = 1
one_if false = 0

-- ── The rules ──────────────────────────────────────────────────────────────────────────────────────────────────────────

pub record Rules (p : SlotPool) : Type 0 where
  pub limits : Limits p.options
  pub columns : Whole p
  pub unique : Unique p.ids
  pub below : (j : ℕ) → View.id_at p j < p.next_id
  pub blank : (j : ℕ) → View.id_at p j ≡ 0 → View.slot_at p j ≡ vacant
  pub used : (j : ℕ) → 0 < View.id_at p j → Used (View.slot_at p j)
  pub fits : p.availables ≤ slot_count
  pub listed : All (Listed p.ids p.slots) (take p.availables p.available)
  pub distinct : Distinct (take p.availables p.available)
  pub rest : (j : ℕ) → p.availables ≤ j → get_or p.available j 0 ≡ 0
  pub shelved : p.availables ≡ many is_shelved p.ids p.slots
  pub pending : p.pendings ≡ many is_pending p.ids p.slots
  pub total : p.total ≡ taken p.ids
  pub queue : p.waitings ≤ queue_length
  pub queue_rest : (j : ℕ) → p.waitings ≤ j → get_or p.waiters j 0 ≡ 0
  pub rises : Rises 0 p.last_request (S.waiters_of p)
  pub serial : p.serial < 4294967296
  pub numbers : p.next_id ≤ most_next_id
  pub bounded : p.total ≤ p.options.maximum
  pub state : state_fits p.state p.generation p.next_id p.total p.availables p.waitings ≡ true
  pub sited : Sited p

-- the lists that such a pool stands for
abbrev pub lists_of : SlotPool → Pool
lists_of p =
    lists_with p (view p.ids p.slots (take p.availables p.available)) (collect is_lent p.ids p.slots) (collect is_pending p.ids p.slots)
