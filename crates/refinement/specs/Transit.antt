-- A connection in transit: it has left its list and is in no list yet, and its slot still holds it. Four ways lead there
-- (from the lent, from the pending, from the front and from the back of the available), and three away from it.
use Rattle.std.specs.Prelude.{◌≡◌, ◌≢◌, List, ℕ, suc, ◌+◌, ◌≤◌, ◌<◌, length, get_or, set, take}
use Rattle.definition.specs.Pool.{slot_count, Conn}
use Rattle.slots.specs.View.{Slot}
use Rattle.slots.specs.Needs.{taken}
use Rattle.refinement.specs.Mirror.{All, Mirror}

-- the connection of slot i is in transit; the slot is read as a checked-in one that nothing lists
pub record Off (xs : List ℕ) (ss : List Slot) (order : List ℕ) (n t c next : ℕ) (av le pe : List Conn) (i : ℕ) : Type 0 where
  pub mid : Slot
  pub checked : mid.state ≡ 1
  pub mirror : Mirror xs (set ss i mid) (take n order) next av le pe
  pub low : i < slot_count
  pub held : 0 < get_or xs i 0
  pub away : All (λ e. e ≢ i) (take n order)
  pub room : length order ≡ slot_count
  pub fits : n ≤ slot_count
  pub rest : (j : ℕ) → n ≤ j → get_or order j 0 ≡ 0
  pub total : t ≡ suc (length av + length le + length pe)
  pub pendings : c ≡ length pe
  pub holds : t ≡ taken xs
