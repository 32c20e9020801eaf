-- A pool on slots stands for a pool on lists: whoever asks either is told the same.
use Rattle.std.specs.Prelude.{◌≡◌, List, ℕ, ◌+◌, ◌≤◌, length, get_or, take}
use Rattle.definition.specs.Pool.{Pool, Conn, slot_count}
use Rattle.definition.specs.Refusals.{most_next_id}
use Rattle.definition.specs.Steps.{Out}
use Rattle.slots.specs.View.{SlotPool, Slot}
use Rattle.slots.specs.Needs.{taken}
use Rattle.promises.specs.Reached.{Reached}
use Rattle.refinement.specs.Alike.{Alike}
use Rattle.refinement.specs.Sites.{Sited}
use Rattle.refinement.specs.Mirror.{Mirror}

-- the connections: the first n cells of `order` list the available ones; t counts all, c the pending
pub record Table (xs : List ℕ) (ss : List Slot) (order : List ℕ) (n t c next : ℕ) (av le pe : List Conn) : Type 0 where
  pub mirror : Mirror xs ss (take n order) next av le pe
  pub room : length order ≡ slot_count
  pub fits : n ≤ slot_count
  pub rest : (j : ℕ) → n ≤ j → get_or order j 0 ≡ 0
  pub total : t ≡ length av + length le + length pe
  pub pendings : c ≡ length pe
  pub holds : t ≡ taken xs

pub record Stands (p : SlotPool) (m : Pool) : Type 0 where
  pub alike : Alike p m
  pub table : Table p.ids p.slots p.available p.availables p.total p.pendings p.next_id m.available m.lent m.pending

-- what a step on slots gives is what the step on lists gives
pub record Same (o : Out SlotPool) (o' : Out Pool) : Type 0 where
  pub records : o.records ≡ o'.records
  pub stands : Stands o.pool o'.pool

-- a pool that is reached, or could be as far as its structure tells: it stands for lists that are as those of reached pools are, its
-- slots are sited, and its next id is in its bound
pub record Formed (p : SlotPool) : Type 0 where
  pub lists : Pool
  pub stands : Stands p lists
  pub reached : Reached lists
  pub sited : Sited p
  pub numbers : p.next_id ≤ most_next_id
