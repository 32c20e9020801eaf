-- What it means that a function over a worker did what an act says.
use Rattle.std.specs.Prelude.{◌≡◌, List, [], ◌∷◌, ℕ, ◌+◌, ◌*◌, ◌≤◌, ◌<◌, length}
use Rattle.definition.specs.Records.{fields_of}
use Rattle.definition.specs.declared.Record.{Record}
use Rattle.definition.specs.Steps.{Out}
use Rattle.definition.specs.Bytes.{serial_of, record_bytes}
use Rattle.std.specs.Borrow.{MutBor}
use denote.Triple.Both.{Both}
use Rattle.definition.specs.Steps.{Act}
use Rattle.records.specs.Laid.{laid}
use Rattle.records.specs.Output.{Kept}
use Rattle.records.specs.declared.Records.{Records}
use Rattle.slots.specs.View.{SlotPool, pool_in}
use Rattle.slots.specs.declared.ConnectionPoolWorker.{ConnectionPoolWorker}

-- records laid down one after the other, the first as record n of an event whose first record has the serial s
unfoldable pub lay : ℕ → ℕ → List Record → List ℕ → List ℕ
lay s n [] l = l
lay s n (r ∷ rs) l = lay s (n + 1) rs (laid l (16 * n) (record_bytes (serial_of (s + n)) (fields_of r)))

-- from n records in l, an outcome leads to the pool q, m records and the list k
pub record Done {P : Type 0} (o : Out P) (s n : ℕ) (l : List ℕ) (q : P) (m : ℕ) (k : List ℕ) : Type 0 where
  pub pool : q ≡ o.pool
  pub count : m ≡ n + length o.records
  pub out : k ≡ lay s n o.records l

-- the middle of a loop: what is done so far, and then the outcome o' from m records in k, is the outcome o from n records in l
pub record Underway {P : Type 0} (o : Out P) (s n : ℕ) (l : List ℕ) (o' : Out P) (m : ℕ) (k : List ℕ) : Type 0 where
  pub pool : o'.pool ≡ o.pool
  pub count : m + length o'.records ≡ n + length o.records
  pub out : lay s m o'.records k ≡ lay s n o.records l

-- the outcome x: its pool is the one that the worker has now, and its records were laid down behind those that stood in the output
pub record Did (x : Out SlotPool) (w' : ConnectionPoolWorker) (o o' : Records) : Type 0 where
  pub done : Done x o.serial o.count o.out.now (pool_in w') o'.count o'.out.now
  pub kept : Kept o o'

-- an act was done to the worker; or to its pool with a change
abbrev pub Does : Act SlotPool → Both (MutBor ConnectionPoolWorker) (MutBor ConnectionPoolWorker) → Both (MutBor Records) (MutBor Records) → Type 0
Does act w o = Did (act (pool_in w.entry.now)) w.exit.now o.entry.now o.exit.now

abbrev pub DoesFrom : Act SlotPool → SlotPool → Both (MutBor ConnectionPoolWorker) (MutBor ConnectionPoolWorker) → Both (MutBor Records) (MutBor Records) → Type 0
DoesFrom act p w o = Did (act p) w.exit.now o.entry.now o.exit.now

-- the middle of a loop, from the output o₀ to o: what is done so far, and then the outcome x', is the outcome x
pub record Going (x : Out SlotPool) (o₀ : Records) (x' : Out SlotPool) (o : Records) : Type 0 where
  pub told : Underway x o₀.serial o₀.count o₀.out.now x' o.count o.out.now
  pub kept : Kept o₀ o
