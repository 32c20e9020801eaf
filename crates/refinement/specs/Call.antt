-- One call: on slots it answers as the definition does on lists, whatever the frame and whatever the output.
use Rattle.std.specs.Prelude.{◌≡◌, List, ℕ, length}
use Rattle.definition.specs.Pool.{Pool}
use Rattle.definition.specs.Steps.{Out}
use Rattle.definition.specs.Refusals as R
use Rattle.definition.specs.declared.Refusal.{Refusal}
use Rattle.slots.specs.View.{SlotPool}
use Rattle.slots.specs.Done.{lay}
use Rattle.slots.specs.Call.{World, world}
use Rattle.std.specs.declared.result.Result.TheVariants.{Ok, Err}
use Rattle.refinement.specs.Stands.{Stands}

-- the world w that a call to p with the output l leaves, where the definition accepts with the outcome o
pub record Takes (p : SlotPool) (l : List ℕ) (w : World) (o : Out Pool) : Type 0 where
  pub pool : Stands w.pool o.pool
  pub out : w.out ≡ lay p.serial 0 o.records l
  pub outcome : w.outcome ≡ Ok (length o.records)

-- whatever the definition says of a call, the slots say: the same refusal, and nothing is changed; or the same records
pub record Refines (p : SlotPool) (l : List ℕ) (w : World) (r : R.Result) : Type 0 where
  pub refuses : (x : Refusal) → r ≡ R.Refused x → w ≡ world p l (Err x)
  pub accepts : (o : Out Pool) → r ≡ R.Accepted o → Takes p l w o
