-- WHAT THE REFINEMENT PROMISES. A pool on slots stands for one on lists (Stands): all that the two share is equal, and whoever looks a
-- connection up by its number, goes through the available ones or through the queue, or counts, is told the same. Where the
-- connections stand among the slots nobody can see. The proof of each promise is named at the end.
use Rattle.std.specs.Prelude.{◌≡◌, true, List, ℕ, length}
use Rattle.definition.specs.Pool.{Pool, fresh, in_range}
use Rattle.definition.specs.Refusals as R
use Rattle.definition.specs.declared.Options.{Options}
use Rattle.definition.specs.declared.Frame.{Frame}
use Rattle.slots.specs.View.{SlotPool}
use Rattle.slots.specs.Call as C
use Rattle.refinement.specs.Alike.{fresh_slots}
use Rattle.refinement.specs.Stands.{Stands, Formed}
use Rattle.refinement.specs.Call.{Refines}
use Rattle.refinement.specs.Formed.{Lent, ran, Runs}
use Rattle.refinement.specs.Rules.{Rules}
use Rattle.refinement.specs.RecordRoom.{FewIn}

pub record Refinement : Type 0 where
  -- a pool that is made stands for the fresh one of the definition
  pub made : (o : Options) → in_range o ≡ true → Stands (fresh_slots o) (fresh o)
  -- whatever the frame and the output, a call says what the definition says: the same refusal and nothing changed, or the same
  -- records at the output's front and a pool that stands for the new one
  pub call : (p : SlotPool) (m : Pool) → Stands p m → (f : Frame) (l : List ℕ) → Refines p l (C.call p l f) (R.step m f (length l))
  -- and so does any run of calls: call by call, in the pool that it leaves, and in the number of records
  pub run : (cs : List Lent) (p : SlotPool) (m : Pool) → Stands p m → Runs cs p m
  -- formed pools, those that stand for some lists and whose next id is in its bound, are what every run from the making on leaves
  pub formed_first : (o : Options) → in_range o ≡ true → Formed (fresh_slots o)
  pub formed_call : (p : SlotPool) (l : List ℕ) (f : Frame) → Formed p → Formed (C.call p l f).pool
  pub formed_run : (cs : List Lent) (p : SlotPool) → Formed p → Formed (ran cs p)
  -- the rules of structure, which speak of slots alone, say just that
  pub rules_form : (p : SlotPool) → Rules p → Formed p
  pub formed_keeps : (p : SlotPool) → Formed p → Rules p
  -- an accepted call writes no more records than the room that it asks for has place for
  pub few : (p : SlotPool) (m : Pool) (l : List ℕ) (f : Frame) → Stands p m → FewIn (C.call p l f).outcome
