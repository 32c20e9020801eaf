-- The two things that are asked of structure rules: every reached pool keeps them, and they are enough for a call to be the definition's.
use Rattle.std.specs.Prelude.{◌≡◌, true, List, ℕ, length}
use Rattle.definition.specs.Pool.{in_range}
use Rattle.definition.specs.Refusals as R
use Rattle.definition.specs.declared.Frame.{Frame}
use Rattle.definition.specs.declared.Options.{Options}
use Rattle.slots.specs.View.{SlotPool}
use Rattle.slots.specs.Call as C
use Rattle.refinement.specs.Call.{Refines}
use Rattle.refinement.proofs.Call.{call_refines}
use Rattle.refinement.specs.Alike.{fresh_slots}
use Rattle.refinement.specs.Formed.{Lent, ran}
use Rattle.refinement.proofs.Formed.{fresh_formed, ran_formed}
use Rattle.refinement.specs.Rules.{Rules, lists_of}
use Rattle.refinement.proofs.Rules.{rules_stand, formed_rules}

-- whatever calls are made of a fresh pool, the pool that they leave keeps the rules
pub reached_keeps : (o : Options) → in_range o ≡ true → (cs : List Lent) → Rules (ran cs (fresh_slots o))
reached_keeps o h cs = formed_rules (ran cs (fresh_slots o)) (ran_formed cs (fresh_slots o) (fresh_formed o h))

-- where the rules hold, every call answers as the definition does on the lists that the pool stands for
pub rules_enough : (p : SlotPool) → Rules p → (f : Frame) (l : List ℕ) → Refines p l (C.call p l f) (R.step (lists_of p) f (length l))
rules_enough p r f l = call_refines p (lists_of p) (rules_stand p r) f l
