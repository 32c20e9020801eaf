-- The pool is formed as it starts, and a call keeps it so: said of what the code has.
use Rattle.std.specs.Prelude.{◌≡◌, Bool, true, false, not, List, ℕ}
use Rattle.std.proofs.Common.{sym, subst, true≢false}
use Rattle.definition.specs.Pool.{in_range}
use Rattle.definition.specs.declared.Frame.{Frame}
use Rattle.definition.specs.declared.Options.{Options}
use Rattle.slots.specs.View.{SlotPool}
use Rattle.slots.specs.Call.{World, world, call}
use Rattle.slots.specs.Outcome.{Outcome}
use Rattle.slots.specs.declared.Head.{Head}
use Rattle.refinement.specs.Stands.{Formed}
use Rattle.refinement.specs.Alike.{fresh_head}
use Rattle.refinement.proofs.Formed.{over_blank, fresh_parts, fresh_formed, call_formed}

pub starts_formed : (o : Options) (h : Head) (b : Bool) → h ≡ fresh_head o → b ≡ in_range o → not b ≡ false → Formed (over_blank h)
starts_formed o h false e r t = absurd (true≢false t)
starts_formed o h true e r t =
    subst (λ (g : Head). Formed (over_blank g)) (sym e) (subst Formed (sym (fresh_parts o)) (fresh_formed o (sym r)))

pub kept_formed : (p q : SlotPool) (l m : List ℕ) (f : Frame) (o : Outcome) → world q m o ≡ call p l f → Formed p → Formed q
kept_formed p q l m f o e h = subst (λ (w : World). Formed w.pool) (sym e) (call_formed p l f h)
