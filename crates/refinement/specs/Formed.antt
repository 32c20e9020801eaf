-- What every reached pool is: formed. A fresh pool is formed, a call keeps it formed, and a run of calls answers as the
-- definition's run does.
use Rattle.std.specs.Prelude.{◌≡◌, List, [], ◌∷◌, map, ℕ, ◌+◌, length}
use Rattle.definition.specs.Pool.{Pool}
use Rattle.definition.specs.Refusals as R
use Rattle.definition.specs.Refusals.{after, run}
use Rattle.definition.specs.declared.Frame.{Frame}
use Rattle.slots.specs.View.{SlotPool}
use Rattle.slots.specs.Call as C
use Rattle.slots.specs.Outcome.{Outcome}
use Rattle.std.specs.declared.result.Result.TheVariants.{Ok, Err}
use Rattle.refinement.specs.Stands.{Stands}
use Rattle.refinement.specs.Call.{Refines}

-- ── A run of calls ─────────────────────────────────────────────────────────────────────────────────────────────────────

-- a frame, and the output that is lent for its records
pub record Lent : Type 0 where
  pub frame : Frame
  pub out : List ℕ

abbrev pub as_call : Lent → R.Call
as_call c = record { frame = c.frame; room = length c.out }

-- the pool that calls leave
unfoldable pub ran : List Lent → SlotPool → SlotPool
ran [] p = p
ran (c ∷ cs) p = ran cs (C.call p c.out c.frame).pool

-- how many records they were said to have written
abbrev pub wrote : Outcome → ℕ
wrote (Err r) = 0
wrote (Ok n) = n

unfoldable pub writes : List Lent → SlotPool → ℕ
writes [] p = 0
writes (c ∷ cs) p = wrote (C.call p c.out c.frame).outcome + writes cs (C.call p c.out c.frame).pool

-- each call answers as the definition does
unfoldable pub Answers : List Lent → SlotPool → Pool → Type 0
Answers [] p m = Unit {0}
Answers (c ∷ cs) p m =
    Refines p c.out (C.call p c.out c.frame) (R.step m c.frame (length c.out))
    × Answers cs (C.call p c.out c.frame).pool (after m (R.step m c.frame (length c.out))).pool

-- a run is the definition's run: call by call, in the pool that it leaves, and in the number of records
pub record Runs (cs : List Lent) (p : SlotPool) (m : Pool) : Type 0 where
  pub answers : Answers cs p m
  pub pool : Stands (ran cs p) (run (map as_call cs) m).pool
  pub records : writes cs p ≡ length (run (map as_call cs) m).records
