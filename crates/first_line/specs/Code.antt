-- What the code says of a line's answer, and of what was lent to it.
use Rattle.std.specs.Prelude.{◌≡◌, List, ◌++◌, ℕ, ◌≤◌, length, drop}
use Rattle.slots.specs.View.{SlotPool, pool_in}
use Rattle.refinement.specs.Stands.{Formed}
use Rattle.first_line.specs.declared.Phase.{Phase}
use Rattle.first_line.specs.declared.Phase.TheVariants.{First, Going, Ended}
use Rattle.first_line.specs.declared.Pace.{Pace}
use Rattle.first_line.specs.declared.Replayer.{Replayer}
use Rattle.first_line.specs.Took.{Took, line_room}
use Rattle.first_line.specs.OnSlots.{Play}

-- the state that the parts make, and that of a replayer
abbrev pub play_of : Pace → SlotPool → (scratch : List ℕ) → Play
play_of r p l = record { phase = r.phase; used = r.used; budget = r.budget; pool = p; scratch = l }

abbrev pub play_in : Replayer → Play
play_in r = play_of r.pace (pool_in r.worker) r.scratch

-- a run that goes has a formed pool
abbrev pub Able : Phase → SlotPool → Type 0
Able First p = Unit {0}
Able Going p = Formed p
Able Ended p = Unit {0}

-- what is asked of a replayer, and kept
abbrev pub AbleIn : Replayer → Type 0
AbleIn r = Able r.pace.phase (pool_in r.worker)

-- a line's answer: the state, and n bytes written at the output's front
pub record Lined (k : Took Play ℕ) (before after : List ℕ) (s : Play) (n : ℕ) : Type 0 where
  pub state : s ≡ k.state
  pub written : n ≡ length k.out
  pub few : n ≤ line_room
  pub laid : after ≡ k.out ++ drop n before
  pub able : Able s.phase s.pool
