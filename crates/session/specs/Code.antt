-- What the code says of a day under way.
use Rattle.std.specs.Prelude.{◌≡◌, List, ◌++◌, ℕ, ◌≤◌, ◌<◌, length, drop, replicate}
use Rattle.definition.specs.Refusals.{enough_room}
use Rattle.refinement.specs.Alike.{fresh_slots}
use Rattle.first_line.specs.Took.{Took, line_room}
use Rattle.first_line.specs.OnSlots.{Play, begun, no_options}
use Rattle.lines.specs.OnSlots.{on_slots}
use Rattle.pieces.specs.Feed.{View, emptied, go_on}
use Rattle.runs.specs.Code.{view_in, Ready, Read}
use Rattle.runs.specs.declared.Session.{Session}

-- before the first byte
abbrev pub opening : (budget : ℕ) → View Play
opening budget = emptied (begun budget (fresh_slots no_options) (replicate enough_room 0))

pub record Begins (budget : ℕ) (s : Session) : Type 0 where
  pub view : view_in s ≡ opening budget
  pub ready : Ready s

-- n bytes of a text were read, and w written
pub record Went (s₀ : Session) (text before after : List ℕ) (s : Session) (n w : ℕ) : Type 0 where
  pub read : Read (go_on on_slots (length before) (view_in s₀) text) text before after s n w
  pub ready : Ready s
  pub within : n ≤ length text
  pub fits : w ≤ length before
  pub moves : line_room ≤ length before → 0 < length text → 0 < n

-- the end: the frames used, and n bytes written at the output's front
pub record Finishes (k : Took Play ℕ) (before after : List ℕ) (u n : ℕ) : Type 0 where
  pub used : u ≡ k.state.used
  pub written : n ≡ length k.out
  pub few : n ≤ line_room
  pub laid : after ≡ k.out ++ drop n before
