-- What the code says of a piece's answer.
use Rattle.std.specs.Prelude.{◌≡◌, List, ◌++◌, ℕ, ◌≤◌, length, drop}
use Rattle.first_line.specs.declared.Replayer.{Replayer}
use Rattle.first_line.specs.Took.{line_room}
use Rattle.first_line.specs.OnSlots.{Play}
use Rattle.first_line.specs.Code.{play_in, Able}
use Rattle.pieces.specs.Feed.{View, Fed}

-- the machine's state, and the bytes that are held
abbrev pub view_of : Replayer → (held : List ℕ) → View Play
view_of r h = record { state = play_in r; held = h }

-- the answer to a piece of a line: n bytes written at the output's front
pub record Pieced (k : Fed Play ℕ) (before after : List ℕ) (v : View Play) (n : ℕ) : Type 0 where
  pub view : v ≡ k.view
  pub written : n ≡ length k.out
  pub few : n ≤ line_room
  pub laid : after ≡ k.out ++ drop n before
  pub able : Able v.state.phase v.state.pool
