-- What the code says of a frame's line.
use Rattle.std.specs.Prelude.{◌≡◌, List, ◌++◌, ℕ, ◌≤◌, length, drop}
use Rattle.first_line.specs.Took.{line_room}

-- n bytes were written at the output's front, and they are these
pub record Said (said before after : List ℕ) (n : ℕ) : Type 0 where
  pub written : n ≡ length said
  pub few : n ≤ line_room
  pub laid : after ≡ said ++ drop n before
