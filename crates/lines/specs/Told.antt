-- What is said of an answer whatever pool is lent: all of a line's answer but that the pool is formed.
use Rattle.std.specs.Prelude.{◌≡◌, List, ◌++◌, ℕ, ◌≤◌, length, drop}
use Rattle.first_line.specs.Took.{Took, line_room}
use Rattle.first_line.specs.OnSlots.{Play}

pub record Told (k : Took Play ℕ) (before after : List ℕ) (s : Play) (n : ℕ) : Type 0 where
  pub state : s ≡ k.state
  pub written : n ≡ length k.out
  pub few : n ≤ line_room
  pub laid : after ≡ k.out ++ drop n before
