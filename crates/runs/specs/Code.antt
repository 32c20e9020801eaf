-- What the code says of a session between two pieces, and of a reading.
use Rattle.std.specs.Prelude.{◌≡◌, List, ◌++◌, ℕ, ◌≤◌, length, drop}
use Rattle.first_line.specs.OnSlots.{Play}
use Rattle.first_line.specs.Code.{AbleIn}
use Rattle.pieces.specs.Feed.{View, Fed}
use Rattle.pieces.specs.Code.{view_of}
use Rattle.runs.specs.declared.Session.{Session}

-- the machine's state and the bytes held
abbrev pub view_in : Session → View Play
view_in s = view_of s.replayer s.held

-- what is asked of a session, and kept
abbrev pub Ready : Session → Type 0
Ready s = AbleIn s.replayer

-- the answer to any text: n bytes of it were read, and w written
pub record Read (k : Fed Play ℕ) (text before after : List ℕ) (s : Session) (n w : ℕ) : Type 0 where
  pub view : view_in s ≡ k.view
  pub ready : Ready s
  pub rest : drop n text ≡ k.rest
  pub within : n ≤ length text
  pub written : w ≡ length k.out
  pub fits : w ≤ length before
  pub laid : after ≡ k.out ++ drop w before
