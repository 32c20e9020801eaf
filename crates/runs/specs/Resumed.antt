-- What a caller of replay_some may count on.
use Rattle.std.specs.Prelude.{◌≡◌, List, ℕ, ◌-◌, ◌≤◌, ◌<◌, length, drop}
use Rattle.std.proofs.Common.{ap, arith, length-drop}
use Rattle.first_line.specs.Took.{line_room}
use Rattle.first_line.specs.OnSlots.{Play}
use Rattle.lines.specs.OnSlots.{on_slots}
use Rattle.pieces.specs.Feed.{View, go_on}
use Rattle.pieces.specs.Chunks.{some_less}
use Rattle.runs.specs.declared.Session.{Session}
use Rattle.runs.specs.Code.{Read}

-- with room for one event, some of any text is read
pub read_some : (v : View Play) (text before after : List ℕ) (s : Session) (n w : ℕ)
    → Read (go_on on_slots (length before) v text) text before after s n w → line_room ≤ length before → 0 < length text → 0 < n
read_some v text before after s n w k h g =
    let e : length (drop n text) ≡ length (go_on on_slots (length before) v text).rest = ap length k.rest in
    let d : length (drop n text) ≡ length text - n = length-drop n text in
    omega (arith, e, d, some_less on_slots (length before) v text h g, k.within)
