-- What a line leaves and says.
use Rattle.std.specs.Prelude.{List, [], ℕ, ◌*◌}
use Rattle.definition.specs.Records.{log_line_length}
use Rattle.definition.specs.Refusals.{room_records}

pub record Took (S O : Type 0) : Type 0 where
  pub state : S
  pub out : List O

module _ {S O : Type 0} where
  abbrev pub quiet : S → Took S O
  quiet s = record { state = s; out = [] }

-- the room that the records of any event fit in, as lines
abbrev pub line_room : ℕ
line_room = room_records * log_line_length
