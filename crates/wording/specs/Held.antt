-- The code's line as the reading that it is.
use Rattle.std.specs.Prelude.{List, ℕ, take}
use Rattle.wording.specs.declared.word.Word.{Word}
use Rattle.wording.specs.declared.Line.{Line}
use Rattle.wording.specs.Wording.{Reading, reading}

-- a word's bytes stand at the front of an array
abbrev pub held : Word → List ℕ
held w = take w.length w.bytes

abbrev pub view_of : Line → Reading
view_of l = reading l.place (held l.word) l.is_over
