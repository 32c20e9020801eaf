-- One law for each exit of a frame's line: what the code knows there gives the line's answer.
use Rattle.std.specs.Prelude.{List, ℕ}
use Rattle.definition.specs.Records.{fields}
use Rattle.definition.specs.Refusals.{refusal_no}
use Rattle.definition.specs.Bytes.{record_bytes, line_of}
use Rattle.definition.specs.declared.Refusal.{Refusal}

-- the bytes that the refusal of a line is printed as
abbrev pub refused_bytes : Refusal → ℕ → List ℕ
refused_bytes r line = line_of (record_bytes 0 (fields 32 (refusal_no r) line 0))
