use Rattle.std.proofs.Common.{◌∙◌, ap}
use Rattle.std.specs.Int.{w32, from_be_bytes}
use Rattle.big_endian.proofs.Places.{read4}
use Rattle.big_endian.proofs.u32_at.Goals as goal

pub returns : goal.returns
returns c = read4 c.args.b.now c.args.i c.from_be_bytes.result (c.from_be_bytes.ensures ∙ ap (from_be_bytes w32) c.bytes_at-bytes.ensures)
