use Rattle.std.proofs.Common.{◌∙◌, ap}
use Rattle.std.specs.Int.{w64, from_be_bytes}
use Rattle.big_endian.proofs.Places.{read8}
use Rattle.big_endian.proofs.u64_at.Goals as goal

pub returns : goal.returns
returns c = read8 c.args.b.now c.args.i c.from_be_bytes.result (c.from_be_bytes.ensures ∙ ap (from_be_bytes w64) c.bytes_at-bytes.ensures)
