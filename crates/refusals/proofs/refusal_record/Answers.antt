use Rattle.definition.specs.Bytes.{record_bytes}
use Rattle.refusals.proofs.refusal_record.Goals as goal

pub returns : goal.returns
unfolding record_bytes
returns c = rw c.put_u32.ensures
