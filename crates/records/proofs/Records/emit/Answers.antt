use Rattle.std.specs.Prelude.{◌≡◌, refl, ◌*◌, ◌+◌, length}
use Rattle.std.proofs.Common.{arith, ap, ◌∙◌}
use Rattle.definition.specs.Records.{Fields, fields_of}
use Rattle.definition.specs.Bytes.{serial_of, record_bytes}
use Rattle.records.specs.Laid.{laid}
use Rattle.records.specs.Numbers.{numbers}
use Rattle.records.proofs.Laws.{tail_laid, laid_long, record_long, serial_low}
use Rattle.records.proofs.Records.emit.Goals as goal

pub returns : goal.returns
unfolding record_bytes
returns c =
    let o = c.args.self.now in
    let serial = serial_of (o.serial + o.count) in
    let numbered : c.wrapping_add_u32-serial.result ≡ serial = c.wrapping_add_u32-serial.ensures.value ∙ serial_low o.serial o.count in
    let put = rw numbered at c.put_record.ensures in
    let out = tail_laid o.out.now (16 * o.count) (record_bytes serial (numbers c.of-f.result)) c.put_record.new.o put
    ∙ ap (λ (f : Fields). laid o.out.now (16 * o.count) (record_bytes serial f)) c.of-f.ensures in
    record {
      count = refl;
      out = out;
      kept = record { serial = refl; long = ap length out ∙ laid_long o.out.now (16 * o.count) (record_bytes serial (fields_of c.args.r)) (omega (arith, c.requires, record_long serial (fields_of c.args.r))); same = refl };
    }
