use Rattle.std.specs.Prelude.{◌≡◌, map, take}
use Rattle.std.proofs.Common.{◌∙◌}
use Rattle.digits.specs.Decode.{number, pairs_of}
use Rattle.digits.proofs.Laws.{made}
use Rattle.digits.proofs.raw_bytes.Goals as goal

pub returns-clause-of_digits : goal.returns-clause-of_digits
returns-clause-of_digits c bs e =
    let p : c.paired.result ≡ pairs_of (map number (take 48 c.args.s.now)) = cc in p ∙ made c.args.s.now c.requires bs e
