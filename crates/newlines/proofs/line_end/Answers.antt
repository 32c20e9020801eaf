use Rattle.std.proofs.Common.{sym, arith}
use Rattle.std.proofs.Math.Path.{◌∙◌}
use Rattle.newlines.specs.Newlines.{whole_line}
use Rattle.newlines.proofs.line_end.Goals as goal

pub returns-then-is_clean : goal.returns-then-is_clean
returns-then-is_clean c =
    let clean = sym c.is_clean.ensures ∙ c.if-is_clean.true in
    (whole_line c.args.text.now c.args.at c.if-text-at-ge49.true c.if-text-at-eq10.true clean, omega arith)
