use Rattle.std.proofs.Common.{sym, arith, ltb-true, ltb-false}
use Rattle.std.proofs.Math.Path.{◌∙◌}
use Rattle.std.specs.Prelude.{length}
use Rattle.writing.specs.Laws.{options_short, options_laid}
use Rattle.writing.proofs.write_options.Goals as goal

pub returns-then-is_short : goal.returns-then-is_short
returns-then-is_short c =
    options_short c.args.o c.args.out.now ((ltb-true (length c.args.out.now) 49 (sym c.is_short.ensures ∙ c.if-is_short.true)))

pub print_line-requires : goal.print_line-requires
print_line-requires c = omega (arith, (ltb-false (length c.args.out.now) 49 (sym c.is_short.ensures ∙ c.if-is_short.false)))

pub returns : goal.returns
returns c =
    options_laid c.args.o c.args.out.now c.options_bytes-b.result c.print_line.new.o ((ltb-false (length c.args.out.now) 49 (sym c.is_short.ensures ∙ c.if-is_short.false))) c.options_bytes-b.ensures c.print_line.ensures
