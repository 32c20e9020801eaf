use Rattle.definition.specs.Refusals.{refusal_no}
use Rattle.refusals.proofs.Laws.{refusal_laid}
use Rattle.refusals.proofs.print_refusal.Goals as goal

pub returns : goal.returns
returns c =
    refusal_laid c.from.result (refusal_no c.args.r) c.args.line c.refusal_record-b.result c.args.o.now c.print_line.new.o
    c.from.ensures c.refusal_record-b.ensures c.print_line.ensures
