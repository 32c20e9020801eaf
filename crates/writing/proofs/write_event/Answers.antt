use Rattle.std.proofs.Common.{sym, ap, arith, ltb-true, ltb-false}
use Rattle.std.proofs.Math.Path.{◌∙◌}
use Rattle.std.specs.Prelude.{length}
use Rattle.definition.specs.Refusals.{malformed}
use Rattle.definition.specs.Bytes.{frame_of}
use Rattle.writing.specs.Laws.{sound_length, event_short, event_malformed, event_laid}
use Rattle.writing.proofs.write_event.Goals as goal

pub returns-then-is_short : goal.returns-then-is_short
returns-then-is_short c =
    event_short (frame_of c.args.frame.now) c.args.out.now ((ltb-true (length c.args.out.now) 49 (sym c.is_short.ensures ∙ c.if-is_short.true)))

pub returns-then-malformed : goal.returns-then-malformed
returns-then-malformed c =
    event_malformed (frame_of c.args.frame.now) c.args.out.now ((ltb-false (length c.args.out.now) 49 (sym c.is_short.ensures ∙ c.if-is_short.false)))
    (sym (c.malformed.ensures ∙ ap malformed c.frame_of.ensures) ∙ c.if-malformed.true)

pub print_line-requires : goal.print_line-requires
print_line-requires c =
    omega (arith, sound_length c.args.frame.now (sym (c.malformed.ensures ∙ ap malformed c.frame_of.ensures) ∙ c.if-malformed.false), (ltb-false (length c.args.out.now) 49 (sym c.is_short.ensures ∙ c.if-is_short.false)))

pub returns : goal.returns
returns c =
    event_laid c.args.frame.now c.args.out.now c.print_line.new.o (λ i. (c.shared_slice_known-1.given i).fits) ((ltb-false (length c.args.out.now) 49 (sym c.is_short.ensures ∙ c.if-is_short.false)))
    (sym (c.malformed.ensures ∙ ap malformed c.frame_of.ensures) ∙ c.if-malformed.false) c.print_line.ensures
