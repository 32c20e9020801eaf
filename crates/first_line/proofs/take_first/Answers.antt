use Rattle.std.proofs.Common.{sym, ap}
use Rattle.std.proofs.Math.Path.{◌∙◌}
use Rattle.definition.specs.Pool.{with_defaults, in_range}
use Rattle.definition.specs.declared.Refusal.TheVariants.{Malformed, OptionsOutOfRange}
use Rattle.refinement.specs.Alike.{fresh_slots}
use Rattle.first_line.specs.Code.{play_in}
use Rattle.first_line.specs.Exits.{options_malformed, options_out, options_made, opens_bad, opens_made}
use Rattle.first_line.proofs.take_first.Goals as goal

pub returns-then-in_range : goal.returns-then-in_range
returns-then-in_range c =
    let s = play_in c.args.r.now in
    let f = sym c.if-in_range.true ∙ (c.in_range.ensures ∙ ap in_range c.with_defaults-options.ensures) in
    opens_made s _ c.args.out.now (with_defaults c.in-Some.p) _ (options_made s (sym c.line_options.ensures ∙ c.in-Some.is) f) (sym f)
    (c.fresh-r.ensures ∙ ap fresh_slots c.with_defaults-options.ensures)

pub returns-else-in_range : goal.returns-else-in_range
returns-else-in_range c =
    let s = play_in c.args.r.now in
    let f = sym c.if-in_range.false ∙ (c.in_range.ensures ∙ ap in_range c.with_defaults-options.ensures) in
    opens_bad s _ c.args.out.now c.bad_options.new.out _ _ OptionsOutOfRange (options_out s (sym c.line_options.ensures ∙ c.in-Some.is) f)
    c.bad_options.ensures

pub returns-in-None : goal.returns-in-None
returns-in-None c =
    let s = play_in c.args.r.now in
    let k = c.bad_options-in-None in
    opens_bad s _ c.args.out.now k.new.out _ _ Malformed (options_malformed s (sym c.line_options.ensures ∙ c.in-None.is)) k.ensures
