use Rattle.std.specs.Prelude.{◌≡◌}
use Rattle.std.proofs.Common.{◌∙◌, rules}
use Rattle.std.proofs.Math.Bool.{and_assoc}
use Rattle.definition.specs.Words.{◌=?◌}
use Rattle.refinement.specs.Mirror.{is_pending}
use Rattle.refinement.specs.Rules.{is_shelved}
use Rattle.slot_rules.specs.Tests.{is_taken, how_many, counts_right}
use Rattle.slot_rules.proofs.counts_right.Goals as goal

pub returns : goal.returns
unfolding counts_right
returns c =
    let taken : c.from.result ≡ how_many is_taken c.args.states.now = c.from.ensures ∙ c.how_many-taken.ensures is_taken (λ k b p. search rules) in
    let waits : c.from-2.result ≡ how_many is_pending c.args.states.now = c.from-2.ensures ∙ c.how_many-waits.ensures is_pending (λ k b p. search rules) in
    let shelved : c.from-3.result ≡ how_many is_shelved c.args.states.now = c.from-3.ensures ∙ c.how_many-shelved.ensures is_shelved (λ k b p. search rules) in
    rw (← taken, ← waits, ← shelved) (and_assoc (c.from.result =? c.args.total) (c.from-2.result =? c.args.pending) (c.from-3.result =? c.args.available))
