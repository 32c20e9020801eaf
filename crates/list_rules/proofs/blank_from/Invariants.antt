use Rattle.std.specs.Prelude.{◌≡◌, ◌+◌}
use Rattle.slot_rules.specs.Tests.{every}
use Rattle.list_rules.proofs.Laws.{blank_at}
use Rattle.list_rules.proofs.blank_from.Given as goal

abbrev pub invariant-loop-x : goal.invariant-loop-x
invariant-loop-x g l = l.ok ≡ every (l.from + l.x-index) (blank_at (λ x. g.T.PartialEq.eq x l.blank) l.n l.cells l.blank)
