use Rattle.std.specs.Prelude.{◌≡◌, ◌/◌, take}
use Rattle.std.specs.List.{position}
use Rattle.std.specs.Option.{unwrap_or}
use Rattle.std.proofs.Common.{ap, ◌∙◌, arith, rules, tests}
use Rattle.std.proofs.lemmas.Iterator.{YieldsList-from_slice}
use Rattle.std.proofs.lemmas.Iterator.Search.{position_from_yields_List}
use Rattle.definition.specs.Words.{◌=?◌}
use Rattle.table.proofs.Laws.{found}
use Rattle.table.proofs.find_waiter.Goals as goal

pub returns : goal.returns
returns c =
    let ws = c.args.waiters.now in
    let e : c.position.result ≡ position (λ v. v / 4 =? c.args.id) (take c.args.n ws) =
    position_from_yields_List (λ v. v / 4 =? c.args.id) _ _ _ c.position.ensures.ran (YieldsList-from_slice (take c.args.n ws) c.iter.ensures.rest) (λ x b q k. search (rules, tests)) in
    c.unwrap_or.ensures ∙ ap (λ o. unwrap_or o c.args.n) e ∙ found (λ v. v / 4) c.args.id c.args.n ws (omega arith)
