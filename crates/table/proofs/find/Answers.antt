use Rattle.std.specs.Prelude.{◌≡◌, take}
use Rattle.std.specs.List.{position}
use Rattle.std.specs.Option.{unwrap_or}
use Rattle.std.proofs.Common.{sym, ap, ◌∙◌, arith, rules, tests}
use Rattle.std.proofs.lemmas.Iterator.{YieldsList-from_slice}
use Rattle.std.proofs.lemmas.Iterator.Search.{position_from_yields_List}
use Rattle.definition.specs.Pool.{slot_count}
use Rattle.definition.specs.Words.{◌=?◌}
use Rattle.slots.specs.Order.{slot_holding}
use Rattle.table.proofs.Laws.{found_all}
use Rattle.table.proofs.find.Goals as goal

pub returns : goal.returns
unfolding slot_holding
returns c =
    let xs = c.args.ids.now in
    let e : c.position.result ≡ position (λ v. v =? c.args.id) xs =
    position_from_yields_List (λ v. v =? c.args.id) _ _ _ c.position.ensures.ran (YieldsList-from_slice xs c.iter.ensures.rest) (λ x b q k. search (rules, tests)) in
    c.unwrap_or.ensures ∙ ap (λ o. unwrap_or o slot_count) e ∙ found_all (λ v. v) c.args.id slot_count xs (search rules)
