use Rattle.std.specs.Prelude.{◌≡◌, List, ℕ, ◌+◌, ◌++◌, take}
use Rattle.std.proofs.Common.{ap, ◌∙◌, arith}
use Rattle.pieces.specs.Holds.{held_most, more}
use Rattle.pieces.specs.Held.{held_put, held_more, held_take}
use Rattle.pieces.proofs.Held.hold.Goals as goal

pub invariant_of-self : goal.invariant_of-self
invariant_of-self c =
    let i = c.self.inside in
    let p = c.args.piece.now in
    let e : c.min-n.result ≡ more i.count p = omega (arith, c.min-n.ensures) in
    held_more i.bytes i.count p c.self.invariant _ _ (ap (λ (m : ℕ). i.count + m) e)
    (held_put i.bytes i.count p c.min-n.result _ c.copy_from_slice.new.self e c.copy_from_slice.ensures.after (omega arith))

pub returns : goal.returns
returns c =
    let i = c.self.inside in
    let p = c.args.piece.now in
    let e : c.min-n.result ≡ more i.count p = omega (arith, c.min-n.ensures) in
    held_take i.bytes i.count p c.self.invariant _ _ (ap (λ (m : ℕ). i.count + m) e)
    (held_put i.bytes i.count p c.min-n.result _ c.copy_from_slice.new.self e c.copy_from_slice.ensures.after (omega arith))
    ∙ ap (λ (l : List ℕ). take held_most (l ++ p)) c.self.view_is
