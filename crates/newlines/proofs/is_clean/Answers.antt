use Rattle.std.specs.Prelude.{◌≡◌, ◌<◌, refl, length, take}
use Rattle.std.proofs.Common.{◌∙◌, arith, ap, length-take, get_or-take}
use Rattle.newlines.specs.Newlines.{clean, clean_next}
use Rattle.newlines.proofs.is_clean.Goals as goal

pub loop-b-init : goal.loop-b-init
unfolding clean
loop-b-init c = refl

pub loop-b-preserved : goal.loop-b-preserved
loop-b-preserved c =
    let i = c.loop-b.b-index in
    let bytes = c.args.bytes.now in
    let n : length (take 48 bytes) ≡ 48 = simp length-take (omega arith) in
    let h : i < 48 = omega arith in
    rw (get_or-take 48 bytes i 0 h, c.loop-b.invariant) (clean_next bytes i (omega arith))

pub returns : goal.returns
returns c =
    let bytes = c.args.bytes.now in
    let n : length (take 48 bytes) ≡ 48 = simp length-take (omega arith) in
    let e : c.loop-b.b-index ≡ 48 = omega arith in
    c.loop-b.invariant ∙ rw e
