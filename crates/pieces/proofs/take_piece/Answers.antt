use Rattle.std.specs.Prelude.{refl}
use Rattle.std.proofs.Math.Path.{◌∙◌}
use Rattle.std.proofs.Common.{sym}
use borrow.Author.Tests.{eq-eqb, ne_eqb}
use Rattle.first_line.specs.Code.{play_in}
use Rattle.newlines.specs.Newlines.{ends_last}
use Rattle.pieces.specs.Code.{view_of}
use Rattle.pieces.specs.Held.{piece_line, piece_quick, piece_held}
use Rattle.pieces.proofs.take_piece.Goals as goal

pub returns-then-piece-ne10 : goal.returns-then-piece-ne10
returns-then-piece-ne10 c =
    piece_held (view_of c.args.r.now c.args.held.now) c.args.piece.now c.args.out.now c.hold.new.self
    (ends_last c.args.piece.now c.requires.1 ∙ ne_eqb _ _ c.if-piece-ne10.true) c.hold.ensures c.requires.0

pub returns-then-is_empty : goal.returns-then-is_empty
returns-then-is_empty c =
    let k = c.take_line in
    piece_quick (view_of c.args.r.now c.args.held.now) c.args.piece.now c.args.out.now k.new.out (play_in k.new.r) c.args.held.now k.result
    (sym c.is_empty.ensures ∙ c.if-is_empty.true) refl (ends_last c.args.piece.now c.requires.1 ∙ eq-eqb _ _ c.if-piece-ne10.false) k.ensures

pub returns : goal.returns
returns c =
    let k = c.take_line-n in
    piece_line (view_of c.args.r.now c.args.held.now) c.args.piece.now c.args.out.now k.new.out (play_in k.new.r) c.clear.new.self k.result
    c.as_slice.result.now c.clear.ensures (ends_last c.args.piece.now c.requires.1 ∙ eq-eqb _ _ c.if-piece-ne10.false)
    (c.as_slice.ensures ∙ c.hold-2.ensures) k.ensures
