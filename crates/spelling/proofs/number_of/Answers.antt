use Rattle.spelling.specs.Laws.{no_word, other_word, digit_more, a_number}
use Rattle.spelling.proofs.number_of.Goals.{then-is_empty-via-then-is_empty, then-is_empty-via-else-is_empty+then-not-only_digits}
use Rattle.spelling.proofs.number_of.Goals as goal

pub returns-then-is_empty : goal.returns-then-is_empty
returns-then-is_empty c =
    elim c.then-is_empty.branch [
      | then-is_empty-via-then-is_empty w ↦ no_word c.args.word.now (w.if-is_empty.ensures)
      | then-is_empty-via-else-is_empty+then-not-only_digits w ↦ other_word c.args.word.now (w.if-is_empty.ensures) (w.if-not-only_digits.ensures)
    ]

pub loop-c-preserved : goal.loop-c-preserved
loop-c-preserved c =
    let e = c.in_ok-number.ensures in
    (e.1, rw e.0 (digit_more c.args.word.now (c.if-not-only_digits.ensures) c.loop-c.c-index c.loop-c-test.true c.loop-c.number c.loop-c.invariant.1))

pub returns : goal.returns
returns c = a_number c.args.word.now (c.if-is_empty.ensures) c.loop-c.c-index c.loop-c-test.false c.loop-c.number c.loop-c.invariant.1 c.loop-c.invariant.0
