use Rattle.digits.proofs.Laws.{Pairing}
use Rattle.digits.proofs.paired.Given as goal

abbrev pub invariant-loop-i : goal.invariant-loop-i
invariant-loop-i l = Pairing l.numbers l.b-items l.i
