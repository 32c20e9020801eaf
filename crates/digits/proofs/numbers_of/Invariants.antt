use Rattle.std.proofs.Common.{◌≡◌, map, take}
use Rattle.digits.specs.Decode.{number, digits?}
use Rattle.digits.proofs.numbers_of.Given as goal

abbrev pub invariant-loop-i : goal.invariant-loop-i
invariant-loop-i l = (take l.i l.n-items ≡ map number (take l.i l.s)) × (l.are_digits ≡ digits? (map number (take l.i l.s)))
