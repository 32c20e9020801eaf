use Rattle.std.specs.Prelude.{◌≡◌, take}
use Rattle.newlines.specs.Newlines.{clean}
use Rattle.newlines.proofs.is_clean.Given as goal

abbrev pub invariant-loop-b : goal.invariant-loop-b
invariant-loop-b l = l.good ≡ clean (take l.b-index l.bytes)
