use Rattle.std.proofs.Common.{◌≡◌, take}
use Rattle.wording.specs.Wording.{read_all}
use Rattle.wording.specs.Held.{view_of}
use Rattle.wording.proofs.read_bytes.Given as goal

abbrev pub invariant-loop-c : goal.invariant-loop-c
invariant-loop-c l = view_of l.line ≡ read_all (view_of l.initial.line) (take l.c-index l.bytes)
