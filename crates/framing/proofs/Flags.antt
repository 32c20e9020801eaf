-- A bool as a byte is a flag.
use mathlib.Core.Path.{◌≡◌, refl}
use mathlib.Core.Bool.{Bool, true, false}
use Prim.Native.Nat.{◌+◌, ◌*◌, ◌≤◌}
use native.Mathlib.Omega.{arith}
use mir.Val.{bool_byte}
use Rattle.definition.specs.Words.{when◌then◌else◌}
use Rattle.definition.specs.Events.{bit}

pub flag_small : (b : Bool) → bool_byte b ≤ 1
flag_small true = omega arith
flag_small false = omega arith

pub flag_one : (b : Bool) → bool_byte b ≡ bit 1 b
unfolding when◌then◌else◌
flag_one true = refl
flag_one false = refl

pub flag_two : (b : Bool) → 2 * bool_byte b ≡ bit 2 b
unfolding when◌then◌else◌
flag_two true = refl
flag_two false = refl

pub ruleset flags = (flag_small, flag_one, flag_two)
