-- What a frame's line makes of the state on slots, byte for byte.
use Rattle.std.specs.Prelude.{List, ℕ, ◌+◌}
use Rattle.slots.specs.Call.{World}
use Rattle.slots.specs.Outcome.{Outcome}
use Rattle.std.specs.declared.result.Result.TheVariants.{Ok, Err}
use Rattle.printing.specs.Printed.{printed}
use Rattle.first_line.specs.declared.Phase.TheVariants.{Going}
use Rattle.first_line.specs.Took.{Took}
use Rattle.first_line.specs.OnSlots.{Play, refused_line}

-- what a call's answer is in the log, with the records in the scratch
abbrev pub said_of : Outcome → List ℕ → (line : ℕ) → List ℕ
said_of (Err r) scratch line = refused_line r line
said_of (Ok n) scratch line = printed n scratch

module _ (s : Play) where
  abbrev pub answered : World → Took Play ℕ
  answered w = record {
    state = record { phase = Going; used = s.used + 1; budget = s.budget; pool = w.pool; scratch = w.out };
    out = said_of w.outcome w.out (s.used + 2);
  }
