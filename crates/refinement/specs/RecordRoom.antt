-- What a pool on slots writes is what its lists write: so the bound of the lists says that there is room for it.
use Rattle.std.specs.Prelude.{◌≤◌}
use Rattle.definition.specs.Refusals.{room_records}
use Rattle.slots.specs.Outcome.{Outcome}
use Rattle.std.specs.declared.result.Result.TheVariants.{Ok, Err}

-- a refused call writes none
abbrev pub FewIn : Outcome → Type 0
FewIn (Err r) = Unit {0}
FewIn (Ok n) = n ≤ room_records
