-- What the benchmark's programs count: a refusal, or the records of an accepted frame.
use Rattle.std.specs.Prelude.{◌+◌, ◌%◌}
use Rattle.slots.specs.Outcome.{Outcome}
use Rattle.std.specs.declared.result.Result.TheVariants.{Ok, Err}
use Rattle.tally.specs.declared.Tally.{Tally}

abbrev pub with_one : Tally → Outcome → Tally
with_one t (Err r) = record { refused = (t.refused + 1) % 18446744073709551616; records = t.records }
with_one t (Ok n) = record { refused = t.refused; records = (t.records + n) % 18446744073709551616 }
