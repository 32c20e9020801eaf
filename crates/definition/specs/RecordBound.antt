-- How many records the stages of an event write, said once, of the lists: the promises and the code's room follow from it.
use Rattle.std.specs.Prelude.{ℕ, ◌≤◌, length}
use Rattle.definition.specs.Pool.{Pool}
use Rattle.definition.specs.Steps.{Out}

abbrev pub Few : ℕ → Out Pool → Type 0
Few k o = length o.records ≤ k
