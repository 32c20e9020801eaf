-- The answers of the code.
use Rattle.std.specs.Prelude.{ℕ}
use Rattle.std.specs.declared.result.Result.{Result}
use Rattle.definition.specs.declared.Refusal.{Refusal}

-- what the tests say of an event: the slot or the waiter that it names, or a refusal
abbrev pub Verdict : Type 0
Verdict = Result ℕ Refusal

-- the answer to a call: how many records were written, or a refusal
abbrev pub Outcome : Type 0
Outcome = Result ℕ Refusal
