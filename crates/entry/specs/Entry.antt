-- The entry points, for all inputs: what a call leaves.
use Rattle.std.specs.Prelude.{Bool, List, ℕ, length}
use Rattle.definition.specs.Words.{when◌then◌else◌, ◌<?◌}
use Rattle.definition.specs.Refusals.{refusal_no, enough_room}
use Rattle.definition.specs.Bytes.{frame_of}
use Rattle.definition.specs.declared.Refusal.TheVariants.{OutputShort, Malformed}
use Rattle.slots.specs.Call.{World, call}
use Rattle.slots.specs.Outcome.{Outcome}
use Rattle.std.specs.declared.result.Result.TheVariants.{Ok, Err}
use Rattle.rules.specs.Tests.{keeps_rules}
use Rattle.columns.specs.View.{view_of, worker_of, pool_from}
use Rattle.pool.specs.declared.Pool.{Pool}

-- what a call leaves: the pool, the output, and the answer
pub record Entered : Type 0 where
  pub pool : Pool
  pub out : List ℕ
  pub outcome : Outcome

abbrev pub entered : Pool → List ℕ → Outcome → Entered
entered p l o = record { pool = p; out = l; outcome = o }

-- an answer as the paper's two numbers: that of the refusal, 0 where there is none; and how many records were written
abbrev pub refusal_in : Outcome → ℕ
refusal_in (Err r) = refusal_no r
refusal_in (Ok n) = 0

abbrev pub records_in : Outcome → ℕ
records_in (Err r) = 0
records_in (Ok n) = n

-- the structure test
abbrev pub keeps : Pool → Bool
keeps p = keeps_rules (worker_of p)

-- a call on slots, as one on a pool value
abbrev pub back : World → Entered
back w = entered (pool_from w.pool) w.out w.outcome

-- any pool value, any bytes, any output
unfoldable pub entry : Pool → (bytes : List ℕ) → (out : List ℕ) → Entered
entry p b l =
    when length l <? enough_room then entered p l (Err OutputShort) else
    when keeps p then back (call (view_of p) l (frame_of b)) else
    entered p l (Err Malformed)
