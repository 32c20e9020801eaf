-- What a pool's state says of the rest of it, and that every event keeps it so.
use Rattle.std.specs.Prelude.{◌≡◌, Bool, ◌&&◌, ℕ}
use Rattle.std.proofs.Math.Bool.{true}
use Rattle.std.proofs.Math.ListN.{length}
use Rattle.definition.specs.Words.{◌=?◌, ◌<?◌}
use Rattle.definition.specs.Pool.{Pool, total}
use Rattle.definition.specs.declared.PoolState.{PoolState}
use Rattle.definition.specs.declared.PoolState.TheVariants.{New, Paused, Ready, Closed}

-- A New pool has made nothing and was never cleared; a Paused one was, for a cause; a Closed one has nothing available; and only while
-- Ready does anybody wait.
abbrev pub state_fits : PoolState → (generation next_id total available waiting : ℕ) → Bool
state_fits New generation next_id total available waiting = generation =? 0 && (next_id =? 1 && (total =? 0 && waiting =? 0))
state_fits (Paused cause) generation next_id total available waiting = 0 <? cause && (0 <? generation && waiting =? 0)
state_fits Ready generation next_id total available waiting = true
state_fits Closed generation next_id total available waiting = available =? 0 && waiting =? 0

unfoldable pub Stated : Pool → Type 0
Stated p = state_fits p.state p.generation p.next_id (total p) (length p.available) (length p.waiting) ≡ true
