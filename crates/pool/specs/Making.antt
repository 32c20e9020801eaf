-- The making of a pool value, and its counts.
use Rattle.std.specs.Prelude.{Option, None as none, Some as some}
use Rattle.std.specs.Prelude.{◌-◌, replicate}
use Rattle.definition.specs.Words.{when◌then◌else◌}
use Rattle.definition.specs.Pool.{queue_length, slot_count, with_defaults, in_range}
use Rattle.definition.specs.declared.ConnectionState.TheVariants.{Vacant}
use Rattle.definition.specs.declared.Options.{Options}
use Rattle.definition.specs.declared.Refusal.{Refusal}
use Rattle.definition.specs.declared.Refusal.TheVariants.{Malformed, OptionsOutOfRange}
use Rattle.std.specs.declared.result.Result.TheVariants.{Ok, Err}
use Rattle.refinement.specs.Alike.{fresh_head}
use Rattle.pool.specs.declared.Slot.{Slot}
use Rattle.pool.specs.declared.Pool.{Pool}
use Rattle.pool.specs.declared.Made.{Made}
use Rattle.pool.specs.declared.Counts.{Counts}

-- ── Making a pool ──────────────────────────────────────────────────────────────────────────────────────────────────────

abbrev pub vacant_slot : Slot
vacant_slot = record { id = 0; generation = 0; time = 0; state = Vacant }

abbrev pub fresh_pool : Options → Pool
fresh_pool o = record {
  head = fresh_head o;
  slots = replicate slot_count vacant_slot;
  available = replicate slot_count 0;
  waiters = replicate queue_length 0;
}

-- what a refused making gives: no structure test accepts it
abbrev pub no_pool : Pool
no_pool = fresh_pool (record { maximum = 0; minimum = 0; connecting = 0; idle = 0 })

abbrev pub not_made : Refusal → Made
not_made r = record { outcome = Err r; pool = no_pool }

-- defaults are filled in first
unfoldable pub making : Options → Made
making o =
    when in_range (with_defaults o)
    then (record { outcome = Ok 0; pool = fresh_pool (with_defaults o) })
    else not_made OptionsOutOfRange

unfoldable pub making_from : Option Options → Made
making_from none = not_made Malformed
making_from (some o) = making o

-- ── Counts ─────────────────────────────────────────────────────────────────────────────────────────────────────────────

-- what the pool's own counts say; the lent are those that are neither available nor pending
abbrev pub counts_of : Pool → Counts
counts_of p = record {
  available = p.head.available_count;
  lent = p.head.total_connection_count - p.head.available_count - p.head.pending_connection_count;
  pending = p.head.pending_connection_count;
  waiting = p.head.waiting_count;
}
