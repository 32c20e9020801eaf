-- The tests agree: a pool on slots refuses what the lists that it stands for refuse, and where neither does, the event fits.
use Rattle.std.proofs.Math.Path.{◌≡◌}
use Rattle.std.specs.Prelude.{false, ◌&&◌, ℕ, ◌≤◌}
use Rattle.std.proofs.Math.Bool.{not}
use Rattle.definition.specs.Pool.{is_closed}
use Rattle.definition.specs.Refusals.{causeless, taken_after_close}
use Rattle.definition.specs.declared.Event.{Event}
use Rattle.slots.specs.View.{SlotPool}
use Rattle.slots.specs.Call as C
use Rattle.slots.specs.Call.{target}
use Rattle.refinement.specs.Sites.{Timely}
use Rattle.refinement.specs.Events.{Fit}

-- ── Where no test holds ────────────────────────────────────────────────────────────────────────────────────────────────

-- the event is not refused
pub record Passed (p : SlotPool) (e : Event) (now : ℕ) : Type 0 where
  pub caused : causeless e ≡ false
  pub clock : p.clock ≤ now
  pub taken : (is_closed p.state && not (taken_after_close e)) ≡ false
  pub numbers : C.numbers_spent p e ≡ false
  pub fit : Fit e p (target p e)
  pub timely : Timely e now
