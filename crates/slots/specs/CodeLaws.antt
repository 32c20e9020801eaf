-- What the idle test gives.
use Rattle.std.specs.Prelude.{◌≡◌, ℕ, zero, suc, ◌-◌, ◌≤◌, ◌<◌}
use Rattle.std.proofs.Math.Path.{refl}
use Rattle.std.proofs.Common.{arith, lt-ltb, le-leb}
use Rattle.std.proofs.lemmas.Bool.{lt-leb}
use Rattle.definition.specs.Words.{when◌then◌else◌}
use Rattle.definition.specs.Pool.{idle_for}

pub idle_none : (limit since now : ℕ) → limit ≡ 0 → idle_for limit since now ≡ 0
unfolding when◌then◌else◌
idle_none limit since now e = rw e

pub idle_no : (limit since now : ℕ) → now - since < limit → idle_for limit since now ≡ 0
unfolding when◌then◌else◌
idle_no zero since now h = absurd (omega arith)
idle_no (suc l) since now h = rw (lt-ltb 0 (suc l) (omega arith), lt-leb (suc l) (now - since) h)

pub idle_early : (limit since now : ℕ) → now < since → idle_for limit since now ≡ 0
idle_early zero since now h = idle_none 0 since now refl
idle_early (suc l) since now h = idle_no (suc l) since now (omega arith)

pub idle_yes : (limit since now : ℕ) → (limit ≡ 0 → ⊥) → limit ≤ now - since → idle_for limit since now ≡ now - since
unfolding when◌then◌else◌
idle_yes zero since now n h = absurd (n refl)
idle_yes (suc l) since now n h = rw (lt-ltb 0 (suc l) (omega arith), le-leb (suc l) (now - since) h)
