-- What an age makes of a connection, by whether there is one.
use Rattle.std.specs.Prelude.{◌≡◌, ℕ, ◌≤◌, ◌<◌}
use Rattle.std.proofs.Common.{lt-ltb, le-ltb}
use Rattle.definition.specs.Words.{when◌then◌else◌, ◌<?◌}

module _ {A : Type 0} {x : A} (y z : A) (n : ℕ) where
  pub some_age : 0 < n → x ≡ y → x ≡ (when 0 <? n then y else z)
  unfolding when◌then◌else◌
  some_age h e = rw (lt-ltb 0 n h) e

  pub no_age : n ≤ 0 → x ≡ z → x ≡ (when 0 <? n then y else z)
  unfolding when◌then◌else◌
  no_age h e = rw (le-ltb 0 n h) e

pub ruleset by_age = (some_age, no_age)
