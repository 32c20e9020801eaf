-- How the bytes that are held of a line lie in their buffer.
use Rattle.std.specs.Prelude.{◌≡◌, refl, List, ℕ, ◌+◌, ◌-◌, ◌≤◌, min, length, take, drop, replicate}

-- the most that is held of a line
abbrev pub held_most : ℕ
held_most = 50

-- how much of a piece is held behind n bytes
abbrev pub more : (n : ℕ) → (piece : List ℕ) → ℕ
more n p = min (length p) (held_most - n)

-- n bytes are held, and what stands behind them is 0: so that what is held says all of the 50
pub record Holds (b : List ℕ) (n : ℕ) : Type 0 where
  pub few : n ≤ held_most
  pub long : length b ≡ held_most
  pub blank : drop n b ≡ replicate (held_most - n) 0
