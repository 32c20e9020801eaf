-- What every event keeps: the options, the count of records until its end, and the last request number save where it brings one.
use Rattle.std.specs.Prelude.{◌≡◌, List, [], ◌∷◌, ℕ}
use Rattle.definition.specs.Pool.{Pool}
use Rattle.definition.specs.Steps.{Out}

-- the last of them; where there is none, m
abbrev pub last_of : List ℕ → ℕ → ℕ
last_of [] m = m
last_of (n ∷ l) m = last_of l n

pub record Keeps (arrived : List ℕ) (p : Pool) (o : Out Pool) : Type 0 where
  pub options_stay : o.pool.options ≡ p.options
  pub written_stays : o.pool.written ≡ p.written
  pub last : o.pool.last_request ≡ last_of arrived p.last_request
