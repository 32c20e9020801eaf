-- What is read off a log and off the lists of a pool.
use Rattle.std.specs.Prelude.{List, [], ◌∷◌, ◌++◌, map, ℕ, ◌+◌, ◌<◌}
use Rattle.definition.specs.Words.{when◌then◌else◌, ◌=?◌}
use Rattle.definition.specs.Pool.{Conn, Waiter}
use Rattle.definition.specs.Records.{Record, ConnectionCreated, ConnectionReady, ConnectionCheckedIn, ConnectionClosed, PoolReady, PoolCleared, PoolShut, Interrupt, Replied}

-- ── Off the records ────────────────────────────────────────────────────────────────────────────────────────────────────

-- the connection that a record creates
abbrev pub creates : Record → List ℕ
creates (ConnectionCreated c) = c ∷ []
creates (ConnectionReady c) = []
creates (ConnectionCheckedIn c) = []
creates (ConnectionClosed reason c other) = []
creates PoolReady = []
creates (PoolCleared timeout cause generation) = []
creates PoolShut = []
creates (Interrupt lent) = []
creates (Replied n reply) = []

-- the connection that a record closes
abbrev pub closes : Record → List ℕ
closes (ConnectionCreated c) = []
closes (ConnectionReady c) = []
closes (ConnectionCheckedIn c) = []
closes (ConnectionClosed reason c other) = c ∷ []
closes PoolReady = []
closes (PoolCleared timeout cause generation) = []
closes PoolShut = []
closes (Interrupt lent) = []
closes (Replied n reply) = []

-- the request that a record answers
abbrev pub answers : Record → List ℕ
answers (ConnectionCreated c) = []
answers (ConnectionReady c) = []
answers (ConnectionCheckedIn c) = []
answers (ConnectionClosed reason c other) = []
answers PoolReady = []
answers (PoolCleared timeout cause generation) = []
answers PoolShut = []
answers (Interrupt lent) = []
answers (Replied n reply) = n ∷ []

-- all of them, in order of the log
abbrev pub created : List Record → List ℕ
created [] = []
created (r ∷ rs) = creates r ++ created rs

abbrev pub closed : List Record → List ℕ
closed [] = []
closed (r ∷ rs) = closes r ++ closed rs

abbrev pub answered : List Record → List ℕ
answered [] = []
answered (r ∷ rs) = answers r ++ answered rs

-- ── Numbers ────────────────────────────────────────────────────────────────────────────────────────────────────────────

abbrev pub numbers : List Conn → List ℕ
numbers = map (λ c. c.id)

abbrev pub ids : List Waiter → List ℕ
ids = map (λ w. w.id)

unfoldable pub sum_of : (ℕ → ℕ) → List ℕ → ℕ
sum_of weight [] = 0
sum_of weight (n ∷ l) = weight n + sum_of weight l

-- how often i stands in a list
abbrev pub often : ℕ → List ℕ → ℕ
often i = sum_of (λ n. when n =? i then 1 else 0)

-- each above the one before, and the first above lo
abbrev pub Rising : ℕ → List ℕ → Type 0
Rising lo [] = Unit {0}
Rising lo (n ∷ l) = (lo < n) × Rising n l
