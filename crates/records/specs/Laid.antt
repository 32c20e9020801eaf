use Rattle.std.specs.Prelude.{List, ◌++◌, ℕ, ◌+◌, length, take, drop}

-- bs laid into l from off on: what stands before and after is kept
unfoldable pub laid : List ℕ → ℕ → List ℕ → List ℕ
laid l off bs = take off l ++ (bs ++ drop (off + length bs) l)
