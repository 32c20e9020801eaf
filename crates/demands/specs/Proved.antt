-- The demands kept: each is one theorem.
use Rattle.demands.specs.Demands.{Demand1, Demand2, Demand3Calls, Demand3Days, Demand3Any}

pub record Demands : Type 0 where
  pub first : Demand1
  pub second : Demand2
  pub third_calls : Demand3Calls
  pub third_days : Demand3Days
  pub third_any : Demand3Any
