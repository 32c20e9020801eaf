-- The demands kept: each is one theorem.
use Rattle.demands.proofs.Calls.{demand_1, demand_2, demand_3_calls, demand_3_any}
use Rattle.demands.proofs.Days.{demand_3_days}
use Rattle.demands.specs.Proved.{Demands}

pub demands : Demands
demands = record {
  first = demand_1;
  second = demand_2;
  third_calls = demand_3_calls;
  third_days = demand_3_days;
  third_any = demand_3_any;
}
