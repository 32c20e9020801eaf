use Rattle.std.proofs.Common.{sym, ap}
use Rattle.records.proofs.Laws.{cleared_numbers}
use Rattle.records.proofs.Fields.of.Goals as goal

pub returns-in-PoolCleared : goal.returns-in-PoolCleared
returns-in-PoolCleared c =
    rw c.in-PoolCleared.is (cleared_numbers c.in-PoolCleared.timeout c.numbered-in-PoolCleared.result c.in-PoolCleared.cause c.in-PoolCleared.generation c.numbered-in-PoolCleared.ensures)
