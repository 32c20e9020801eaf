-- What an event carries, field by field as a frame does.
use Rattle.std.specs.Prelude.{Bool, ℕ, ◌+◌}
use Rattle.definition.specs.Words.{when◌then◌else◌}
use Rattle.definition.specs.Types.{Event, CheckOut, WarmPool, Abandon, CheckIn, Clear, MarkAsReady, Succeeded, SucceededForPool, Failed, Maintenance, FillPool, Pin, ReturnToPinner, TakeFromPinner, Close}

pub record Parts : Type 0 where
  pub kind : ℕ
  pub flags : ℕ
  pub id : ℕ
  pub second : ℕ

abbrev pub parts : ℕ → ℕ → ℕ → ℕ → Parts
parts k f i t = record { kind = k; flags = f; id = i; second = t }

abbrev pub bit : ℕ → Bool → ℕ
bit n b = when b then n else 0

abbrev pub parts_of : Event → Parts
parts_of (CheckOut n) = parts 1 0 n 0
parts_of (WarmPool n) = parts 2 0 n 0
parts_of (Abandon n) = parts 3 0 n 0
parts_of (CheckIn n errored executing let_go) = parts 4 (bit 1 errored + bit 2 executing) n let_go
parts_of (Clear timeout cause) = parts 5 (bit 1 timeout) cause 0
parts_of MarkAsReady = parts 6 0 0 0
parts_of (Succeeded n) = parts 7 0 n 0
parts_of (SucceededForPool n opened) = parts 8 0 n opened
parts_of (Failed n) = parts 9 0 n 0
parts_of Maintenance = parts 10 0 0 0
parts_of FillPool = parts 11 0 0 0
parts_of (Pin n) = parts 12 0 n 0
parts_of (ReturnToPinner n) = parts 13 0 n 0
parts_of (TakeFromPinner n) = parts 14 0 n 0
parts_of Close = parts 15 0 0 0
