-- What is said of an event's output.
use Rattle.std.specs.Prelude.{◌≡◌, List, ℕ, ◌+◌, ◌*◌, ◌≤◌, ◌<◌, length}
use Rattle.definition.specs.Records.{fields_of}
use Rattle.definition.specs.declared.Record.{Record}
use Rattle.definition.specs.Bytes.{serial_of, record_bytes}
use Rattle.records.specs.Laid.{laid}
use Rattle.records.specs.declared.Records.{Records}

-- there is room for k records more, behind the n that stand in l
abbrev pub Room : ℕ → ℕ → List ℕ → Type 0
Room k n l = (16 * (n + k) ≤ length l) × (n + k < 4294967296)

abbrev pub RoomFor : ℕ → Records → Type 0
RoomFor k o = Room k o.count o.out.now

-- one record more fits
abbrev pub Fits : Records → Type 0
Fits o = 16 * (o.count + 1) ≤ length o.out.now

-- the bytes are those that were lent, as many, and the first record has the serial that it had
pub record Kept (o o' : Records) : Type 0 where
  pub serial : o'.serial ≡ o.serial
  pub long : length o'.out.now ≡ length o.out.now
  pub same : o'.out.ghost_name ≡ o.out.ghost_name

-- one record more
pub record Emits (r : Record) (o o' : Records) : Type 0 where
  pub count : o'.count ≡ o.count + 1
  pub out : o'.out.now ≡ laid o.out.now (16 * o.count) (record_bytes (serial_of (o.serial + o.count)) (fields_of r))
  pub kept : Kept o o'
