-- The types that src/ declares, under one roof.
pub use Rattle.definition.specs.declared.Event.{Event}
pub use Rattle.definition.specs.declared.Event.TheVariants.{CheckOut, WarmPool, Abandon, CheckIn, Clear, MarkAsReady, Succeeded, SucceededForPool, Failed, Maintenance, FillPool, Pin, ReturnToPinner, TakeFromPinner, Close}
pub use Rattle.definition.specs.declared.Frame.{Frame}
pub use Rattle.definition.specs.declared.Frame.TheVariants.{Good, Bad}
pub use Rattle.definition.specs.declared.Options.{Options}
pub use Rattle.definition.specs.declared.PoolState.{PoolState}
pub use Rattle.definition.specs.declared.PoolState.TheVariants.{New, Paused, Ready, Closed}
pub use Rattle.definition.specs.declared.PinnedState.{PinnedState}
pub use Rattle.definition.specs.declared.PinnedState.TheVariants.{InUse, Returned}
pub use Rattle.definition.specs.declared.Purpose.{Purpose}
pub use Rattle.definition.specs.declared.Purpose.TheVariants.{Request, Background}
pub use Rattle.definition.specs.declared.ConnectionState.{ConnectionState}
pub use Rattle.definition.specs.declared.ConnectionState.TheVariants.{Vacant, CheckedIn, CheckedOut, Pinned, Pending}
pub use Rattle.definition.specs.declared.ClosedReason.{ClosedReason}
pub use Rattle.definition.specs.declared.ClosedReason.TheVariants.{Idle, Stale, Error, Dropped, PoolClosed}
pub use Rattle.definition.specs.declared.Reply.{Reply}
pub use Rattle.definition.specs.declared.Reply.TheVariants.{Pooled, Establishing, Warmed, Cleared, Gone, Unheard}
pub use Rattle.definition.specs.declared.Record.{Record}
pub use Rattle.definition.specs.declared.Record.TheVariants.{ConnectionCreated, ConnectionReady, ConnectionCheckedIn, ConnectionClosed, PoolReady, PoolCleared, PoolShut, Interrupt, Replied}
pub use Rattle.definition.specs.declared.Refusal.{Refusal}
pub use Rattle.definition.specs.declared.Refusal.TheVariants.{OutputShort, Malformed, ClockBack, AfterClose, NumbersSpent, OldRequest, QueueFull, WrongState, WrongTime, OptionsOutOfRange, NotWaiting, AlreadyPinned}
