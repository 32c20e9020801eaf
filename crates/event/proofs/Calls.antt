-- What a call is, for the check to find.
use Rattle.event.specs.Laws.{call_short, call_good, call_bad}

pub ruleset called = (call_short, call_good, call_bad)
