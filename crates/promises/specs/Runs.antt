-- What is read off a run of calls: the requests that it accepts, and how often a connection is put on the available list.
use Rattle.std.specs.Prelude.{Bool, true, false, not, ◌&&◌, ◌||◌, List, [], ◌∷◌, ◌++◌, ℕ, ◌+◌, length}
use Rattle.definition.specs.Words.{◌<?◌, any?}
use Rattle.definition.specs.Pool.{Pool, Waiter, is_ready, perished, with_clock}
use Rattle.definition.specs.Steps.{handle, serviced, can_service}
use Rattle.definition.specs.Refusals.{Result, Refused, Accepted, Call, step, after}
use Rattle.definition.specs.declared.Event.{Event}
use Rattle.definition.specs.declared.Event.TheVariants.{CheckOut, WarmPool, Abandon, CheckIn, Clear, MarkAsReady, Succeeded, SucceededForPool, Failed, Maintenance, FillPool, Pin, ReturnToPinner, TakeFromPinner, Close}
use Rattle.definition.specs.declared.Frame.{Frame}
use Rattle.definition.specs.declared.Frame.TheVariants.{Good, Bad}

-- the request that an event brings
abbrev pub arrivals : Event → List ℕ
arrivals (CheckOut n) = n ∷ []
arrivals (WarmPool n) = n ∷ []
arrivals (Abandon n) = []
arrivals (CheckIn n errored executing let_go) = []
arrivals (Clear timeout cause) = []
arrivals MarkAsReady = []
arrivals (Succeeded n) = []
arrivals (SucceededForPool n opened) = []
arrivals (Failed n) = []
arrivals Maintenance = []
arrivals FillPool = []
arrivals (Pin n) = []
arrivals (ReturnToPinner n) = []
arrivals (TakeFromPinner n) = []
arrivals Close = []

abbrev pub brings : Frame → List ℕ
brings (Good e now) = arrivals e
brings Bad = []

-- a call's result
abbrev pub result : Pool → Call → Result
result p c = step p c.frame c.room

-- the pool after a call
abbrev pub next : Pool → Call → Pool
next p c = (after p (result p c)).pool

-- the request that a call of this result accepts
abbrev pub taken : Frame → Result → List ℕ
taken f (Refused r) = []
taken f (Accepted o) = brings f

-- the requests that a run accepts, in order
unfoldable pub accepted : Pool → List Call → List ℕ
accepted p [] = []
accepted p (c ∷ cs) = taken c.frame (result p c) ++ accepted (next p c) cs

-- the front one is ordinary and abandoned
abbrev pub front_abandoned : List Waiter → Bool
front_abandoned [] = false
front_abandoned (w ∷ ws) = not w.warm && w.abandoned

-- the service stage gives a healthy connection back, for an abandoned waiter (GivesBack: it does)
abbrev pub gives_back : Pool → Bool
gives_back q = can_service q && front_abandoned q.waiting && any? (λ c. not (perished q c)) q.available

-- The event puts a connection on the available list of a Ready pool: in its own stage, by a healthy check-in or a success in
-- background, or in the service stage, where that gives one back.
unfoldable pub puts : Event → Pool → Bool
puts e p =
    let q = (handle e p).pool in
    is_ready q.state && (length p.available <? length q.available || serviced e && gives_back q)

-- the same of a frame, once it is accepted
abbrev pub frame_puts : (Event → Pool → Bool) → Frame → Pool → Bool
frame_puts t (Good e now) p = t e (with_clock p now)
frame_puts t Bad p = false

abbrev pub one_if : Bool → ℕ
one_if true = 1
one_if false = 0

-- 1 for a call that is accepted and passes the test, else 0
abbrev pub count_of : (Event → Pool → Bool) → Pool → Frame → Result → ℕ
count_of t p f (Refused r) = 0
count_of t p f (Accepted o) = one_if (frame_puts t f p)

-- how many calls of a run are so
unfoldable pub times : (Event → Pool → Bool) → Pool → List Call → ℕ
times t p [] = 0
times t p (c ∷ cs) = count_of t p c.frame (result p c) + times t (next p c) cs
