-- What each event does to a pool, and the service stage that follows it.
use Rattle.std.specs.Prelude.{Bool, true, false, ◌&&◌, ◌||◌, List, [], ◌∷◌, ◌++◌, map, reverse, ℕ, zero, suc, ◌+◌, ◌-◌, min, length}
use Rattle.definition.specs.Words.{when◌then◌else◌, ◌<?◌, ◌≤?◌, ◌=?◌, ◌∷ʳ◌, some?}
use Rattle.definition.specs.Pool.{Pool, Conn, Waiter, is_ready, is_closed, total, stale, idle, perished, age_told, find, without, new_conn, with_state, set_state, with_status, with_next_id, with_last_request, with_available, with_lent, with_pending, with_waiting}
use Rattle.definition.specs.Records.{Record, ConnectionCreated, ConnectionReady, ConnectionCheckedIn, ConnectionClosed, PoolReady, PoolCleared, PoolShut, Interrupt, Replied, Reply, Pooled, Establishing, Warmed, Cleared, Gone, told}
use Rattle.definition.specs.Events.{parts_of}
use Rattle.definition.specs.Types.{Event, CheckOut, WarmPool, Abandon, CheckIn, Clear, MarkAsReady, Succeeded, SucceededForPool, Failed, Maintenance, FillPool, Pin, ReturnToPinner, TakeFromPinner, Close, PoolState, New, Paused, Ready, Closed, InUse, Returned, Purpose, Request, Background, ConnectionState, CheckedIn, CheckedOut, Pinned, ClosedReason, Idle, Stale, Error, Dropped, PoolClosed}

-- ── Acts: a pool gives a new pool and records, and one act follows another ─────────────────────────────────────────────

pub record Out (P : Type 0) : Type 0 where
  pub pool : P
  pub records : List Record

abbrev pub Act : Type 0 → Type 0
Act P = P → Out P

module _ {P : Type 0} where
  abbrev pub nothing : Act P
  nothing p = record { pool = p; records = [] }

  abbrev pub emit_all : List Record → Act P
  emit_all rs p = record { pool = p; records = rs }

  abbrev pub emit : Record → Act P
  emit r p = record { pool = p; records = r ∷ [] }

  abbrev pub become : P → Act P
  become q p = record { pool = q; records = [] }

  infixr 10 ◌>>◌
  unfoldable pub ◌>>◌ : Act P → Act P → Act P
  (a >> b) p = record { pool = (b (a p).pool).pool; records = (a p).records ++ (b (a p).pool).records }

-- ── Parts of the steps ─────────────────────────────────────────────────────────────────────────────────────────────────

unfoldable pub leave_lent : ℕ → Act Pool
leave_lent n p = become (with_lent p (without n p.lent)) p

unfoldable pub leave_pending : ℕ → Act Pool
leave_pending n p = become (with_pending p (without n p.pending)) p

-- a connection that has left its list is closed; `other` is 0 but for the age of an idle one
abbrev pub close : ClosedReason → (connection other : ℕ) → Act Pool
close reason n other = emit (ConnectionClosed reason n other)

-- closed with its pool
abbrev pub closed_with_pool : Conn → Record
closed_with_pool c = ConnectionClosed PoolClosed c.id 0

-- available from that time on, and the last in line
unfoldable pub shelve : Conn → ℕ → Act Pool
shelve c t p = become (with_available p (p.available ∷ʳ with_state CheckedIn t c)) p

-- lent, now
unfoldable pub lend_out : Conn → Act Pool
lend_out c p = become (with_lent p (p.lent ∷ʳ with_state CheckedOut p.clock c)) p

-- the pool gives its next number away
unfoldable pub create_pending_connection : Purpose → Act Pool
create_pending_connection why p =
    (do
      emit (ConnectionCreated p.next_id)
      become (with_next_id (with_pending p (p.pending ∷ʳ new_conn p why)) (p.next_id + 1))
    ) p

unfoldable pub create_many : ℕ → Act Pool
create_many zero p = nothing p
create_many (suc n) p = (create_pending_connection Background >> create_many n) p

-- an available connection that has perished is closed as stale, else as idle, and then its age is told
unfoldable pub close_perished : Conn → Act Pool
close_perished c p = close (when stale p c then Stale else Idle) c.id (age_told (stale p c) (idle p c)) p

-- every waiter, front to back
unfoldable pub tell_all : Reply → Act Pool
tell_all r p = (emit_all (map (told r) p.waiting) >> become (with_waiting p [])) p

unfoldable pub enter : PoolState → ℕ → Act Pool
enter s generation p = become (with_status p s generation) p

-- ── The steps ──────────────────────────────────────────────────────────────────────────────────────────────────────────

-- A request, plain or warming. A Ready pool lets it wait behind the others; a Paused or a New one answers at once that it is
-- cleared, and for what cause, 0 where there was none.
unfoldable pub queue : ℕ → Bool → PoolState → Act Pool
queue n warm New p = emit (Replied n (Cleared 0)) p
queue n warm (Paused cause) p = emit (Replied n (Cleared cause)) p
queue n warm Ready p = become (with_waiting p (p.waiting ∷ʳ record { id = n; warm = warm; abandoned = false })) p
queue n warm Closed p = nothing p

unfoldable pub request : ℕ → Bool → Act Pool
request n warm p = (become (with_last_request p n) >> queue n warm p.state) p

-- Abandon marks a waiter.
unfoldable pub abandon : ℕ → Act Pool
abandon n p = become (with_waiting p (map (λ w. record { id = w.id; warm = w.warm; abandoned = w.abandoned || w.id =? n }) p.waiting)) p

-- A lent connection comes home, and a record says so. One that met an error is closed, or one of another generation, or one whose
-- answer is still under way, by the first of these that holds; any other becomes available, last of all, since the time its user
-- let it go. A closed pool just closes it, whichever of these holds.
unfoldable pub check_in : ℕ → (errored executing : Bool) → (let_go : ℕ) → Act Pool
check_in n errored executing let_go p =
    let c = find n p.lent in
    (do
      leave_lent n
      when is_closed p.state then close PoolClosed n 0 else do
        emit (ConnectionCheckedIn n)
        when errored then close Error n 0 else
            when stale p c then close Stale n 0 else
            when executing then close Dropped n 0 else
            shelve c let_go
    ) p

-- A clear pauses the pool for its cause and begins a new generation. After a network timeout the interrupt is told before all else,
-- in any state. Only a Ready pool tells of the clear, and then answers all who wait.
unfoldable pub clear : (timeout : Bool) → (cause : ℕ) → Act Pool
clear timeout cause p =
    let generation = p.generation + 1 in
    (do
      when timeout then emit (Interrupt (length p.lent)) else nothing
      when is_ready p.state then emit (PoolCleared timeout cause generation) >> tell_all (Cleared cause) else nothing
      enter (Paused cause) generation
    ) p

-- the pool says that it is ready, unless it was
unfoldable pub mark_as_ready : Act Pool
mark_as_ready p = (when is_ready p.state then nothing else (emit PoolReady >> enter Ready p.generation)) p

-- one that was made for a request is ready, and with that lent
unfoldable pub succeeded : ℕ → Act Pool
succeeded n p = (emit (ConnectionReady n) >> leave_pending n >> lend_out (find n p.pending)) p

-- one that was made in background is ready, and available since it was opened, be it stale or not; a closed pool then closes it
unfoldable pub succeeded_for_pool : ℕ → (opened : ℕ) → Act Pool
succeeded_for_pool n opened p =
    (do
      emit (ConnectionReady n)
      leave_pending n
      when is_closed p.state then close PoolClosed n 0 else shelve (find n p.pending) opened
    ) p

-- one that could not be made is closed as an error
unfoldable pub failed : ℕ → Act Pool
failed n = leave_pending n >> close Error n 0

-- Maintenance has two parts. The available ones that have perished are closed, in their order, as far as to one that has not;
unfoldable pub remove_perished : (available : List Conn) → Act Pool
remove_perished [] p = nothing p
remove_perished (c ∷ cs) p =
    (when perished p c then (become (with_available p cs) >> close_perished c >> remove_perished cs) else nothing) p

-- and a Ready pool is filled up to its minimum, in background, as far as it may have more pending.
unfoldable pub ensure_min_connections : Act Pool
ensure_min_connections p =
    (when is_ready p.state
    then create_many (min (p.options.minimum - total p) (p.options.connecting - length p.pending))
    else nothing
    ) p

unfoldable pub maintenance : Act Pool
maintenance p = (remove_perished p.available >> ensure_min_connections) p

-- only the one that is pinned, given back or taken again changes
unfoldable pub repin : ConnectionState → ℕ → Act Pool
repin s n p = become (with_lent p (set_state s p.clock n p.lent)) p

-- The close of the pool: what is available is closed, all who wait hear that the pool is gone, and the last record says that it is.
unfoldable pub shut : Act Pool
shut p =
    (do
      become (with_available p [])
      emit_all (map closed_with_pool p.available)
      tell_all Gone
      emit PoolShut
      enter Closed p.generation
    ) p

-- what the event itself does; the clock is the event's. Fill does nothing of its own.
unfoldable pub handle : Event → Act Pool
handle (CheckOut n) = request n false
handle (WarmPool n) = request n true
handle (Abandon n) = abandon n
handle (CheckIn n errored executing let_go) = check_in n errored executing let_go
handle (Clear timeout cause) = clear timeout cause
handle MarkAsReady = mark_as_ready
handle (Succeeded n) = succeeded n
handle (SucceededForPool n opened) = succeeded_for_pool n opened
handle (Failed n) = failed n
handle Maintenance = maintenance
handle FillPool = nothing
handle (Pin n) = repin (Pinned InUse) n
handle (ReturnToPinner n) = repin (Pinned Returned) n
handle (TakeFromPinner n) = repin (Pinned InUse) n
handle Close = shut

-- ── The service stage ──────────────────────────────────────────────────────────────────────────────────────────────────

-- a Ready pool can serve where a connection is available, or where it may have one more in all and one more pending
unfoldable pub can_service : Pool → Bool
can_service p =
    is_ready p.state && (some? p.available || total p <? p.options.maximum && length p.pending <? p.options.connecting)

-- One is made for the waiter, and the answer names it. The Rust tests the maximum here; there is always room below it (crate
-- promises, Tested), so no test is left.
unfoldable pub establish : Waiter → Act Pool
establish w p = (create_pending_connection Request >> emit (told (Establishing p.next_id) w)) p

-- one from the pool is the answer; nobody takes what an abandoned waiter was given, so it is available again, since now
unfoldable pub lend : Waiter → Conn → Act Pool
lend w c p = (emit (told (Pooled c.id) w) >> (when w.abandoned then shelve c p.clock else lend_out c)) p

-- A plain request gets the one that became available last and has not perished; those met before it are closed. Where all have
-- perished one is made.
unfoldable pub take_available : Waiter → (backToFront : List Conn) → Act Pool
take_available w [] p = establish w p
take_available w (c ∷ cs) p =
    (do
      become (with_available p (reverse cs))
      when perished p c then close_perished c >> take_available w cs else lend w c
    ) p

-- a warming request has nothing to do once the minimum is there
unfoldable pub check_out : Waiter → Act Pool
check_out w p =
    (when w.warm
    then (when p.options.minimum ≤? total p then emit (told Warmed w) else establish w)
    else take_available w (reverse p.available)
    ) p

-- the front waiter is taken
unfoldable pub serve_front : List Waiter → Act Pool
serve_front [] p = nothing p
serve_front (w ∷ ws) p = (become (with_waiting p ws) >> check_out w) p

-- once
unfoldable pub service : Act Pool
service p = (when can_service p then serve_front p.waiting else nothing) p

-- ── One event ──────────────────────────────────────────────────────────────────────────────────────────────────────────

abbrev pub kind_no : Event → ℕ
kind_no e = (parts_of e).kind

infix 40 ◌to◌holds◌
abbrev pub ◌to◌holds◌ : ℕ → ℕ → ℕ → Bool
a to b holds k = a ≤? k && k ≤? b

-- what reaches the worker's loop, each turn of which ends in service; that the pool is open is canService's to say
abbrev pub serviced : Event → Bool
serviced e = 1 to 2 holds kind_no e || 4 to 11 holds kind_no e

unfoldable pub event : Event → Act Pool
event e = handle e >> (when serviced e then service else nothing)
