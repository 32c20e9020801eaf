-- The pool on fixed slots: each step, as the code takes it. The steps have the definition's names and shape; a connection is
-- named by its slot, a waiter by its place.
use Rattle.std.specs.Prelude.{Bool, true, false, ◌&&◌, ◌||◌, List, [], ◌∷◌, map, ℕ, zero, suc, ◌+◌, ◌-◌, ◌*◌, get_or, set, take}
use Rattle.definition.specs.Words.{when◌then◌else◌, ◌<?◌, ◌≤?◌, ◌=?◌}
use Rattle.definition.specs.Pool.{Waiter, is_ready, is_closed}
use Rattle.definition.specs.Records.{told}
use Rattle.definition.specs.declared.Record.TheVariants.{ConnectionCreated, ConnectionReady, ConnectionCheckedIn, ConnectionClosed, PoolReady, PoolCleared, PoolShut, Interrupt, Replied}
use Rattle.definition.specs.declared.Reply.{Reply}
use Rattle.definition.specs.declared.Reply.TheVariants.{Pooled, Establishing, Warmed, Cleared, Gone}
use Rattle.definition.specs.Events.{bit}
use Rattle.definition.specs.Steps.{Act, nothing, emit, emit_all, become, ◌>>◌, serviced}
use Rattle.definition.specs.declared.Event.{Event}
use Rattle.definition.specs.declared.Event.TheVariants.{CheckOut, WarmPool, Abandon, CheckIn, Clear, MarkAsReady, Succeeded, SucceededForPool, Failed, Maintenance, FillPool, Pin, ReturnToPinner, TakeFromPinner, Close}
use Rattle.definition.specs.declared.Options.{Options}
use Rattle.definition.specs.declared.PoolState.{PoolState}
use Rattle.definition.specs.declared.PoolState.TheVariants.{New, Paused, Ready, Closed}
use Rattle.definition.specs.declared.ClosedReason.{ClosedReason}
use Rattle.definition.specs.declared.ClosedReason.TheVariants.{Idle, Stale, Error, Dropped, PoolClosed}
use Rattle.slots.specs.Order.{vacant_slot, shifted}
use Rattle.slots.specs.View.{SlotPool, new_slot, vacant, with_state, with_table, with_counts, with_next_id, with_available, with_waiters, with_status, with_last_request, id_at, slot_at, stale_at, perished_at, age_told_at, waiter_of}

-- the numbers of the states
abbrev pub vacant_no : ℕ
vacant_no = 0

abbrev pub checked_in_no : ℕ
checked_in_no = 1

abbrev pub checked_out_no : ℕ
checked_out_no = 2

abbrev pub in_use_no : ℕ
in_use_no = 3

abbrev pub returned_no : ℕ
returned_no = 4

abbrev pub request_no : ℕ
request_no = 5

abbrev pub background_no : ℕ
background_no = 6

-- ── Parts of the steps ─────────────────────────────────────────────────────────────────────────────────────────────────

-- the connection in slot i is closed, and the slot is vacant
unfoldable pub close_at : ClosedReason → (slot other : ℕ) → Act SlotPool
close_at reason i other p = (emit (ConnectionClosed reason (id_at p i) other) >> become (with_counts (with_table p (set p.ids i 0) (set p.slots i vacant)) (p.total - 1) p.pendings)) p

unfoldable pub leave_pending : Act SlotPool
leave_pending p = become (with_counts p p.total (p.pendings - 1)) p

-- slot i is available from that time on, and the last in line
unfoldable pub shelve : ℕ → ℕ → Act SlotPool
shelve i t p = become (with_available (with_table p p.ids (set p.slots i (with_state checked_in_no t (slot_at p i)))) (set p.available p.availables i) (p.availables + 1)) p

-- slot i in another state, now: lent, pinned, returned
unfoldable pub set_state_at : ℕ → ℕ → Act SlotPool
set_state_at state i p = become (with_table p p.ids (set p.slots i (with_state state p.clock (slot_at p i)))) p

-- the front, or the back, leaves the available list
unfoldable pub pop_front : Act SlotPool
pop_front p = become (with_available p (shifted p.availables p.available) (p.availables - 1)) p

unfoldable pub pop_back : Act SlotPool
pop_back p = become (with_available p (set p.available (p.availables - 1) 0) (p.availables - 1)) p

-- a new connection in a vacant slot: the next id, the current generation
unfoldable pub create_pending_connection : ℕ → Act SlotPool
create_pending_connection state p =
    let i = vacant_slot p.ids in
    (do
      emit (ConnectionCreated p.next_id)
      become (with_counts (with_next_id (with_table p (set p.ids i p.next_id) (set p.slots i (new_slot p state))) (p.next_id + 1)) (p.total + 1) (p.pendings + 1))
    ) p

unfoldable pub close_perished_at : ℕ → Act SlotPool
close_perished_at i p = close_at (when stale_at p i then Stale else Idle) i (age_told_at p i) p

-- the first n cells are 0
unfoldable pub zeroed : ℕ → List ℕ → List ℕ
zeroed zero l = l
zeroed (suc n) [] = []
zeroed (suc n) (x ∷ l) = 0 ∷ zeroed n l

abbrev pub waiters_of : SlotPool → List Waiter
waiters_of p = map waiter_of (take p.waitings p.waiters)

unfoldable pub tell_all : Reply → Act SlotPool
tell_all r p = (emit_all (map (told r) (waiters_of p)) >> become (with_waiters p (zeroed p.waitings p.waiters) 0)) p

unfoldable pub enter : PoolState → ℕ → Act SlotPool
enter s generation p = become (with_status p s generation) p

-- ── The steps ──────────────────────────────────────────────────────────────────────────────────────────────────────────

unfoldable pub queue : ℕ → Bool → PoolState → Act SlotPool
queue n warm New p = emit (Replied n (Cleared 0)) p
queue n warm (Paused cause) p = emit (Replied n (Cleared cause)) p
queue n warm Ready p = become (with_waiters p (set p.waiters p.waitings (4 * n + bit 1 warm)) (p.waitings + 1)) p
queue n warm Closed p = nothing p

unfoldable pub request : ℕ → Bool → Act SlotPool
request n warm p = (become (with_last_request p n) >> queue n warm p.state) p

unfoldable pub abandon_at : ℕ → Act SlotPool
abandon_at k p = become (with_waiters p (set p.waiters k (get_or p.waiters k 0 + 2)) p.waitings) p

unfoldable pub check_in_at : ℕ → (errored executing : Bool) → (let_go : ℕ) → Act SlotPool
check_in_at i errored executing let_go p =
    (when is_closed p.state then close_at PoolClosed i 0 else do
      emit (ConnectionCheckedIn (id_at p i))
      when errored then close_at Error i 0 else
          when stale_at p i then close_at Stale i 0 else
          when executing then close_at Dropped i 0 else
          shelve i let_go
    ) p

-- all that are lent: neither available nor pending
abbrev pub lents : SlotPool → ℕ
lents p = p.total - p.availables - p.pendings

unfoldable pub interrupted : (timeout : Bool) → Act SlotPool
interrupted timeout p = (when timeout then emit (Interrupt (lents p)) else nothing) p

unfoldable pub cleared_ready : (timeout : Bool) → (cause : ℕ) → Act SlotPool
cleared_ready timeout cause p =
    (when is_ready p.state then emit (PoolCleared timeout cause (p.generation + 1)) >> tell_all (Cleared cause) else nothing) p

unfoldable pub clear : (timeout : Bool) → (cause : ℕ) → Act SlotPool
clear timeout cause p = (interrupted timeout >> cleared_ready timeout cause >> enter (Paused cause) (p.generation + 1)) p

unfoldable pub mark_as_ready : Act SlotPool
mark_as_ready p = (when is_ready p.state then nothing else (emit PoolReady >> enter Ready p.generation)) p

unfoldable pub succeeded_at : ℕ → Act SlotPool
succeeded_at i p = (emit (ConnectionReady (id_at p i)) >> leave_pending >> set_state_at checked_out_no i) p

unfoldable pub succeeded_for_pool_at : ℕ → (opened : ℕ) → Act SlotPool
succeeded_for_pool_at i opened p =
    (do
      emit (ConnectionReady (id_at p i))
      leave_pending
      when is_closed p.state then close_at PoolClosed i 0 else shelve i opened
    ) p

unfoldable pub failed_at : ℕ → Act SlotPool
failed_at i = leave_pending >> close_at Error i 0

-- up to k times: the front is closed if it has perished
unfoldable pub prune : ℕ → Act SlotPool
prune zero p = nothing p
prune (suc k) p =
    let i = get_or p.available 0 0 in
    (when perished_at p i then (pop_front >> close_perished_at i >> prune k) else nothing) p

unfoldable pub remove_perished : Act SlotPool
remove_perished p = prune p.availables p

-- one more, k times at most, until the minimum is there or no more may be pending
unfoldable pub fill_up : ℕ → Act SlotPool
fill_up zero p = nothing p
fill_up (suc k) p =
    (when p.total <? p.options.minimum && p.pendings <? p.options.connecting then create_pending_connection background_no >> fill_up k else nothing) p

unfoldable pub ensure_min_connections : Act SlotPool
ensure_min_connections p = (when is_ready p.state then fill_up p.options.minimum else nothing) p

unfoldable pub maintenance : Act SlotPool
maintenance = remove_perished >> ensure_min_connections

-- k times: the front is closed with its pool
unfoldable pub close_front : ℕ → Act SlotPool
close_front zero p = nothing p
close_front (suc k) p = (pop_front >> close_at PoolClosed (get_or p.available 0 0) 0 >> close_front k) p

unfoldable pub shut : Act SlotPool
shut p =
    (do
      close_front p.availables
      tell_all Gone
      emit PoolShut
      enter Closed p.generation
    ) p

-- what the event itself does to the slot, or the waiter, that it names
unfoldable pub handle : Event → (at : ℕ) → Act SlotPool
handle (CheckOut n) at = request n false
handle (WarmPool n) at = request n true
handle (Abandon n) at = abandon_at at
handle (CheckIn n errored executing let_go) at = check_in_at at errored executing let_go
handle (Clear timeout cause) at = clear timeout cause
handle MarkAsReady at = mark_as_ready
handle (Succeeded n) at = succeeded_at at
handle (SucceededForPool n opened) at = succeeded_for_pool_at at opened
handle (Failed n) at = failed_at at
handle Maintenance at = maintenance
handle FillPool at = nothing
handle (Pin n) at = set_state_at in_use_no at
handle (ReturnToPinner n) at = set_state_at returned_no at
handle (TakeFromPinner n) at = set_state_at in_use_no at
handle Close at = shut

-- ── The service stage ──────────────────────────────────────────────────────────────────────────────────────────────────

unfoldable pub can_service_at : PoolState → Options → (available total pending : ℕ) → Bool
can_service_at s o available total pending =
    is_ready s && (0 <? available || total <? o.maximum && pending <? o.connecting)

abbrev pub can_service : SlotPool → Bool
can_service p = can_service_at p.state p.options p.availables p.total p.pendings

unfoldable pub establish : Waiter → Act SlotPool
establish w p = (create_pending_connection request_no >> emit (told (Establishing p.next_id) w)) p

unfoldable pub lend : Waiter → ℕ → Act SlotPool
lend w i p = (emit (told (Pooled (id_at p i)) w) >> (when w.abandoned then shelve i p.clock else set_state_at checked_out_no i)) p

-- of the first k available, from the back: closed if perished, until one is lent
unfoldable pub take_from : ℕ → Waiter → Act SlotPool
take_from zero w p = establish w p
take_from (suc k) w p =
    let i = get_or p.available k 0 in
    (do
      pop_back
      when perished_at p i then close_perished_at i >> take_from k w else lend w i
    ) p

unfoldable pub check_out : Waiter → Act SlotPool
check_out w p =
    (when w.warm
    then (when p.options.minimum ≤? p.total then emit (told Warmed w) else establish w)
    else take_from p.availables w
    ) p

unfoldable pub dequeue : Act SlotPool
dequeue p = become (with_waiters p (shifted p.waitings p.waiters) (p.waitings - 1)) p

unfoldable pub serve_front : Act SlotPool
serve_front p = (dequeue >> check_out (waiter_of (get_or p.waiters 0 0))) p

unfoldable pub service : Act SlotPool
service p = (when can_service p then (when p.waitings =? 0 then nothing else serve_front) else nothing) p

unfoldable pub event : Event → (at : ℕ) → Act SlotPool
event e at = handle e at >> (when serviced e then service else nothing)
