-- Connections: at any weight, those held and those created are those held after and those closed.
use Rattle.std.specs.Prelude.{◌≡◌, refl, Bool, true, false, List, [], ◌∷◌, ◌++◌, map, reverse, ℕ, zero, suc, ◌+◌}
use Rattle.std.proofs.Common.{ap, sym, append_assoc, arith}
use Rattle.std.proofs.lemmas.List.{map-append}
use Rattle.definition.specs.Laws.{find_id}
use Rattle.definition.specs.Words.{when◌then◌else◌}
use Rattle.definition.specs.Pool.{Pool, Conn, Waiter, has, find, with_clock, with_available, fresh}
use Rattle.definition.specs.Records.{told}
use Rattle.definition.specs.declared.Record.{Record}
use Rattle.definition.specs.declared.Reply.{Reply}
use Rattle.definition.specs.Steps.{closed_with_pool, Out, Act, ◌>>◌, close, emit_all, become, leave_lent, leave_pending, shelve, lend_out, create_pending_connection, create_many, close_perished, tell_all, enter, queue, request, abandon, check_in, clear, mark_as_ready, succeeded, succeeded_for_pool, failed, remove_perished, ensure_min_connections, maintenance, repin, shut, handle, establish, lend, take_available, check_out, serve_front, service, event}
use Rattle.definition.specs.Refusals.{Result, Call, after, run}
use Rattle.definition.specs.declared.Options.{Options}
use Rattle.definition.specs.declared.Event.{Event}
use Rattle.definition.specs.declared.Event.TheVariants.{CheckOut, WarmPool, Abandon, CheckIn, Clear, MarkAsReady, Succeeded, SucceededForPool, Failed, Maintenance, FillPool, Pin, ReturnToPinner, TakeFromPinner, Close}
use Rattle.definition.specs.declared.Frame.{Frame}
use Rattle.definition.specs.declared.PoolState.{PoolState}
use Rattle.definition.specs.declared.PoolState.TheVariants.{New, Paused, Ready, Closed}
use Rattle.definition.specs.declared.Purpose.{Purpose}
use Rattle.definition.specs.declared.ConnectionState.{ConnectionState}
use Rattle.definition.specs.declared.ClosedReason.{ClosedReason}
use Rattle.definition.specs.Log.{created, closed, numbers, sum_of}
use Rattle.promises.specs.Runs.{next}
use Rattle.promises.specs.Calls.{Passed, Named, Stepped, no_step, a_step, stepped, passed_named}
use Rattle.promises.specs.Sums.{sum_append, sum_reverse, sum_without, turn_numbers}

pub created_append : (a b : List Record) → created (a ++ b) ≡ created a ++ created b
created_append [] b = refl
created_append (r ∷ a) b = rw (created_append a b, append_assoc)

pub closed_append : (a b : List Record) → closed (a ++ b) ≡ closed a ++ closed b
closed_append [] b = refl
closed_append (r ∷ a) b = rw (closed_append a b, append_assoc)

unfoldable pub held : (ℕ → ℕ) → Pool → ℕ
held w p = sum_of w (numbers p.available) + sum_of w (numbers p.lent) + sum_of w (numbers p.pending)

-- the pool and a hand that holds x become the pool and a hand that holds y
pub record Moves (x y : List ℕ) (p : Pool) (o : Out Pool) : Type 0 where
  pub even : (w : ℕ → ℕ) → held w p + sum_of w x + sum_of w (created o.records) ≡ held w o.pool + sum_of w y + sum_of w (closed o.records)

moves_then : {x y z : List ℕ} (a b : Act Pool) (p : Pool) → Moves x y p (a p) → Moves y z (a p).pool (b (a p).pool) → Moves x z p ((a >> b) p)
unfolding ◌>>◌
moves_then a b p f g = record { even = λ w. simp (created_append, closed_append, sum_append) (omega (arith, f.even w, g.even w)) }

moves_if : {x y : List ℕ} {b : Bool} (a₁ a₂ : Act Pool) (p : Pool) → (b ≡ true → Moves x y p (a₁ p)) → (b ≡ false → Moves x y p (a₂ p))
    → Moves x y p ((when b then a₁ else a₂) p)
unfolding when◌then◌else◌
moves_if {b = true} a₁ a₂ p f g = f refl
moves_if {b = false} a₁ a₂ p f g = g refl

-- where the hand is empty before and after
then₀ : (a b : Act Pool) (p : Pool) → Moves [] [] p (a p) → Moves [] [] (a p).pool (b (a p).pool) → Moves [] [] p ((a >> b) p)
then₀ a b p f g = moves_then a b p f g

-- an act that moves no connection
still : {x : List ℕ} (p : Pool) (o : Out Pool) → created o.records ≡ [] → closed o.records ≡ []
    → o.pool.available ≡ p.available → o.pool.lent ≡ p.lent → o.pool.pending ≡ p.pending → Moves x x p o
unfolding held
still p o c d a l q = record { even = λ w. rw (c, d, a, l, q) }

-- ── Parts ──────────────────────────────────────────────────────────────────────────────────────────────────────────────

leave_lent_moves : (n : ℕ) (p : Pool) → has n p.lent ≡ true → Moves [] (n ∷ []) p (leave_lent n p)
unfolding leave_lent held sum_of
leave_lent_moves n p h = record { even = λ w. omega (arith, sum_without w n p.lent h) }

leave_pending_moves : (n : ℕ) (p : Pool) → has n p.pending ≡ true → Moves [] (n ∷ []) p (leave_pending n p)
unfolding leave_pending held sum_of
leave_pending_moves n p h = record { even = λ w. omega (arith, sum_without w n p.pending h) }

close_moves : (r : ClosedReason) (n other : ℕ) (p : Pool) → Moves (n ∷ []) [] p (close r n other p)
unfolding sum_of
close_moves r n other p = record { even = λ w. omega arith }

close_perished_moves : (c : Conn) (p : Pool) → Moves (c.id ∷ []) [] p (close_perished c p)
unfolding close_perished
close_perished_moves c p = close_moves _ c.id _ p

shelve_moves : (c : Conn) (t n : ℕ) (p : Pool) → c.id ≡ n → Moves (n ∷ []) [] p (shelve c t p)
unfolding shelve held sum_of
shelve_moves c t n p e = record { even = λ w. rw (map-append, sum_append, e) (omega arith) }

lend_out_moves : (c : Conn) (n : ℕ) (p : Pool) → c.id ≡ n → Moves (n ∷ []) [] p (lend_out c p)
unfolding lend_out held sum_of
lend_out_moves c n p e = record { even = λ w. rw (map-append, sum_append, e) (omega arith) }

-- one of the available ones is taken
take_moves : (c : Conn) (cs l : List Conn) (p : Pool) → ((w : ℕ → ℕ) → sum_of w (numbers (c ∷ cs)) ≡ sum_of w (numbers p.available))
    → ((w : ℕ → ℕ) → sum_of w (numbers l) ≡ sum_of w (numbers cs)) → Moves [] (c.id ∷ []) p (become (with_available p l) p)
unfolding held sum_of
take_moves c cs l p h k = record { even = λ w. omega (arith, h w, k w) }

create_moves : (why : Purpose) (p : Pool) → Moves [] [] p (create_pending_connection why p)
unfolding create_pending_connection held sum_of ◌>>◌
create_moves why p = record { even = λ w. simp (map-append, sum_append) (omega arith) }

create_many_moves : (n : ℕ) (p : Pool) → Moves [] [] p (create_many n p)
unfolding create_many
create_many_moves zero p = still _ _ refl refl refl refl refl
create_many_moves (suc n) p = then₀ _ _ p (create_moves _ p) (create_many_moves n _)

pub tellings_created : (a : Reply) (l : List Waiter) → created (map (told a) l) ≡ []
unfolding told
tellings_created a [] = refl
tellings_created a (w ∷ l) = tellings_created a l

tellings_closed : (a : Reply) (l : List Waiter) → closed (map (told a) l) ≡ []
unfolding told
tellings_closed a [] = refl
tellings_closed a (w ∷ l) = tellings_closed a l

tell_all_moves : (a : Reply) (p : Pool) → Moves [] [] p (tell_all a p)
unfolding tell_all
tell_all_moves a p = then₀ _ _ p (still _ _ (tellings_created a p.waiting) (tellings_closed a p.waiting) refl refl refl) (still _ _ refl refl refl refl refl)

-- ── Steps ──────────────────────────────────────────────────────────────────────────────────────────────────────────────

pub remove_perished_moves : (l : List Conn) (p : Pool) → p.available ≡ l → Moves [] [] p (remove_perished l p)
unfolding remove_perished close_perished
remove_perished_moves [] p e = still _ _ refl refl refl refl refl
remove_perished_moves (c ∷ cs) p e =
    moves_if _ _ p
    (λ _. moves_then _ _ p (take_moves c cs cs p (λ w. rw e) (λ w. refl)) (moves_then _ _ _ (close_moves _ c.id _ _) (remove_perished_moves cs _ refl)))
    (λ _. still _ _ refl refl refl refl refl)

ruleset moving = (then₀, moves_if, create_moves, create_many_moves, tell_all_moves, close_moves, remove_perished_moves, still)

queue_moves : (n : ℕ) (warm : Bool) (s : PoolState) (p : Pool) → Moves [] [] p (queue n warm s p)
unfolding queue
queue_moves n warm New p = search moving
queue_moves n warm (Paused cause) p = search moving
queue_moves n warm Ready p = search moving
queue_moves n warm Closed p = search moving

request_moves : (n : ℕ) (warm : Bool) (p : Pool) → Moves [] [] p (request n warm p)
unfolding request
request_moves n warm p = search (moving, queue_moves)

check_in_moves : (n : ℕ) (errored executing : Bool) (let_go : ℕ) (p : Pool) → has n p.lent ≡ true
    → Moves [] [] p (check_in n errored executing let_go p)
unfolding check_in
check_in_moves n errored executing let_go p h =
    moves_then _ _ _ (leave_lent_moves n p h)
    (moves_if _ _ _ (λ _. close_moves _ n _ _)
    (λ _. moves_then _ _ _ (still _ _ refl refl refl refl refl)
    (search (moves_if, close_moves, shelve_moves, find_id) depth 8)))

succeeded_moves : (n : ℕ) (p : Pool) → has n p.pending ≡ true → Moves [] [] p (succeeded n p)
unfolding succeeded
succeeded_moves n p h =
    moves_then _ _ _ (still _ _ refl refl refl refl refl) (moves_then _ _ _ (leave_pending_moves n p h) (lend_out_moves (find n p.pending) n _ (find_id n p.pending)))

succeeded_for_pool_moves : (n opened : ℕ) (p : Pool) → has n p.pending ≡ true → Moves [] [] p (succeeded_for_pool n opened p)
unfolding succeeded_for_pool
succeeded_for_pool_moves n opened p h =
    moves_then _ _ _ (still _ _ refl refl refl refl refl) (moves_then _ _ _ (leave_pending_moves n p h) (search (moves_if, close_moves, shelve_moves, find_id)))

failed_moves : (n : ℕ) (p : Pool) → has n p.pending ≡ true → Moves [] [] p (failed n p)
unfolding failed
failed_moves n p h = moves_then _ _ _ (leave_pending_moves n p h) (close_moves _ n _ _)

pub refill_moves : (p : Pool) → Moves [] [] p (ensure_min_connections p)
unfolding ensure_min_connections
refill_moves p = search moving

repin_moves : (s : ConnectionState) (n : ℕ) (p : Pool) → Moves [] [] p (repin s n p)
unfolding repin held
repin_moves s n p = record { even = λ w. rw turn_numbers }

shutting_closed : (l : List Conn) → closed (map closed_with_pool l) ≡ numbers l
shutting_closed [] = refl
shutting_closed (c ∷ l) = ap (λ r. c.id ∷ r) (shutting_closed l)

pub shutting_created : (l : List Conn) → created (map closed_with_pool l) ≡ []
shutting_created [] = refl
shutting_created (c ∷ l) = shutting_created l

empty_moves : (p : Pool) → Moves [] (numbers p.available) p (become (with_available p []) p)
unfolding held sum_of
empty_moves p = record { even = λ w. omega arith }

shutting_moves : (l : List Conn) (p : Pool) → Moves (numbers l) [] p (emit_all (map closed_with_pool l) p)
unfolding sum_of
shutting_moves l p = record { even = λ w. rw (shutting_closed, shutting_created) (omega arith) }

shut_moves : (p : Pool) → Moves [] [] p (shut p)
unfolding shut enter
shut_moves p = moves_then _ _ p (empty_moves p) (moves_then _ _ _ (shutting_moves p.available _) (search moving depth 8))

pub handle_moves : (e : Event) (p : Pool) → Named e p → Moves [] [] p (handle e p)
unfolding handle abandon clear mark_as_ready maintenance enter Named
handle_moves (CheckOut n) p h = request_moves n false p
handle_moves (WarmPool n) p h = request_moves n true p
handle_moves (Abandon n) p h = search moving
handle_moves (CheckIn n errored executing let_go) p h = check_in_moves n errored executing let_go p h
handle_moves (Clear timeout cause) p h = search moving depth 10
handle_moves MarkAsReady p h = search moving depth 8
handle_moves (Succeeded n) p h = succeeded_moves n p h
handle_moves (SucceededForPool n opened) p h = succeeded_for_pool_moves n opened p h
handle_moves (Failed n) p h = failed_moves n p h
handle_moves Maintenance p h = search (moving, refill_moves) depth 8
handle_moves FillPool p h = search moving
handle_moves (Pin n) p h = repin_moves _ n p
handle_moves (ReturnToPinner n) p h = repin_moves _ n p
handle_moves (TakeFromPinner n) p h = repin_moves _ n p
handle_moves Close p h = shut_moves p

-- ── The service stage ──────────────────────────────────────────────────────────────────────────────────────────────────

pub establish_moves : (w : Waiter) (p : Pool) → Moves [] [] p (establish w p)
unfolding establish told
establish_moves w p = search moving depth 8

lend_moves : (w : Waiter) (c : Conn) (p : Pool) → Moves (c.id ∷ []) [] p (lend w c p)
unfolding lend told
lend_moves w c p =
    moves_then _ _ _ (still _ _ refl refl refl refl refl)
    (moves_if _ _ _ (λ _. shelve_moves c _ _ _ refl) (λ _. lend_out_moves c _ _ refl))

take_available_moves : (w : Waiter) (l : List Conn) (p : Pool) → ((w : ℕ → ℕ) → sum_of w (numbers l) ≡ sum_of w (numbers p.available))
    → Moves [] [] p (take_available w l p)
unfolding take_available close_perished
take_available_moves w [] p h = establish_moves w p
take_available_moves w (c ∷ cs) p h =
    moves_then _ _ p (take_moves c cs (reverse cs) p h (λ v. sum_reverse v cs))
    (moves_if _ _ _
    (λ _. moves_then _ _ _ (close_moves _ c.id _ _) (take_available_moves w cs _ (λ v. sym (sum_reverse v cs))))
    (λ _. lend_moves w c _))

check_out_moves : (w : Waiter) (p : Pool) → Moves [] [] p (check_out w p)
unfolding check_out told
check_out_moves w p = moves_if _ _ p (λ _. search (moving, establish_moves)) (λ _. take_available_moves w _ p (λ v. sum_reverse v p.available))

serve_front_moves : (l : List Waiter) (p : Pool) → Moves [] [] p (serve_front l p)
unfolding serve_front
serve_front_moves [] p = search moving
serve_front_moves (w ∷ l) p = search (moving, check_out_moves)

pub service_moves : (p : Pool) → Moves [] [] p (service p)
unfolding service
service_moves p = search (moving, serve_front_moves)

-- ── One event, and a run ───────────────────────────────────────────────────────────────────────────────────────────────

event_moves : (e : Event) (p : Pool) → Named e p → Moves [] [] p (event e p)
unfolding event
event_moves e p h = then₀ _ _ p (handle_moves e p h) (search (moving, service_moves))

step_moves : (p : Pool) (f : Frame) (room : ℕ) (r : Result) → Stepped p f room r → Moves [] [] p (after p r)
unfolding held
step_moves p f room r (no_step n) = search moving
step_moves p f room r (a_step {e = e} {now = now} {room = room'} h) = record { even = (event_moves e (with_clock p now) (passed_named p e now room' h)).even }

pub run_moves : (cs : List Call) (p : Pool) → Moves [] [] p (run cs p)
unfolding run
run_moves [] p = search moving
run_moves (c ∷ cs) p = then₀ _ _ p (step_moves p c.frame c.room _ (stepped p c.frame c.room)) (run_moves cs (next p c))

-- the same up to the service stage of one more event
pub until_service_moves : (cs : List Call) (p : Pool) (e : Event) (now room : ℕ) → Passed (run cs p).pool e now room
    → Moves [] [] p ((run cs >> (λ q. handle e (with_clock q now))) p)
unfolding held
until_service_moves cs p e now room h =
    then₀ _ _ p (run_moves cs p) (record { even = (handle_moves e (with_clock (run cs p).pool now) (passed_named (run cs p).pool e now room h)).even })

-- what is created from a fresh pool on is what is closed and what the pool then holds
pub conserved : (o : Options) (out : Out Pool) → Moves [] [] (fresh o) out → (w : ℕ → ℕ)
    → sum_of w (created out.records) ≡ held w out.pool + sum_of w (closed out.records)
unfolding held sum_of
conserved o out m w = omega (arith, m.even w)
