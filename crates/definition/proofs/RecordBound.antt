-- How many records the stages of an event write, said once, of the lists: the promises and the code's room follow from it.
use Rattle.std.specs.Prelude.{◌≡◌, refl, Bool, true, false, List, [], ◌∷◌, reverse, ℕ, zero, suc, ◌+◌, ◌-◌, min, max, length}
use Rattle.std.proofs.Common.{length-append, arith}
use Rattle.std.proofs.lemmas.List.{length-map, length-reverse}
use Rattle.definition.specs.Words.{when◌then◌else◌}
use Rattle.definition.specs.Pool.{Pool, Conn, Waiter, is_ready, total, with_last_request, with_waiting, with_available}
use Rattle.definition.specs.Records.{Record, PoolCleared, Reply, Cleared, told}
use Rattle.definition.specs.Steps.{Act, ◌>>◌, nothing, emit, become, leave_lent, leave_pending, shelve, lend_out, create_pending_connection, create_many, close_perished, tell_all, enter, queue, request, abandon, check_in, clear, mark_as_ready, succeeded, succeeded_for_pool, failed, remove_perished, ensure_min_connections, maintenance, repin, shut, handle, establish, lend, take_available, check_out, serve_front, service}
use Rattle.definition.proofs.Sentences.{if_both}
use Rattle.definition.specs.Types.{Event, CheckOut, WarmPool, Abandon, CheckIn, Clear, MarkAsReady, Succeeded, SucceededForPool, Failed, Maintenance, FillPool, Pin, ReturnToPinner, TakeFromPinner, Close, PoolState, New, Paused, Ready, Closed, Background}
use Rattle.definition.specs.RecordBound.{Few}

pub few_then : (j k : ℕ) (a b : Act Pool) (p : Pool) → Few j (a p) → Few k (b (a p).pool) → Few (j + k) ((a >> b) p)
unfolding ◌>>◌
few_then j k a b p f g = rw length-append (omega arith)

pub few_if : {b : Bool} {k : ℕ} (a₁ a₂ : Act Pool) (p : Pool) → (b ≡ true → Few k (a₁ p)) → (b ≡ false → Few k (a₂ p)) → Few k ((when b then a₁ else a₂) p)
unfolding when◌then◌else◌
few_if {b = true} a₁ a₂ p f g = f refl
few_if {b = false} a₁ a₂ p f g = g refl

create_many_few : (n : ℕ) (p : Pool) → Few n (create_many n p)
unfolding create_many create_pending_connection ◌>>◌
create_many_few zero p = omega arith
create_many_few (suc n) p = omega (arith, create_many_few n (create_pending_connection Background p).pool)

pub remove_perished_few : (l : List Conn) (p : Pool) → Few (length l) (remove_perished l p)
unfolding remove_perished close_perished ◌>>◌
remove_perished_few [] p = omega arith
remove_perished_few (c ∷ cs) p =
    few_if _ _ p (λ _. go (remove_perished_few cs (with_available p cs))) (λ _. omega arith)
  where
    go : Few (length cs) (remove_perished cs (with_available p cs))
        → Few (suc (length cs)) ((become (with_available p cs) >> close_perished c >> remove_perished cs) p)
    go h = omega arith

pub tell_all_few : (a : Reply) (p : Pool) → Few (length p.waiting) (tell_all a p)
unfolding tell_all ◌>>◌
tell_all_few a p = simp (length-append, length-map) (omega arith)

queue_few : (n : ℕ) (warm : Bool) (s : PoolState) (p : Pool) → Few 1 (queue n warm s p)
unfolding queue
queue_few n warm New p = omega arith
queue_few n warm (Paused cause) p = omega arith
queue_few n warm Ready p = omega arith
queue_few n warm Closed p = omega arith

check_in_few : (n : ℕ) (errored executing : Bool) (let_go : ℕ) (p : Pool) → Few 2 (check_in n errored executing let_go p)
unfolding check_in leave_lent shelve
check_in_few n errored executing let_go p =
    few_then 0 2 _ _ p (omega arith)
    (few_if _ _ _ (λ _. omega arith)
    (λ _. few_then 1 1 _ _ _ (omega arith)
    (few_if _ _ _ (λ _. omega arith) (λ _. few_if _ _ _ (λ _. omega arith) (λ _. few_if _ _ _ (λ _. omega arith) (λ _. omega arith))))))

-- a ready pool says that it is cleared, and answers everyone
cleared_few : (ready : Bool) (r : Record) (a : Reply) (p : Pool) → Few (1 + length p.waiting) ((when ready then emit r >> tell_all a else nothing) p)
unfolding when◌then◌else◌ ◌>>◌
cleared_few true r a p = omega (arith, tell_all_few a p)
cleared_few false r a p = omega arith

clear_few : (timeout : Bool) (cause : ℕ) (p : Pool) → Few (length p.waiting + 2) (clear timeout cause p)
unfolding clear enter when◌then◌else◌ ◌>>◌
clear_few true cause p = simp length-append (omega (arith, cleared_few (is_ready p.state) (PoolCleared true cause (p.generation + 1)) (Cleared cause) p))
clear_few false cause p = simp length-append (omega (arith, cleared_few (is_ready p.state) (PoolCleared false cause (p.generation + 1)) (Cleared cause) p))

succeeded_for_pool_few : (n opened : ℕ) (p : Pool) → Few 2 (succeeded_for_pool n opened p)
unfolding succeeded_for_pool leave_pending shelve
succeeded_for_pool_few n opened p = few_then 1 1 _ _ p (omega arith) (few_then 0 1 _ _ _ (omega arith) (few_if _ _ _ (λ _. omega arith) (λ _. omega arith)))

refill_few : (p : Pool) → Few p.options.minimum (ensure_min_connections p)
unfolding ensure_min_connections
refill_few p =
    let k = min (p.options.minimum - total p) (p.options.connecting - length p.pending) in
    few_if _ _ p (λ _. omega (arith, create_many_few k p)) (λ _. omega arith)

remove_perished_options : (l : List Conn) (p : Pool) → (remove_perished l p).pool.options ≡ p.options
unfolding remove_perished close_perished ◌>>◌
remove_perished_options [] p = refl
remove_perished_options (c ∷ cs) p = if_both (λ (a : Act Pool). (a p).pool.options ≡ p.options) (λ _. remove_perished_options cs (with_available p cs)) (λ _. refl)

pub maintenance_few : (p : Pool) → Few (length p.available + p.options.minimum) (maintenance p)
unfolding maintenance
maintenance_few p =
    let q = (remove_perished p.available p).pool in
    few_then (length p.available) p.options.minimum _ _ p (remove_perished_few p.available p)
    (rw (remove_perished_options p.available p) at (refill_few q))

pub shut_few : (p : Pool) → Few (length p.available + length p.waiting + 1) (shut p)
unfolding shut enter tell_all ◌>>◌
shut_few p = simp (length-append, length-map) (omega arith)

-- a close writes one for each available connection and each waiter; maintenance closes as many at most, and fills up
pub handle_few : (e : Event) (p : Pool) → Few (length p.available + max (length p.waiting) p.options.minimum + 2) (handle e p)
unfolding handle request abandon mark_as_ready succeeded failed repin leave_pending lend_out enter ◌>>◌
handle_few (CheckOut n) p = omega (arith, queue_few n false p.state (with_last_request p n))
handle_few (WarmPool n) p = omega (arith, queue_few n true p.state (with_last_request p n))
handle_few (Abandon n) p = omega arith
handle_few (CheckIn n errored executing let_go) p = omega (arith, check_in_few n errored executing let_go p)
handle_few (Clear timeout cause) p = omega (arith, clear_few timeout cause p)
handle_few MarkAsReady p = few_if _ _ p (λ _. omega arith) (λ _. omega arith)
handle_few (Succeeded n) p = omega arith
handle_few (SucceededForPool n opened) p = omega (arith, succeeded_for_pool_few n opened p)
handle_few (Failed n) p = omega arith
handle_few Maintenance p = omega (arith, maintenance_few p)
handle_few FillPool p = omega arith
handle_few (Pin n) p = omega arith
handle_few (ReturnToPinner n) p = omega arith
handle_few (TakeFromPinner n) p = omega arith
handle_few Close p = omega (arith, shut_few p)

lend_few : (w : Waiter) (c : Conn) (p : Pool) → Few 1 (lend w c p)
unfolding lend shelve lend_out told
lend_few w c p = few_then 1 0 _ _ p (omega arith) (few_if _ _ p (λ _. omega arith) (λ _. omega arith))

take_available_few : (w : Waiter) (l : List Conn) (p : Pool) → Few (length l + 2) (take_available w l p)
unfolding take_available establish create_pending_connection close_perished told ◌>>◌
take_available_few w [] p = omega arith
take_available_few w (c ∷ cs) p =
    let q = with_available p (reverse cs) in
    few_if _ _ q (λ _. omega (arith, take_available_few w cs q)) (λ _. omega (arith, lend_few w c q))

serve_front_few : (l : List Waiter) (p : Pool) → Few (length p.available + 2) (serve_front l p)
unfolding serve_front check_out establish create_pending_connection told ◌>>◌
serve_front_few [] p = omega arith
serve_front_few (w ∷ l) p =
    few_if _ _ (with_waiting p l) (λ _. few_if _ _ (with_waiting p l) (λ _. omega arith) (λ _. omega arith))
    (λ _. omega (arith, rw length-reverse at (take_available_few w (reverse p.available) (with_waiting p l))))

pub service_few : (b : Bool) (p : Pool) → Few (length p.available + 2) ((when b then service else nothing) p)
unfolding service
service_few b p = few_if _ _ p (λ _. few_if _ _ p (λ _. serve_front_few p.waiting p) (λ _. omega arith)) (λ _. omega arith)
