-- What every event keeps: the options, the count of records until its end, and the last request number save where it brings one.
use Rattle.std.specs.Prelude.{◌≡◌, refl, Bool, true, false, List, [], ◌∷◌, ◌++◌, ℕ, zero, suc, ◌+◌, length}
use Rattle.std.proofs.Common.{◌∙◌, length-append, arith, leb-false}
use Rattle.std.specs.Prelude.{None as none}
use Rattle.definition.specs.Laws.{not_first}
use Rattle.definition.specs.Words.{when◌then◌else◌}
use Rattle.definition.specs.Pool.{Pool, Conn, Waiter, with_clock}
use Rattle.definition.specs.Steps.{Out, Act, ◌>>◌, leave_lent, leave_pending, shelve, lend_out, create_pending_connection, create_many, close_perished, tell_all, enter, queue, request, abandon, check_in, clear, mark_as_ready, succeeded, succeeded_for_pool, failed, remove_perished, ensure_min_connections, maintenance, repin, shut, handle, establish, lend, take_available, check_out, serve_front, service, event}
use Rattle.definition.specs.Refusals.{first, kind_tests, Result, Call, after, run}
use Rattle.definition.specs.declared.Event.{Event}
use Rattle.definition.specs.declared.Event.TheVariants.{CheckOut, WarmPool, Abandon, CheckIn, Clear, MarkAsReady, Succeeded, SucceededForPool, Failed, Maintenance, FillPool, Pin, ReturnToPinner, TakeFromPinner, Close}
use Rattle.definition.specs.declared.Frame.{Frame}
use Rattle.definition.specs.declared.PoolState.{PoolState}
use Rattle.definition.specs.declared.PoolState.TheVariants.{New, Paused, Ready, Closed}
use Rattle.definition.specs.Log.{Rising}
use Rattle.promises.specs.Runs.{arrivals, taken, accepted, next}
use Rattle.promises.specs.Calls.{Stepped, no_step, a_step, stepped, passed_kind}
use Rattle.promises.specs.Keeps.{last_of, Keeps}

keeps_then : {l : List ℕ} (a b : Act Pool) (p : Pool) → Keeps l p (a p) → Keeps [] (a p).pool (b (a p).pool) → Keeps l p ((a >> b) p)
unfolding ◌>>◌
keeps_then a b p f g = record { options_stay = g.options_stay ∙ f.options_stay; written_stays = g.written_stays ∙ f.written_stays; last = g.last ∙ f.last }

keeps_if : {l : List ℕ} {b : Bool} (a₁ a₂ : Act Pool) (p : Pool) → (b ≡ true → Keeps l p (a₁ p)) → (b ≡ false → Keeps l p (a₂ p))
    → Keeps l p ((when b then a₁ else a₂) p)
unfolding when◌then◌else◌
keeps_if {b = true} a₁ a₂ p f g = f refl
keeps_if {b = false} a₁ a₂ p f g = g refl

keeps : {l : List ℕ} (p : Pool) (o : Out Pool) → o.pool.options ≡ p.options → o.pool.written ≡ p.written
    → o.pool.last_request ≡ last_of l p.last_request → Keeps l p o
keeps p o a b c = record { options_stay = a; written_stays = b; last = c }

ruleset keeping = (keeps_then, keeps_if, keeps)

create_many_keeps : (n : ℕ) (p : Pool) → Keeps [] p (create_many n p)
unfolding create_many create_pending_connection
create_many_keeps zero p = search keeping
create_many_keeps (suc n) p = keeps_then _ _ p (search keeping) (create_many_keeps n _)

pub remove_perished_keeps : (l : List Conn) (p : Pool) → Keeps [] p (remove_perished l p)
unfolding remove_perished close_perished
remove_perished_keeps [] p = search keeping
remove_perished_keeps (c ∷ cs) p =
    keeps_if _ _ p (λ _. keeps_then _ _ p (search keeping) (keeps_then _ _ _ (search keeping) (remove_perished_keeps cs _))) (λ _. search keeping)

queue_keeps : (n : ℕ) (warm : Bool) (s : PoolState) (p : Pool) → Keeps [] p (queue n warm s p)
unfolding queue
queue_keeps n warm New p = search keeping
queue_keeps n warm (Paused cause) p = search keeping
queue_keeps n warm Ready p = search keeping
queue_keeps n warm Closed p = search keeping

request_keeps : (n : ℕ) (warm : Bool) (p : Pool) → Keeps (n ∷ []) p (request n warm p)
unfolding request
request_keeps n warm p = keeps_then _ _ p (search keeping) (queue_keeps n warm p.state _)

pub handle_keeps : (e : Event) (p : Pool) → Keeps (arrivals e) p (handle e p)
unfolding handle abandon check_in clear mark_as_ready succeeded succeeded_for_pool failed maintenance ensure_min_connections repin shut leave_lent leave_pending shelve lend_out enter tell_all
handle_keeps (CheckOut n) p = request_keeps n false p
handle_keeps (WarmPool n) p = request_keeps n true p
handle_keeps (Abandon n) p = search keeping
handle_keeps (CheckIn n errored executing let_go) p = search keeping depth 16
handle_keeps (Clear timeout cause) p = search keeping depth 16
handle_keeps MarkAsReady p = search keeping depth 16
handle_keeps (Succeeded n) p = search keeping depth 16
handle_keeps (SucceededForPool n opened) p = search keeping depth 16
handle_keeps (Failed n) p = search keeping depth 16
handle_keeps Maintenance p = search (keeping, create_many_keeps, remove_perished_keeps) depth 16
handle_keeps FillPool p = search keeping
handle_keeps (Pin n) p = search keeping
handle_keeps (ReturnToPinner n) p = search keeping
handle_keeps (TakeFromPinner n) p = search keeping
handle_keeps Close p = search keeping depth 16

take_available_keeps : (w : Waiter) (l : List Conn) (p : Pool) → Keeps [] p (take_available w l p)
unfolding take_available establish create_pending_connection close_perished lend shelve lend_out
take_available_keeps w [] p = search keeping depth 8
take_available_keeps w (c ∷ cs) p =
    keeps_then _ _ p (search keeping)
    (keeps_if _ _ _ (λ _. keeps_then _ _ _ (search keeping) (take_available_keeps w cs _)) (λ _. search keeping depth 8))

serve_front_keeps : (l : List Waiter) (p : Pool) → Keeps [] p (serve_front l p)
unfolding serve_front check_out establish create_pending_connection
serve_front_keeps [] p = search keeping
serve_front_keeps (w ∷ l) p = search (keeping, take_available_keeps) depth 10

pub service_keeps : (p : Pool) → Keeps [] p (service p)
unfolding service
service_keeps p = search (keeping, serve_front_keeps)

event_keeps : (e : Event) (p : Pool) → Keeps (arrivals e) p (event e p)
unfolding event
event_keeps e p = keeps_then _ _ p (handle_keeps e p) (search (keeping, service_keeps))

-- ── Over a run ─────────────────────────────────────────────────────────────────────────────────────────────────────────

pub step_options : (p : Pool) (f : Frame) (room : ℕ) (r : Result) → Stepped p f room r → (after p r).pool.options ≡ p.options
step_options p f room r (no_step n) = refl
step_options p f room r (a_step {e = e} {now = now} h) = (event_keeps e (with_clock p now)).options_stay

pub run_options : (cs : List Call) (p : Pool) → (run cs p).pool.options ≡ p.options
unfolding run ◌>>◌
run_options [] p = refl
run_options (c ∷ cs) p = run_options cs (next p c) ∙ step_options p c.frame c.room _ (stepped p c.frame c.room)

pub step_written : (p : Pool) (f : Frame) (room : ℕ) (r : Result) → Stepped p f room r
    → (after p r).pool.written ≡ p.written + length (after p r).records
step_written p f room r (no_step n) = omega arith
step_written p f room r (a_step {e = e} {now = now} h) = omega (arith, (event_keeps e (with_clock p now)).written_stays)

-- the records of a run are counted
pub run_written : (cs : List Call) (p : Pool) → (run cs p).pool.written ≡ p.written + length (run cs p).records
unfolding run ◌>>◌
run_written [] p = omega arith
run_written (c ∷ cs) p =
    rw length-append (omega (arith, run_written cs (next p c), step_written p c.frame c.room _ (stepped p c.frame c.room)))

-- an event's own request is above the last, and what rises after it rises after them both
kind_rising : (p : Pool) (e : Event) (now : ℕ) (l : List ℕ) → first (kind_tests p e now) ≡ none
    → Rising (last_of (arrivals e) p.last_request) l → Rising p.last_request (arrivals e ++ l)
kind_rising p (CheckOut n) now l h r = (leb-false n p.last_request (not_first _ _ _ h).0, r)
kind_rising p (WarmPool n) now l h r = (leb-false n p.last_request (not_first _ _ _ h).0, r)
kind_rising p (Abandon n) now l h r = r
kind_rising p (CheckIn n errored executing let_go) now l h r = r
kind_rising p (Clear timeout cause) now l h r = r
kind_rising p MarkAsReady now l h r = r
kind_rising p (Succeeded n) now l h r = r
kind_rising p (SucceededForPool n opened) now l h r = r
kind_rising p (Failed n) now l h r = r
kind_rising p Maintenance now l h r = r
kind_rising p FillPool now l h r = r
kind_rising p (Pin n) now l h r = r
kind_rising p (ReturnToPinner n) now l h r = r
kind_rising p (TakeFromPinner n) now l h r = r
kind_rising p Close now l h r = r

step_rising : (p : Pool) (f : Frame) (room : ℕ) (r : Result) (l : List ℕ) → Stepped p f room r → Rising (after p r).pool.last_request l
    → Rising p.last_request (taken f r ++ l)
step_rising p f room r l (no_step n) i = i
step_rising p f room r l (a_step {e = e} {now = now} {room = room'} h) i =
    kind_rising p e now l (passed_kind p e now room' h) (rw (event_keeps e (with_clock p now)).last at i)

-- the requests that a run accepts rise
pub run_rising : (cs : List Call) (p : Pool) → Rising p.last_request (accepted p cs)
unfolding accepted
run_rising [] p = tt
run_rising (c ∷ cs) p = step_rising p c.frame c.room _ _ (stepped p c.frame c.room) (run_rising cs (next p c))
