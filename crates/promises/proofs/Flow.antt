-- Requests: who was waiting, and then who arrived, is who was answered, and then who is waiting.
use Rattle.std.specs.Prelude.{◌≡◌, refl, Bool, true, false, not, ◌&&◌, ◌||◌, List, [], ◌∷◌, map, ℕ, zero, suc, ◌+◌, length}
use Rattle.std.proofs.Common.{ap, sym, ◌∙◌, true≢false, append-nil, append_assoc}
use Rattle.std.proofs.Math.Bool.{and-true}
use Rattle.std.proofs.lemmas.List.{map-append}
use Rattle.definition.specs.Booleans.{and_left}
use Rattle.definition.specs.Words.{when◌then◌else◌, ◌=?◌}
use Rattle.definition.specs.Pool.{Pool, Conn, Waiter, is_ready, is_closed, with_clock, with_waiting, fresh}
use Rattle.definition.specs.declared.Record.{Record}
use Rattle.definition.specs.declared.Record.TheVariants.{PoolCleared, Interrupt}
use Rattle.definition.specs.declared.Reply.{Reply}
use Rattle.definition.specs.declared.Reply.TheVariants.{Cleared}
use Rattle.definition.specs.Steps.{closed_with_pool, Out, Act, ◌>>◌, nothing, emit, leave_lent, leave_pending, shelve, lend_out, create_pending_connection, create_many, close_perished, tell_all, enter, queue, request, abandon, check_in, clear, mark_as_ready, succeeded, succeeded_for_pool, failed, remove_perished, ensure_min_connections, maintenance, repin, shut, handle, can_service, serve_front, service, event}
use Rattle.definition.specs.Refusals.{taken_after_close, Result, Call, after, run}
use Rattle.definition.specs.declared.Options.{Options}
use Rattle.definition.specs.declared.Event.{Event}
use Rattle.definition.specs.declared.Event.TheVariants.{CheckOut, WarmPool, Abandon, CheckIn, Clear, MarkAsReady, Succeeded, SucceededForPool, Failed, Maintenance, FillPool, Pin, ReturnToPinner, TakeFromPinner, Close}
use Rattle.definition.specs.declared.Frame.{Frame}
use Rattle.definition.specs.declared.PoolState.{PoolState}
use Rattle.definition.specs.declared.PoolState.TheVariants.{New, Paused, Ready, Closed}
use Rattle.definition.specs.declared.Purpose.{Purpose}
use Rattle.definition.specs.Log.{answered, ids}
use Rattle.promises.specs.Runs.{arrivals, taken, accepted}
use Rattle.definition.proofs.Sentences.{answered_append, tellings, check_out_says, front_answered}
use Rattle.promises.specs.Calls.{Stepped, no_step, a_step, stepped, passed_open}
use Rattle.promises.specs.Flow.{Flow, Calm, Calms}

flow_then : {n : List ℕ} (a b : Act Pool) (p : Pool) → Flow n p (a p) → Flow [] (a p).pool (b (a p).pool) → Flow n p ((a >> b) p)
unfolding ◌>>◌
flow_then a b p f g = record { same = f.same ∙ rw (answered_append, append_assoc, ← g.same, append-nil) }

flow_if : {n : List ℕ} {b : Bool} (a₁ a₂ : Act Pool) (p : Pool) → (b ≡ true → Flow n p (a₁ p)) → (b ≡ false → Flow n p (a₂ p))
    → Flow n p ((when b then a₁ else a₂) p)
unfolding when◌then◌else◌
flow_if {b = true} a₁ a₂ p f g = f refl
flow_if {b = false} a₁ a₂ p f g = g refl

-- an act that answers nobody and leaves the queue
quiet : (p : Pool) (o : Out Pool) → answered o.records ≡ [] → o.pool.waiting ≡ p.waiting → Flow [] p o
quiet p o e w = record { same = rw (e, w, append-nil) }

-- ── Parts ──────────────────────────────────────────────────────────────────────────────────────────────────────────────

shuttings : (l : List Conn) → answered (map closed_with_pool l) ≡ []
shuttings [] = refl
shuttings (c ∷ l) = shuttings l

create_flow : (why : Purpose) (p : Pool) → Flow [] p (create_pending_connection why p)
unfolding create_pending_connection ◌>>◌
create_flow why p = record { same = append-nil _ }

create_many_flow : (n : ℕ) (p : Pool) → Flow [] p (create_many n p)
unfolding create_many
create_many_flow zero p = record { same = append-nil _ }
create_many_flow (suc n) p = flow_then _ _ p (create_flow _ p) (create_many_flow n _)

tell_all_flow : (a : Reply) (p : Pool) → Flow [] p (tell_all a p)
unfolding tell_all ◌>>◌
tell_all_flow a p = record { same = simp (append-nil, tellings) }

remove_perished_flow : (l : List Conn) (p : Pool) → Flow [] p (remove_perished l p)
unfolding remove_perished close_perished
remove_perished_flow [] p = quiet _ _ refl refl
remove_perished_flow (c ∷ cs) p =
    flow_if _ _ p
    (λ _. flow_then _ _ p (quiet _ _ refl refl) (flow_then _ _ _ (quiet _ _ refl refl) (remove_perished_flow cs _)))
    (λ _. quiet _ _ refl refl)

queue_flow : (n : ℕ) (warm : Bool) (s : PoolState) (p : Pool) → (is_ready s ≡ false → p.waiting ≡ []) → is_closed s ≡ false
    → Flow (n ∷ []) p (queue n warm s p)
unfolding queue
queue_flow n warm New p calm o = record { same = rw (calm refl) }
queue_flow n warm (Paused cause) p calm o = record { same = rw (calm refl) }
queue_flow n warm Ready p calm o = record { same = rw map-append }
queue_flow n warm Closed p calm o = absurd (true≢false o)

request_flow : (n : ℕ) (warm : Bool) (p : Pool) → Calm p → is_closed p.state ≡ false → Flow (n ∷ []) p (request n warm p)
unfolding request Calm ◌>>◌
request_flow n warm p calm o = record { same = (queue_flow n warm p.state _ calm o).same }

abandon_flow : (n : ℕ) (p : Pool) → Flow [] p (abandon n p)
unfolding abandon
abandon_flow n p = record { same = append-nil _ ∙ marked p.waiting }
  where
    marked : (l : List Waiter) → ids l ≡ ids (map (λ w. record { id = w.id; warm = w.warm; abandoned = w.abandoned || w.id =? n }) l)
    marked [] = refl
    marked (w ∷ l) = ap (λ r. w.id ∷ r) (marked l)

ruleset flowing = (flow_then, flow_if, quiet, create_flow, create_many_flow, tell_all_flow, remove_perished_flow, shuttings)

-- an event of an open pool, or one that a closed pool still takes
pub handle_flow : (e : Event) (p : Pool) → Calm p → is_closed p.state && not (taken_after_close e) ≡ false → Flow (arrivals e) p (handle e p)
unfolding handle check_in clear mark_as_ready succeeded succeeded_for_pool failed maintenance ensure_min_connections repin shut leave_lent leave_pending shelve lend_out enter
handle_flow (CheckOut n) p c o = request_flow n false p c (rw and-true at o)
handle_flow (WarmPool n) p c o = request_flow n true p c (rw and-true at o)
handle_flow (Abandon n) p c o = abandon_flow n p
handle_flow (CheckIn n errored executing let_go) p c o = search flowing depth 16
handle_flow (Clear timeout cause) p c o = search flowing depth 16
handle_flow MarkAsReady p c o = search flowing depth 16
handle_flow (Succeeded n) p c o = search flowing depth 16
handle_flow (SucceededForPool n opened) p c o = search flowing depth 16
handle_flow (Failed n) p c o = search flowing depth 16
handle_flow Maintenance p c o = search flowing depth 16
handle_flow FillPool p c o = search flowing
handle_flow (Pin n) p c o = search flowing
handle_flow (ReturnToPinner n) p c o = search flowing
handle_flow (TakeFromPinner n) p c o = search flowing
handle_flow Close p c o = search flowing depth 16

-- the service stage leaves those after the one that it answers
pub service_flow : (p : Pool) → Flow [] p (service p)
service_flow p = record { same = append-nil _ ∙ front_answered p }

calms_then : (a b : Act Pool) (p : Pool) → Calms p (a p) → Calms (a p).pool (b (a p).pool) → Calms p ((a >> b) p)
unfolding ◌>>◌
calms_then a b p f g = record { calms = λ c. g.calms (f.calms c) }

calms_if : {b : Bool} (a₁ a₂ : Act Pool) (p : Pool) → (b ≡ true → Calms p (a₁ p)) → (b ≡ false → Calms p (a₂ p)) → Calms p ((when b then a₁ else a₂) p)
unfolding when◌then◌else◌
calms_if {b = true} a₁ a₂ p f g = f refl
calms_if {b = false} a₁ a₂ p f g = g refl

calms_same : (p : Pool) (o : Out Pool) → o.pool.state ≡ p.state → o.pool.waiting ≡ p.waiting → Calms p o
unfolding Calm
calms_same p o s w = record { calms = λ c h. w ∙ c (rw s at h) }

calms_empty : (p : Pool) (o : Out Pool) → o.pool.waiting ≡ [] → Calms p o
unfolding Calm
calms_empty p o w = record { calms = λ c h. w }

calms_ready : (p : Pool) (o : Out Pool) → is_ready o.pool.state ≡ true → Calms p o
unfolding Calm
calms_ready p o r = record { calms = λ c h. absurd (true≢false (sym r ∙ h)) }

ruleset calming = (calms_then, calms_if, calms_same, calms_empty, calms_ready)

create_many_calms : (n : ℕ) (p : Pool) → Calms p (create_many n p)
unfolding create_many create_pending_connection
create_many_calms zero p = search calming
create_many_calms (suc n) p = calms_then _ _ p (search calming depth 8) (create_many_calms n _)

remove_perished_calms : (l : List Conn) (p : Pool) → Calms p (remove_perished l p)
unfolding remove_perished close_perished
remove_perished_calms [] p = search calming
remove_perished_calms (c ∷ cs) p =
    calms_if _ _ p (λ _. calms_then _ _ p (search calming) (calms_then _ _ _ (search calming) (remove_perished_calms cs _))) (λ _. search calming)

queue_calms : (n : ℕ) (warm : Bool) (s : PoolState) (p : Pool) → p.state ≡ s → Calms p (queue n warm s p)
unfolding queue
queue_calms n warm New p e = search calming
queue_calms n warm (Paused cause) p e = search calming
queue_calms n warm Ready p e = calms_ready _ _ (rw e)
queue_calms n warm Closed p e = search calming

request_calms : (n : ℕ) (warm : Bool) (p : Pool) → Calms p (request n warm p)
unfolding request
request_calms n warm p = calms_then _ _ p (search calming) (queue_calms n warm p.state _ refl)

abandon_calms : (n : ℕ) (p : Pool) → Calms p (abandon n p)
unfolding abandon Calm
abandon_calms n p = record { calms = λ c h. rw (c h) }

-- what a clear does before it pauses the pool leaves nobody waiting
clear_empties : (ready timeout : Bool) (r₁ r₂ : Record) (x : Reply) (p : Pool) → (ready ≡ false → p.waiting ≡ [])
    → ((when ready then emit r₁ >> tell_all x else nothing) ((when timeout then emit r₂ else nothing) p).pool).pool.waiting ≡ []
unfolding when◌then◌else◌ ◌>>◌ tell_all
clear_empties true true r₁ r₂ x p h = refl
clear_empties true false r₁ r₂ x p h = refl
clear_empties false true r₁ r₂ x p h = h refl
clear_empties false false r₁ r₂ x p h = h refl

clear_calms : (timeout : Bool) (cause : ℕ) (p : Pool) → Calms p (clear timeout cause p)
unfolding clear enter ◌>>◌ Calm
clear_calms timeout cause p =
    record { calms = λ k h. clear_empties (is_ready p.state) timeout (PoolCleared timeout cause (p.generation + 1)) (Interrupt (length p.lent)) (Cleared cause) p k }

pub handle_calms : (e : Event) (p : Pool) → Calms p (handle e p)
unfolding handle check_in mark_as_ready succeeded succeeded_for_pool failed maintenance ensure_min_connections repin shut leave_lent leave_pending shelve lend_out enter tell_all ◌>>◌
handle_calms (CheckOut n) p = request_calms n false p
handle_calms (WarmPool n) p = request_calms n true p
handle_calms (Abandon n) p = abandon_calms n p
handle_calms (CheckIn n errored executing let_go) p = search calming depth 16
handle_calms (Clear timeout cause) p = clear_calms timeout cause p
handle_calms MarkAsReady p = search calming depth 8
handle_calms (Succeeded n) p = search calming depth 8
handle_calms (SucceededForPool n opened) p = search calming depth 8
handle_calms (Failed n) p = search calming depth 8
handle_calms Maintenance p = search (calming, create_many_calms, remove_perished_calms) depth 8
handle_calms FillPool p = search calming depth 8
handle_calms (Pin n) p = search calming depth 8
handle_calms (ReturnToPinner n) p = search calming depth 8
handle_calms (TakeFromPinner n) p = search calming depth 8
handle_calms Close p = search calming depth 8

serve_front_calms : (l : List Waiter) (p : Pool) → is_ready p.state ≡ true → Calms p (serve_front l p)
unfolding serve_front ◌>>◌
serve_front_calms [] p h = search calming
serve_front_calms (w ∷ l) p h = calms_ready _ _ (rw (check_out_says w (with_waiting p l)).state_stays h)

service_calms : (p : Pool) → Calms p (service p)
unfolding service can_service
service_calms p = calms_if _ _ p (λ h. serve_front_calms p.waiting p (and_left _ _ h)) (λ h. search calming)

-- ── One event, and a run ───────────────────────────────────────────────────────────────────────────────────────────────

pub event_flow : (e : Event) (p : Pool) → Calm p → is_closed p.state && not (taken_after_close e) ≡ false → Flow (arrivals e) p (event e p)
unfolding event
event_flow e p c o = flow_then _ _ p (handle_flow e p c o) (search (flowing, service_flow))

pub event_calms : (e : Event) (p : Pool) → Calms p (event e p)
unfolding event
event_calms e p = calms_then _ _ p (handle_calms e p) (search (calming, service_calms))

-- the same of a call's result, and of what it leaves
pub step_flow : (p : Pool) (f : Frame) (room : ℕ) (r : Result) → Calm p → Stepped p f room r → Flow (taken f r) p (after p r)
unfolding Calm
step_flow p f room r c (no_step n) = quiet _ _ refl refl
step_flow p f room r c (a_step {e = e} {now = now} {room = room'} h) = record { same = (event_flow e (with_clock p now) c (passed_open p e now room' h)).same }

pub step_calms : (p : Pool) (f : Frame) (room : ℕ) (r : Result) → Stepped p f room r → Calm p → Calm (after p r).pool
unfolding Calm
step_calms p f room r (no_step n) c = c
step_calms p f room r (a_step {e = e} {now = now} h) c = (event_calms e (with_clock p now)).calms c

pub run_calms : (cs : List Call) (p : Pool) → Calm p → Calm (run cs p).pool
unfolding run ◌>>◌
run_calms [] p c = c
run_calms (k ∷ cs) p c = run_calms cs _ (step_calms p k.frame k.room _ (stepped p k.frame k.room) c)

pub run_flow : (cs : List Call) (p : Pool) → Calm p → Flow (accepted p cs) p (run cs p)
unfolding run accepted ◌>>◌
run_flow [] p c = record { same = append-nil _ }
run_flow (k ∷ cs) p c =
    let s = stepped p k.frame k.room in
    let f = step_flow p k.frame k.room _ c s in
    let g = run_flow cs _ (step_calms p k.frame k.room _ s c) in
    record { same = rw (answered_append, append_assoc, ← g.same, ← append_assoc (answered (after p _).records), ← f.same, append_assoc) }

pub fresh_calm : (o : Options) → Calm (fresh o)
unfolding Calm
fresh_calm o h = refl
