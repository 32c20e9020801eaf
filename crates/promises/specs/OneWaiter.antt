-- No event but a clear and a close takes more than one waiter from the queue: what its own stage does leaves all of them there.
use Rattle.std.specs.Prelude.{◌≡◌, refl, Bool, true, false, List, [], ◌∷◌, ℕ, zero, suc, ◌+◌, ◌≤◌, length}
use Rattle.std.proofs.Common.{ap, true≢false, arith, length-append}
use Rattle.std.specs.Prelude.{Option, None as none, Some as some}
use Rattle.std.proofs.lemmas.List.{length-map}
use Rattle.definition.specs.Words.{when◌then◌else◌}
use Rattle.definition.specs.Pool.{Pool, Conn, with_clock}
use Rattle.definition.specs.Steps.{Out, Act, ◌>>◌, nothing, leave_lent, leave_pending, shelve, lend_out, create_pending_connection, create_many, close_perished, enter, queue, request, abandon, check_in, mark_as_ready, succeeded, succeeded_for_pool, failed, remove_perished, ensure_min_connections, maintenance, repin, handle, service, serviced, event}
use Rattle.definition.specs.Refusals.{first, tests, outcome, verdict, after, step}
use Rattle.definition.specs.Log.{answered}
use Rattle.definition.proofs.Sentences.{if_both, front_answered, service_once}
use Rattle.definition.specs.declared.Event.{Event}
use Rattle.definition.specs.declared.Event.TheVariants.{CheckOut, WarmPool, Abandon, CheckIn, Clear, MarkAsReady, Succeeded, SucceededForPool, Failed, Maintenance, FillPool, Pin, ReturnToPinner, TakeFromPinner, Close}
use Rattle.definition.specs.declared.Frame.{Frame}
use Rattle.definition.specs.declared.Frame.TheVariants.{Good, Bad}
use Rattle.definition.specs.declared.PoolState.{PoolState}
use Rattle.definition.specs.declared.PoolState.TheVariants.{New, Paused, Ready, Closed}
use Rattle.definition.specs.declared.Refusal.{Refusal}

-- a clear and a close answer all who wait
abbrev pub answers_all : Frame → Bool
answers_all (Good (CheckOut n) now) = false
answers_all (Good (WarmPool n) now) = false
answers_all (Good (Abandon n) now) = false
answers_all (Good (CheckIn n errored executing let_go) now) = false
answers_all (Good (Clear timeout cause) now) = true
answers_all (Good MarkAsReady now) = false
answers_all (Good (Succeeded n) now) = false
answers_all (Good (SucceededForPool n opened) now) = false
answers_all (Good (Failed n) now) = false
answers_all (Good Maintenance now) = false
answers_all (Good FillPool now) = false
answers_all (Good (Pin n) now) = false
answers_all (Good (ReturnToPinner n) now) = false
answers_all (Good (TakeFromPinner n) now) = false
answers_all (Good Close now) = true
answers_all Bad = false

-- ── The event's own stage ──────────────────────────────────────────────────────────────────────────────────────────────

record Stay (p : Pool) (o : Out Pool) : Type 0 where
  stay : length p.waiting ≤ length o.pool.waiting

stay_then : (a b : Act Pool) (p : Pool) → Stay p (a p) → Stay (a p).pool (b (a p).pool) → Stay p ((a >> b) p)
unfolding ◌>>◌
stay_then a b p f g = record { stay = omega (arith, f.stay, g.stay) }

stay_if : {b : Bool} (a₁ a₂ : Act Pool) (p : Pool) → (b ≡ true → Stay p (a₁ p)) → (b ≡ false → Stay p (a₂ p)) → Stay p ((when b then a₁ else a₂) p)
unfolding when◌then◌else◌
stay_if {b = true} a₁ a₂ p f g = f refl
stay_if {b = false} a₁ a₂ p f g = g refl

stay_same : (p : Pool) (o : Out Pool) → o.pool.waiting ≡ p.waiting → Stay p o
stay_same p o e = record { stay = rw e (omega arith) }

ruleset staying = (stay_then, stay_if, stay_same)

create_many_stay : (n : ℕ) (p : Pool) → Stay p (create_many n p)
unfolding create_many create_pending_connection
create_many_stay zero p = search staying
create_many_stay (suc n) p = stay_then _ _ p (search staying depth 8) (create_many_stay n _)

remove_perished_stay : (l : List Conn) (p : Pool) → Stay p (remove_perished l p)
unfolding remove_perished close_perished
remove_perished_stay [] p = search staying
remove_perished_stay (c ∷ cs) p =
    stay_if _ _ p (λ _. stay_then _ _ p (search staying) (stay_then _ _ _ (search staying) (remove_perished_stay cs _))) (λ _. search staying)

queue_stay : (n : ℕ) (warm : Bool) (s : PoolState) (p : Pool) → Stay p (queue n warm s p)
unfolding queue
queue_stay n warm New p = search staying
queue_stay n warm (Paused cause) p = search staying
queue_stay n warm Ready p = record { stay = rw length-append (omega arith) }
queue_stay n warm Closed p = search staying

abandon_stay : (n : ℕ) (p : Pool) → Stay p (abandon n p)
unfolding abandon
abandon_stay n p = record { stay = rw length-map (omega arith) }

handle_stay : (e : Event) (now : ℕ) (p : Pool) → answers_all (Good e now) ≡ false → Stay p (handle e p)
unfolding handle request check_in mark_as_ready succeeded succeeded_for_pool failed maintenance ensure_min_connections repin leave_lent leave_pending shelve lend_out enter
handle_stay (CheckOut n) now p h = stay_then _ _ p (search staying) (queue_stay n false p.state _)
handle_stay (WarmPool n) now p h = stay_then _ _ p (search staying) (queue_stay n true p.state _)
handle_stay (Abandon n) now p h = abandon_stay n p
handle_stay (CheckIn n errored executing let_go) now p h = search staying depth 16
handle_stay (Clear timeout cause) now p h = absurd (true≢false h)
handle_stay MarkAsReady now p h = search staying depth 16
handle_stay (Succeeded n) now p h = search staying depth 16
handle_stay (SucceededForPool n opened) now p h = search staying depth 16
handle_stay (Failed n) now p h = search staying depth 16
handle_stay Maintenance now p h = search (staying, create_many_stay, remove_perished_stay) depth 16
handle_stay FillPool now p h = search staying
handle_stay (Pin n) now p h = search staying
handle_stay (ReturnToPinner n) now p h = search staying
handle_stay (TakeFromPinner n) now p h = search staying
handle_stay Close now p h = absurd (true≢false h)

-- ── The service stage, and a call ──────────────────────────────────────────────────────────────────────────────────────

record TakesOne (p : Pool) (o : Out Pool) : Type 0 where
  takes_one : length p.waiting ≤ length o.pool.waiting + 1

service_takes : (p : Pool) → TakesOne p (service p)
service_takes p =
    let l : length p.waiting ≡ length (answered (service p).records) + length (service p).pool.waiting =
    simp (length-append, length-map) at (ap length (front_answered p)) in
    record { takes_one = omega (arith, l, service_once p) }

event_takes : (e : Event) (now : ℕ) (p : Pool) → answers_all (Good e now) ≡ false → TakesOne p (event e p)
unfolding event ◌>>◌
event_takes e now p h =
    let q = (handle e p).pool in
    let s = (handle_stay e now p h).stay in
    let t : TakesOne q ((when serviced e then service else nothing) q) =
    if_both (λ (a : Act Pool). TakesOne q (a q)) (λ _. service_takes q) (λ _. record { takes_one = omega arith }) in
    record { takes_one = omega (arith, s, t.takes_one) }

-- refused or taken
pub call_takes : (p : Pool) (f : Frame) (room : ℕ) → answers_all f ≡ false → length p.waiting ≤ length (after p (step p f room)).pool.waiting + 1
unfolding step outcome
call_takes p f room h = go f h (first (tests p f room))
  where
    go : (f : Frame) → answers_all f ≡ false → (r : Option Refusal) → length p.waiting ≤ length (after p (verdict r (outcome f p))).pool.waiting + 1
    go (Good e now) k none = (event_takes e now (with_clock p now) k).takes_one
    go Bad k none = omega arith
    go f k (some x) = omega arith
