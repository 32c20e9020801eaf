-- New connections are numbered on from the last, so that no number is created twice.
use Rattle.std.specs.Prelude.{◌≡◌, refl, Bool, true, false, List, [], ◌∷◌, ◌++◌, ◌⊎◌, ℕ, zero, suc, ◌+◌, ◌≤◌, ◌<◌, length}
use Rattle.std.proofs.Common.{◌∙◌, inl, inr, length-append, arith, zero-add, add-zero, suc-add, add-suc, eqb-true, ne_eqb}
use Rattle.definition.specs.Words.{when◌then◌else◌, ◌=?◌}
use Rattle.definition.specs.Pool.{Pool, Conn, Waiter, with_clock}
use Rattle.definition.specs.Records.{told}
use Rattle.definition.specs.Steps.{Out, Act, ◌>>◌, leave_lent, leave_pending, shelve, lend_out, create_pending_connection, create_many, close_perished, tell_all, enter, queue, request, abandon, check_in, clear, mark_as_ready, succeeded, succeeded_for_pool, failed, remove_perished, ensure_min_connections, maintenance, repin, shut, handle, establish, lend, take_available, check_out, serve_front, service, event}
use Rattle.definition.specs.Refusals.{Result, Call, after, run}
use Rattle.definition.specs.declared.Event.{Event}
use Rattle.definition.specs.declared.Event.TheVariants.{CheckOut, WarmPool, Abandon, CheckIn, Clear, MarkAsReady, Succeeded, SucceededForPool, Failed, Maintenance, FillPool, Pin, ReturnToPinner, TakeFromPinner, Close}
use Rattle.definition.specs.declared.Frame.{Frame}
use Rattle.definition.specs.declared.PoolState.{PoolState}
use Rattle.definition.specs.declared.PoolState.TheVariants.{New, Paused, Ready, Closed}
use Rattle.definition.specs.declared.Purpose.{Purpose}
use Rattle.definition.specs.Log.{created, sum_of, often}
use Rattle.promises.specs.Runs.{next}
use Rattle.promises.specs.Calls.{Stepped, no_step, a_step, stepped}
use Rattle.promises.specs.Conserve.{created_append, tellings_created, shutting_created}

abbrev count_from : ℕ → ℕ → List ℕ
count_from a zero = []
count_from a (suc n) = a ∷ count_from (suc a) n

count_append : (n m a : ℕ) → count_from a (n + m) ≡ count_from a n ++ count_from (a + n) m
count_append zero m a = rw (zero-add, add-zero)
count_append (suc n) m a = rw (suc-add, count_append n m (suc a), suc-add, add-suc)

-- ── Acts that create nothing ───────────────────────────────────────────────────────────────────────────────────────────

pub record Plain (p : Pool) (o : Out Pool) : Type 0 where
  pub none_made : created o.records ≡ []
  pub next_stays : o.pool.next_id ≡ p.next_id

plain_then : (a b : Act Pool) (p : Pool) → Plain p (a p) → Plain (a p).pool (b (a p).pool) → Plain p ((a >> b) p)
unfolding ◌>>◌
plain_then a b p f g = record { none_made = rw (created_append, f.none_made, g.none_made); next_stays = g.next_stays ∙ f.next_stays }

plain_if : {b : Bool} (a₁ a₂ : Act Pool) (p : Pool) → (b ≡ true → Plain p (a₁ p)) → (b ≡ false → Plain p (a₂ p)) → Plain p ((when b then a₁ else a₂) p)
unfolding when◌then◌else◌
plain_if {b = true} a₁ a₂ p f g = f refl
plain_if {b = false} a₁ a₂ p f g = g refl

plain : (p : Pool) (o : Out Pool) → created o.records ≡ [] → o.pool.next_id ≡ p.next_id → Plain p o
plain p o a b = record { none_made = a; next_stays = b }

ruleset plainly = (plain_then, plain_if, plain, tellings_created, shutting_created)

queue_plain : (n : ℕ) (warm : Bool) (s : PoolState) (p : Pool) → Plain p (queue n warm s p)
unfolding queue
queue_plain n warm New p = search plainly
queue_plain n warm (Paused cause) p = search plainly
queue_plain n warm Ready p = search plainly
queue_plain n warm Closed p = search plainly

pub remove_perished_plain : (l : List Conn) (p : Pool) → Plain p (remove_perished l p)
unfolding remove_perished close_perished
remove_perished_plain [] p = search plainly
remove_perished_plain (c ∷ cs) p =
    plain_if _ _ p (λ _. plain_then _ _ p (search plainly) (plain_then _ _ _ (search plainly) (remove_perished_plain cs _))) (λ _. search plainly)

-- all events but maintenance create nothing before the service stage
pub handle_plain : (e : Event) (p : Pool) → Plain p (handle e p) ⊎ (e ≡ Maintenance)
unfolding handle request abandon check_in clear mark_as_ready succeeded succeeded_for_pool failed repin shut leave_lent leave_pending shelve lend_out enter tell_all
handle_plain (CheckOut n) p = inl (search (plainly, queue_plain))
handle_plain (WarmPool n) p = inl (search (plainly, queue_plain))
handle_plain (Abandon n) p = inl (search plainly)
handle_plain (CheckIn n errored executing let_go) p = inl (search plainly depth 16)
handle_plain (Clear timeout cause) p = inl (search plainly depth 16)
handle_plain MarkAsReady p = inl (search plainly depth 16)
handle_plain (Succeeded n) p = inl (search plainly depth 16)
handle_plain (SucceededForPool n opened) p = inl (search plainly depth 16)
handle_plain (Failed n) p = inl (search plainly depth 16)
handle_plain Maintenance p = inr refl
handle_plain FillPool p = inl (search plainly)
handle_plain (Pin n) p = inl (search plainly)
handle_plain (ReturnToPinner n) p = inl (search plainly)
handle_plain (TakeFromPinner n) p = inl (search plainly)
handle_plain Close p = inl (search plainly depth 16)

-- ── Numbers go on ──────────────────────────────────────────────────────────────────────────────────────────────────────

pub record Numbers (p : Pool) (o : Out Pool) : Type 0 where
  pub in_turn : created o.records ≡ count_from p.next_id (length (created o.records))
  pub next_is : o.pool.next_id ≡ p.next_id + length (created o.records)

numbers_then : (a b : Act Pool) (p : Pool) → Numbers p (a p) → Numbers (a p).pool (b (a p).pool) → Numbers p ((a >> b) p)
unfolding ◌>>◌
numbers_then a b p f g = record {
  in_turn = rw (created_append, length-append, count_append, ← f.in_turn, ← f.next_is, ← g.in_turn);
  next_is = rw (created_append, length-append) (omega (arith, f.next_is, g.next_is));
}

numbers_if : {b : Bool} (a₁ a₂ : Act Pool) (p : Pool) → (b ≡ true → Numbers p (a₁ p)) → (b ≡ false → Numbers p (a₂ p))
    → Numbers p ((when b then a₁ else a₂) p)
unfolding when◌then◌else◌
numbers_if {b = true} a₁ a₂ p f g = f refl
numbers_if {b = false} a₁ a₂ p f g = g refl

plain_numbers : (p : Pool) (o : Out Pool) → Plain p o → Numbers p o
plain_numbers p o h = record { in_turn = rw h.none_made; next_is = rw (h.none_made, h.next_stays, add-zero) }

ruleset numbering = (numbers_if, numbers_then, plain_numbers, plainly)

create_numbers : (why : Purpose) (p : Pool) → Numbers p (create_pending_connection why p)
unfolding create_pending_connection ◌>>◌
create_numbers why p = record { in_turn = refl; next_is = refl }

create_many_numbers : (n : ℕ) (p : Pool) → Numbers p (create_many n p)
unfolding create_many
create_many_numbers zero p = plain_numbers _ _ (search plainly)
create_many_numbers (suc n) p = numbers_then _ _ p (create_numbers _ p) (create_many_numbers n _)

maintenance_numbers : (p : Pool) → Numbers p (maintenance p)
unfolding maintenance ensure_min_connections
maintenance_numbers p = search (numbering, remove_perished_plain, create_many_numbers)

handle_numbers : (e : Event) (p : Pool) → Numbers p (handle e p)
unfolding handle
handle_numbers e p = go (handle_plain e p)
  where
    go : Plain p (handle e p) ⊎ (e ≡ Maintenance) → Numbers p (handle e p)
    go (inl h) = plain_numbers _ _ h
    go (inr h) = rw h (maintenance_numbers p)

establish_numbers : (w : Waiter) (p : Pool) → Numbers p (establish w p)
unfolding establish told
establish_numbers w p = numbers_then _ _ p (create_numbers _ p) (plain_numbers _ _ (search plainly))

take_available_numbers : (w : Waiter) (l : List Conn) (p : Pool) → Numbers p (take_available w l p)
unfolding take_available close_perished lend told shelve lend_out
take_available_numbers w [] p = establish_numbers w p
take_available_numbers w (c ∷ cs) p =
    numbers_then _ _ p (search numbering)
    (numbers_if _ _ _ (λ _. numbers_then _ _ _ (search numbering) (take_available_numbers w cs _)) (λ _. plain_numbers _ _ (search plainly depth 8)))

serve_front_numbers : (l : List Waiter) (p : Pool) → Numbers p (serve_front l p)
unfolding serve_front check_out told
serve_front_numbers [] p = search numbering
serve_front_numbers (w ∷ l) p = search (numbering, establish_numbers, take_available_numbers) depth 8

service_numbers : (p : Pool) → Numbers p (service p)
unfolding service
service_numbers p = search (numbering, serve_front_numbers)

event_numbers : (e : Event) (p : Pool) → Numbers p (event e p)
unfolding event
event_numbers e p = numbers_then _ _ p (handle_numbers e p) (search (numbering, service_numbers))

step_numbers : (p : Pool) (f : Frame) (room : ℕ) (r : Result) → Stepped p f room r → Numbers p (after p r)
step_numbers p f room r (no_step n) = search numbering
step_numbers p f room r (a_step {e = e} {now = now} h) =
    let k = event_numbers e (with_clock p now) in
    record { in_turn = k.in_turn; next_is = k.next_is }

pub run_numbers : (cs : List Call) (p : Pool) → Numbers p (run cs p)
unfolding run
run_numbers [] p = search numbering
run_numbers (c ∷ cs) p = numbers_then _ _ p (step_numbers p c.frame c.room _ (stepped p c.frame c.room)) (run_numbers cs (next p c))

-- the same up to the service stage of one more event
pub until_service_numbers : (cs : List Call) (p : Pool) (e : Event) (now : ℕ) → Numbers p ((run cs >> (λ q. handle e (with_clock q now))) p)
until_service_numbers cs p e now =
    let k = handle_numbers e (with_clock (run cs p).pool now) in
    numbers_then _ _ p (run_numbers cs p) (record { in_turn = k.in_turn; next_is = k.next_is })

-- ── Once ───────────────────────────────────────────────────────────────────────────────────────────────────────────────

count_none : (n a i : ℕ) → i < a → often i (count_from a n) ≡ 0
unfolding sum_of when◌then◌else◌
count_none zero a i h = refl
count_none (suc n) a i h = rw (ne_eqb a i (λ e. omega arith)) (omega (arith, count_none n (suc a) i (omega arith)))

count_once : (n a i : ℕ) → often i (count_from a n) ≤ 1
unfolding sum_of when◌then◌else◌
count_once zero a i = omega arith
count_once (suc n) a i = go (a =? i) refl (count_once n (suc a) i)
  where
    go : (b : Bool) → (a =? i) ≡ b → often i (count_from (suc a) n) ≤ 1 → (when b then 1 else 0) + often i (count_from (suc a) n) ≤ 1
    go true e h = omega (arith, count_none n (suc a) i (omega (arith, eqb-true a i e)))
    go false e h = omega arith

-- no number is created twice
pub created_once : (p : Pool) (o : Out Pool) → Numbers p o → (i : ℕ) → often i (created o.records) ≤ 1
created_once p o k i = rw k.in_turn (count_once (length (created o.records)) p.next_id i)
