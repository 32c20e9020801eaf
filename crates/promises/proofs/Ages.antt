-- What the records say of ages: one that is closed as idle was available for as long as the limit, and of no other is an age told.
use Rattle.std.specs.Prelude.{◌≡◌, Bool, ◌||◌}
use Rattle.std.proofs.Math.Path.{refl}
use Rattle.std.proofs.Common.{sym, ap, subst, ◌∙◌, true≢false, arith, ltb-true, leb-true}
use Rattle.std.proofs.Math.Bool.{true, false}
use mathlib.Core.List.{List, [], ◌∷◌, ◌++◌, map, Memᴰ}
use Prim.Native.Nat.{ℕ, zero, suc, ◌-◌, ◌≤◌, ◌<◌}
use Rattle.definition.specs.Booleans.{and_left, and_right}
use Rattle.definition.specs.Words.{when◌then◌else◌, ◌<?◌, ◌≤?◌}
use Rattle.definition.specs.Pool.{Pool, Conn, Waiter, idle_for, stale, idle, perished, age_told, with_clock}
use Rattle.definition.specs.Records.{told}
use Rattle.definition.specs.declared.Record.{Record}
use Rattle.definition.specs.declared.Record.TheVariants.{ConnectionCreated, ConnectionReady, ConnectionCheckedIn, ConnectionClosed, PoolReady, PoolCleared, PoolShut, Interrupt, Replied}
use Rattle.definition.specs.declared.Reply.{Reply}
use Rattle.definition.specs.Steps.{closed_with_pool, Out, Act, ◌>>◌, leave_lent, leave_pending, shelve, lend_out, create_pending_connection, create_many, close_perished, tell_all, enter, queue, request, abandon, check_in, clear, mark_as_ready, succeeded, succeeded_for_pool, failed, remove_perished, ensure_min_connections, maintenance, repin, shut, handle, establish, lend, take_available, check_out, serve_front, service, event}
use Rattle.definition.specs.Refusals.{Result, Call, after, run}
use Rattle.definition.proofs.Sentences.{if_both}
use Rattle.definition.specs.declared.ClosedReason.TheVariants.{Idle, Stale}
use Rattle.definition.specs.declared.Event.{Event}
use Rattle.definition.specs.declared.Event.TheVariants.{CheckOut, WarmPool, Abandon, CheckIn, Clear, MarkAsReady, Succeeded, SucceededForPool, Failed, Maintenance, FillPool, Pin, ReturnToPinner, TakeFromPinner, Close}
use Rattle.definition.specs.declared.Frame.{Frame}
use Rattle.definition.specs.declared.Options.{Options}
use Rattle.definition.specs.declared.PoolState.{PoolState}
use Rattle.definition.specs.declared.PoolState.TheVariants.{New, Paused, Ready, Closed}
use Rattle.promises.specs.Promises.{AgeSaid}
use Rattle.promises.specs.Runs.{result, next}
use Rattle.promises.specs.Calls.{Stepped, no_step, a_step, stepped}
use Rattle.promises.proofs.Keeps.{step_options}

-- ── The idle test ──────────────────────────────────────────────────────────────────────────────────────────────────────

-- only what is as old as the limit is idle, and that limit is not 0
idle_reaches : (limit since now : ℕ) → 0 <? idle_for limit since now ≡ true → (0 < limit) × (limit ≤ idle_for limit since now)
idle_reaches limit since now =
    if_both (λ (age : ℕ). 0 <? age ≡ true → (0 < limit) × (limit ≤ age))
    (λ h _. (ltb-true 0 limit (and_left (0 <? limit) (limit ≤? now - since) h), leb-true limit (now - since) (and_right (0 <? limit) (limit ≤? now - since) h)))
    (λ _ h. absurd (true≢false (sym h)))

perished_age_lem : (outdated : Bool) (limit since now : ℕ) → (outdated || 0 <? idle_for limit since now) ≡ true
    → AgeSaid limit (when outdated then Stale else Idle) (age_told outdated (idle_for limit since now))
unfolding when◌then◌else◌
perished_age_lem true limit since now h = refl
perished_age_lem false limit since now h =
    let k = idle_reaches limit since now h in
    (k.0, omega (arith, k.1), omega arith)

-- of a pool with this idle limit
module _ (limit : ℕ) where
  -- ── Records ────────────────────────────────────────────────────────────────────────────────────────────────────────────

  abbrev pub Aged : Record → Type 0
  Aged (ConnectionCreated c) = Unit {0}
  Aged (ConnectionReady c) = Unit {0}
  Aged (ConnectionCheckedIn c) = Unit {0}
  Aged (ConnectionClosed reason c other) = AgeSaid limit reason other
  Aged PoolReady = Unit {0}
  Aged (PoolCleared timeout cause generation) = Unit {0}
  Aged PoolShut = Unit {0}
  Aged (Interrupt lent) = Unit {0}
  Aged (Replied request r) = Unit {0}

  abbrev pub AllAged : List Record → Type 0
  AllAged [] = Unit {0}
  AllAged (r ∷ rs) = Aged r × AllAged rs

  both_aged : (xs ys : List Record) → AllAged xs → AllAged ys → AllAged (xs ++ ys)
  both_aged [] ys f g = g
  both_aged (x ∷ xs) ys f g = (f.0, both_aged xs ys f.1 g)

  pub one_aged : {r : Record} {l : List Record} → Memᴰ r l → AllAged l → Aged r
  one_aged (Memᴰ.head e) f = subst (λ (x : Record). Aged x) (sym e) f.0
  one_aged (Memᴰ.tail m) f = one_aged m f.1

  told_aged : (a : Reply) (l : List Waiter) → AllAged (map (told a) l)
  unfolding told
  told_aged a [] = tt
  told_aged a (w ∷ l) = (tt, told_aged a l)

  shut_aged : (l : List Conn) → AllAged (map closed_with_pool l)
  shut_aged [] = tt
  shut_aged (c ∷ l) = (refl, shut_aged l)

  -- ── Acts and steps ─────────────────────────────────────────────────────────────────────────────────────────────────────

  record Tells (p : Pool) (o : Out Pool) : Type 0 where
    aged : p.options.idle ≡ limit → AllAged o.records
    options_stay : o.pool.options ≡ p.options

  tells_then : (a b : Act Pool) (p : Pool) → Tells p (a p) → Tells (a p).pool (b (a p).pool) → Tells p ((a >> b) p)
  unfolding ◌>>◌
  tells_then a b p f g = record {
    aged = λ h. both_aged (a p).records _ (f.aged h) (g.aged (ap (λ (o : Options). o.idle) f.options_stay ∙ h));
    options_stay = g.options_stay ∙ f.options_stay;
  }

  tells_if : {b : Bool} (a₁ a₂ : Act Pool) (p : Pool) → (b ≡ true → Tells p (a₁ p)) → (b ≡ false → Tells p (a₂ p))
      → Tells p ((when b then a₁ else a₂) p)
  unfolding when◌then◌else◌
  tells_if {b = true} a₁ a₂ p f g = f refl
  tells_if {b = false} a₁ a₂ p f g = g refl

  tells : (p : Pool) (o : Out Pool) → AllAged o.records → o.pool.options ≡ p.options → Tells p o
  tells p o a k = record { aged = λ _. a; options_stay = k }

  ruleset telling = (tells_then, tells_if, tells, told_aged, shut_aged)

  close_perished_tells : (c : Conn) (p : Pool) → perished p c ≡ true → Tells p (close_perished c p)
  unfolding close_perished
  close_perished_tells c p e = record {
    aged = λ h. (subst (λ (x : ℕ). AgeSaid x (when stale p c then Stale else Idle) (age_told (stale p c) (idle p c))) h (perished_age_lem (stale p c) p.options.idle c.time p.clock e), tt);
    options_stay = refl;
  }

  create_many_tells : (n : ℕ) (p : Pool) → Tells p (create_many n p)
  unfolding create_many create_pending_connection
  create_many_tells zero p = search telling
  create_many_tells (suc n) p = tells_then _ _ p (search telling depth 8) (create_many_tells n _)

  remove_perished_tells : (l : List Conn) (p : Pool) → Tells p (remove_perished l p)
  unfolding remove_perished
  remove_perished_tells [] p = search telling
  remove_perished_tells (c ∷ cs) p =
      tells_if _ _ p (λ e. tells_then _ _ p (search telling) (tells_then _ _ _ (close_perished_tells c _ e) (remove_perished_tells cs _))) (λ _. search telling)

  queue_tells : (n : ℕ) (warm : Bool) (s : PoolState) (p : Pool) → Tells p (queue n warm s p)
  unfolding queue
  queue_tells n warm New p = search telling
  queue_tells n warm (Paused cause) p = search telling
  queue_tells n warm Ready p = search telling
  queue_tells n warm Closed p = search telling

  request_tells : (n : ℕ) (warm : Bool) (p : Pool) → Tells p (request n warm p)
  unfolding request
  request_tells n warm p = tells_then _ _ p (search telling) (queue_tells n warm p.state _)

  handle_tells : (e : Event) (p : Pool) → Tells p (handle e p)
  unfolding handle abandon check_in clear mark_as_ready succeeded succeeded_for_pool failed maintenance ensure_min_connections repin shut leave_lent leave_pending shelve lend_out enter tell_all
  handle_tells (CheckOut n) p = request_tells n false p
  handle_tells (WarmPool n) p = request_tells n true p
  handle_tells (Abandon n) p = search telling
  handle_tells (CheckIn n errored executing let_go) p = search telling depth 16
  handle_tells (Clear timeout cause) p = search telling depth 16
  handle_tells MarkAsReady p = search telling depth 16
  handle_tells (Succeeded n) p = search telling depth 16
  handle_tells (SucceededForPool n opened) p = search telling depth 16
  handle_tells (Failed n) p = search telling depth 16
  handle_tells Maintenance p = search (telling, create_many_tells, remove_perished_tells) depth 16
  handle_tells FillPool p = search telling
  handle_tells (Pin n) p = search telling
  handle_tells (ReturnToPinner n) p = search telling
  handle_tells (TakeFromPinner n) p = search telling
  handle_tells Close p = search telling depth 16

  take_available_tells : (w : Waiter) (l : List Conn) (p : Pool) → Tells p (take_available w l p)
  unfolding take_available establish create_pending_connection lend shelve lend_out told
  take_available_tells w [] p = search telling depth 8
  take_available_tells w (c ∷ cs) p =
      tells_then _ _ p (search telling)
      (tells_if _ _ _ (λ e. tells_then _ _ _ (close_perished_tells c _ e) (take_available_tells w cs _)) (λ _. search telling depth 8))

  serve_front_tells : (l : List Waiter) (p : Pool) → Tells p (serve_front l p)
  unfolding serve_front check_out establish create_pending_connection told
  serve_front_tells [] p = search telling
  serve_front_tells (w ∷ l) p = search (telling, take_available_tells) depth 10

  service_tells : (p : Pool) → Tells p (service p)
  unfolding service
  service_tells p = search (telling, serve_front_tells)

  event_tells : (e : Event) (p : Pool) → Tells p (event e p)
  unfolding event
  event_tells e p = tells_then _ _ p (handle_tells e p) (search (telling, service_tells))

  -- ── Over a run ─────────────────────────────────────────────────────────────────────────────────────────────────────────

  step_aged : (p : Pool) (f : Frame) (room : ℕ) (r : Result) → Stepped p f room r → p.options.idle ≡ limit → AllAged (after p r).records
  step_aged p f room r (no_step n) h = tt
  step_aged p f room r (a_step {e = e} {now = now} _) h = (event_tells e (with_clock p now)).aged h

  pub run_aged : (cs : List Call) (p : Pool) → p.options.idle ≡ limit → AllAged (run cs p).records
  unfolding run ◌>>◌
  run_aged [] p h = tt
  run_aged (c ∷ cs) p h =
      let s = stepped p c.frame c.room in
      both_aged (after p (result p c)).records (run cs (next p c)).records (step_aged p c.frame c.room _ s h)
      (run_aged cs (next p c) (ap (λ (o : Options). o.idle) (step_options p c.frame c.room _ s) ∙ h))
