-- What a pool's state says of the rest of it, and that every event keeps it so.
use Rattle.std.specs.Prelude.{◌≡◌, Bool, false, not, ◌&&◌, ◌||◌, ◌⊎◌, ℕ, zero, suc, ◌+◌, ◌≤◌, ◌<◌}
use Rattle.std.proofs.Math.Path.{refl, ap}
use Rattle.std.proofs.Common.{◌∙◌, true≢false, inl, inr, arith}
use Rattle.std.proofs.Math.Bool.{true}
use Rattle.std.proofs.lemmas.Bool.{false≢true}
use mathlib.Core.List.{List, [], ◌∷◌}
use Rattle.std.proofs.Math.ListN.{length}
use borrow.Author.Tests.{eqb-true, eqb-false, eq-eqb, lt-ltb, not-false}
use Rattle.definition.specs.Booleans.{and_left, and_right, both_true}
use Rattle.definition.specs.Laws.{no_length}
use Rattle.definition.specs.Words.{when◌then◌else◌, ◌=?◌, ◌<?◌}
use Rattle.definition.specs.Pool.{Pool, Conn, Waiter, is_ready, is_closed, total, with_waiting}
use Rattle.definition.specs.Steps.{kind_no, Out, Act, ◌>>◌, nothing, leave_lent, leave_pending, shelve, lend_out, create_pending_connection, create_many, close_perished, tell_all, enter, queue, request, abandon, check_in, clear, mark_as_ready, succeeded, succeeded_for_pool, failed, remove_perished, ensure_min_connections, maintenance, repin, shut, handle, can_service, serve_front, service, serviced, event}
use Rattle.definition.specs.Refusals.{causeless, taken_after_close}
use Rattle.definition.specs.declared.Event.{Event}
use Rattle.definition.specs.declared.Event.TheVariants.{CheckOut, WarmPool, Abandon, CheckIn, Clear, MarkAsReady, Succeeded, SucceededForPool, Failed, Maintenance, FillPool, Pin, ReturnToPinner, TakeFromPinner, Close}
use Rattle.definition.specs.declared.PoolState.{PoolState}
use Rattle.definition.specs.declared.PoolState.TheVariants.{New, Paused, Ready, Closed}
use Rattle.definition.proofs.Sentences.{check_out_says, clear_pauses}
use Rattle.promises.specs.Calls.{Named}
use Rattle.promises.specs.Flow.{Calm}
use Rattle.promises.proofs.Flow.{handle_calms}
use Rattle.promises.specs.Conserve.{handle_moves}
use Rattle.promises.specs.Numbered.{Plain, handle_plain}
use Rattle.promises.proofs.Bound.{plain_fits}
use Rattle.promises.specs.States.{state_fits, Stated}

-- ── Nobody waits ───────────────────────────────────────────────────────────────────────────────────────────────────────

waits_none : (s : PoolState) (g n t a w : ℕ) → is_ready s ≡ false → state_fits s g n t a w ≡ true → w ≡ 0
waits_none New g n t a w r h = eqb-true w 0 (and_right (t =? 0) _ (and_right (n =? 1) _ (and_right (g =? 0) _ h)))
waits_none (Paused cause) g n t a w r h = eqb-true w 0 (and_right (0 <? g) _ (and_right (0 <? cause) _ h))
waits_none Ready g n t a w r h = absurd (true≢false r)
waits_none Closed g n t a w r h = eqb-true w 0 (and_right (a =? 0) _ h)

pub stated_calm : (p : Pool) → Stated p → Calm p
unfolding Stated Calm
stated_calm p h r = no_length p.waiting (waits_none p.state _ _ _ _ _ r h)

-- ── Events that leave the state and the generation alone ───────────────────────────────────────────────────────────────

record Steady (p : Pool) (o : Out Pool) : Type 0 where
  state : o.pool.state ≡ p.state
  generation : o.pool.generation ≡ p.generation

steady_then : (a b : Act Pool) (p : Pool) → Steady p (a p) → Steady (a p).pool (b (a p).pool) → Steady p ((a >> b) p)
unfolding ◌>>◌
steady_then a b p f g = record { state = g.state ∙ f.state; generation = g.generation ∙ f.generation }

steady_if : {b : Bool} (a₁ a₂ : Act Pool) (p : Pool) → (b ≡ true → Steady p (a₁ p)) → (b ≡ false → Steady p (a₂ p)) → Steady p ((when b then a₁ else a₂) p)
unfolding when◌then◌else◌
steady_if {b = true} a₁ a₂ p f g = f refl
steady_if {b = false} a₁ a₂ p f g = g refl

steady : (p : Pool) (o : Out Pool) → o.pool.state ≡ p.state → o.pool.generation ≡ p.generation → Steady p o
steady p o a b = record { state = a; generation = b }

ruleset steadily = (steady_then, steady_if, steady)

create_many_steady : (n : ℕ) (p : Pool) → Steady p (create_many n p)
unfolding create_many create_pending_connection
create_many_steady zero p = search steadily
create_many_steady (suc n) p = steady_then _ _ p (search steadily) (create_many_steady n _)

remove_perished_steady : (l : List Conn) (p : Pool) → Steady p (remove_perished l p)
unfolding remove_perished close_perished
remove_perished_steady [] p = search steadily
remove_perished_steady (c ∷ cs) p =
    steady_if _ _ p (λ _. steady_then _ _ p (search steadily) (steady_then _ _ _ (search steadily) (remove_perished_steady cs _))) (λ _. search steadily)

queue_steady : (n : ℕ) (warm : Bool) (s : PoolState) (p : Pool) → Steady p (queue n warm s p)
unfolding queue
queue_steady n warm New p = search steadily
queue_steady n warm (Paused cause) p = search steadily
queue_steady n warm Ready p = search steadily
queue_steady n warm Closed p = search steadily

-- a clear, a ready and a close change it
abbrev changes : Event → Bool
changes e = kind_no e =? 5 || (kind_no e =? 6 || kind_no e =? 15)

handle_steady : (e : Event) (p : Pool) → changes e ≡ false → Steady p (handle e p)
unfolding handle request abandon check_in succeeded succeeded_for_pool failed maintenance ensure_min_connections repin leave_lent leave_pending shelve lend_out
handle_steady (CheckOut n) p h = search (steadily, queue_steady)
handle_steady (WarmPool n) p h = search (steadily, queue_steady)
handle_steady (Abandon n) p h = search steadily
handle_steady (CheckIn n errored executing let_go) p h = search steadily depth 16
handle_steady (Clear timeout cause) p h = absurd (true≢false h)
handle_steady MarkAsReady p h = absurd (true≢false h)
handle_steady (Succeeded n) p h = search steadily depth 16
handle_steady (SucceededForPool n opened) p h = search steadily depth 16
handle_steady (Failed n) p h = search steadily depth 16
handle_steady Maintenance p h = search (steadily, create_many_steady, remove_perished_steady) depth 16
handle_steady FillPool p h = search steadily
handle_steady (Pin n) p h = search steadily
handle_steady (ReturnToPinner n) p h = search steadily
handle_steady (TakeFromPinner n) p h = search steadily
handle_steady Close p h = absurd (true≢false h)

-- ── In each state ──────────────────────────────────────────────────────────────────────────────────────────────────────

-- maintenance of a pool that is not ready and has nothing available changes nothing
idles : (p : Pool) → is_ready p.state ≡ false → p.available ≡ [] → (maintenance p).pool ≡ p
unfolding maintenance remove_perished ensure_min_connections ◌>>◌ when◌then◌else◌
idles p r e = rw (e, r)

-- a New pool makes nothing
record Unmade (p q : Pool) : Type 0 where
  next : q.next_id ≡ p.next_id
  none : total q ≤ total p

handle_unmade : (e : Event) (p : Pool) → Named e p → is_ready p.state ≡ false → total p ≡ 0 → Unmade p (handle e p).pool
unfolding handle
handle_unmade e p n r z = go (handle_plain e p)
  where
    go : Plain p (handle e p) ⊎ (e ≡ Maintenance) → Unmade p (handle e p).pool
    go (inl h) = record { next = h.next_stays; none = plain_fits p (handle e p) (handle_moves e p n) h }
    go (inr h) =
        let same = idles p r (no_length p.available (omega arith)) in
        rw h (record { next = ap (λ (q : Pool). q.next_id) same; none = rw same (omega arith) })

-- a Closed pool puts nothing on its list
closed_shelves : (e : Event) (p : Pool) → is_closed p.state ≡ true → taken_after_close e ≡ true → (handle e p).pool.available ≡ p.available
unfolding handle check_in succeeded succeeded_for_pool failed repin leave_lent leave_pending lend_out ◌>>◌ when◌then◌else◌
closed_shelves (CheckOut n) p c h = absurd (false≢true h)
closed_shelves (WarmPool n) p c h = absurd (false≢true h)
closed_shelves (Abandon n) p c h = absurd (false≢true h)
closed_shelves (CheckIn n errored executing let_go) p c h = rw c
closed_shelves (Clear timeout cause) p c h = absurd (false≢true h)
closed_shelves MarkAsReady p c h = absurd (false≢true h)
closed_shelves (Succeeded n) p c h = refl
closed_shelves (SucceededForPool n opened) p c h = rw c
closed_shelves (Failed n) p c h = refl
closed_shelves Maintenance p c h = absurd (false≢true h)
closed_shelves FillPool p c h = absurd (false≢true h)
closed_shelves (Pin n) p c h = refl
closed_shelves (ReturnToPinner n) p c h = refl
closed_shelves (TakeFromPinner n) p c h = refl
closed_shelves Close p c h = absurd (false≢true h)

module _ (e : Event) (p : Pool) (n : Named e p) (o : is_closed p.state && not (taken_after_close e) ≡ false) (c : changes e ≡ false) (h : Stated p) where
  calm_after : is_ready p.state ≡ false → length (handle e p).pool.waiting ≡ 0
  unfolding Calm
  calm_after r = ap length ((handle_calms e p).calms (stated_calm p h) (ap is_ready (handle_steady e p c).state ∙ r))

  in_state : (s : PoolState) → p.state ≡ s
      → state_fits s p.generation (handle e p).pool.next_id (total (handle e p).pool) (length (handle e p).pool.available) (length (handle e p).pool.waiting) ≡ true
  unfolding Stated
  in_state New s =
      let k : state_fits New p.generation p.next_id (total p) (length p.available) (length p.waiting) ≡ true = rw s at h in
      let g = and_left (p.generation =? 0) _ k in
      let m = and_right (p.generation =? 0) _ k in
      let t = and_right (p.next_id =? 1) _ m in
      let z = eqb-true (total p) 0 (and_left (total p =? 0) _ t) in
      let u = handle_unmade e p n (ap is_ready s) z in
      both_true g (both_true (ap (λ (x : ℕ). x =? 1) u.next ∙ and_left (p.next_id =? 1) _ m) (both_true (eq-eqb (total (handle e p).pool) 0 (omega (arith, u.none))) (eq-eqb (length (handle e p).pool.waiting) 0 (calm_after (ap is_ready s)))))
  in_state (Paused cause) s =
      let k : state_fits (Paused cause) p.generation p.next_id (total p) (length p.available) (length p.waiting) ≡ true = rw s at h in
      both_true (and_left (0 <? cause) _ k) (both_true (and_left (0 <? p.generation) _ (and_right (0 <? cause) _ k)) (eq-eqb (length (handle e p).pool.waiting) 0 (calm_after (ap is_ready s))))
  in_state Ready s = refl
  in_state Closed s =
      let k : state_fits Closed p.generation p.next_id (total p) (length p.available) (length p.waiting) ≡ true = rw s at h in
      let shut : is_closed p.state ≡ true = ap is_closed s in
      both_true
      (ap (λ (l : List Conn). length l =? 0) (closed_shelves e p shut (not-false (taken_after_close e) (rw shut at o))) ∙ and_left (length p.available =? 0) _ k)
      (eq-eqb (length (handle e p).pool.waiting) 0 (calm_after (ap is_ready s)))

  steady_stated : Stated (handle e p).pool
  unfolding Stated
  steady_stated = rw ((handle_steady e p c).state, (handle_steady e p c).generation) (in_state p.state refl)

-- what a clear, a ready and a close leave
above_zero : (n : ℕ) → (n =? 0) ≡ false → 0 < n
above_zero n h = omega (arith, eqb-false n 0 h)

clear_stated : (timeout : Bool) (cause : ℕ) (p : Pool) → 0 < cause → Stated p → Stated (handle (Clear timeout cause) p).pool
unfolding Stated handle Calm
clear_stated timeout cause p z h =
    let c = clear_pauses timeout cause p in
    rw (c.0, c.1) (both_true (lt-ltb 0 cause z) (both_true (lt-ltb 0 (p.generation + 1) (omega arith)) (eq-eqb _ 0 empty)))
  where
    empty : length (clear timeout cause p).pool.waiting ≡ 0
    empty = ap length ((handle_calms (Clear timeout cause) p).calms (stated_calm p h) (ap is_ready (clear_pauses timeout cause p).0))

ready_stated : (p : Pool) → Stated (mark_as_ready p).pool
unfolding Stated mark_as_ready enter ◌>>◌ when◌then◌else◌
ready_stated p = go p.state refl
  where
    go : (s : PoolState) → p.state ≡ s → Stated (mark_as_ready p).pool
    go New s = rw s
    go (Paused cause) s = rw s
    go Ready s = rw s
    go Closed s = rw s

shut_stated : (p : Pool) → Stated (shut p).pool
unfolding Stated shut tell_all enter ◌>>◌
shut_stated p = refl

handle_stated : (e : Event) (p : Pool) → Named e p → is_closed p.state && not (taken_after_close e) ≡ false → causeless e ≡ false → Stated p → Stated (handle e p).pool
unfolding handle
handle_stated (CheckOut n) p a o c h = steady_stated (CheckOut n) p a o refl h
handle_stated (WarmPool n) p a o c h = steady_stated (WarmPool n) p a o refl h
handle_stated (Abandon n) p a o c h = steady_stated (Abandon n) p a o refl h
handle_stated (CheckIn n errored executing let_go) p a o c h = steady_stated (CheckIn n errored executing let_go) p a o refl h
handle_stated (Clear timeout cause) p a o c h = clear_stated timeout cause p (above_zero cause c) h
handle_stated MarkAsReady p a o c h = ready_stated p
handle_stated (Succeeded n) p a o c h = steady_stated (Succeeded n) p a o refl h
handle_stated (SucceededForPool n opened) p a o c h = steady_stated (SucceededForPool n opened) p a o refl h
handle_stated (Failed n) p a o c h = steady_stated (Failed n) p a o refl h
handle_stated Maintenance p a o c h = steady_stated Maintenance p a o refl h
handle_stated FillPool p a o c h = steady_stated FillPool p a o refl h
handle_stated (Pin n) p a o c h = steady_stated (Pin n) p a o refl h
handle_stated (ReturnToPinner n) p a o c h = steady_stated (ReturnToPinner n) p a o refl h
handle_stated (TakeFromPinner n) p a o c h = steady_stated (TakeFromPinner n) p a o refl h
handle_stated Close p a o c h = shut_stated p

-- ── The service stage ──────────────────────────────────────────────────────────────────────────────────────────────────

ready_fits : (p : Pool) → is_ready p.state ≡ true → Stated p
unfolding Stated
ready_fits p r = go p.state _ _ _ _ _ r
  where
    go : (s : PoolState) (g n t a w : ℕ) → is_ready s ≡ true → state_fits s g n t a w ≡ true
    go New g n t a w h = absurd (false≢true h)
    go (Paused cause) g n t a w h = absurd (false≢true h)
    go Ready g n t a w h = refl
    go Closed g n t a w h = absurd (false≢true h)

serve_front_ready : (l : List Waiter) (p : Pool) → is_ready p.state ≡ true → is_ready (serve_front l p).pool.state ≡ true
unfolding serve_front ◌>>◌
serve_front_ready [] p h = h
serve_front_ready (w ∷ l) p h = ap is_ready (check_out_says w (with_waiting p l)).state_stays ∙ h

service_stated : (p : Pool) → Stated p → Stated (service p).pool
unfolding service can_service when◌then◌else◌
service_stated p h = go (can_service p) refl
  where
    go : (b : Bool) → can_service p ≡ b → Stated ((when b then serve_front p.waiting else nothing) p).pool
    go true c = ready_fits _ (serve_front_ready p.waiting p (and_left (is_ready p.state) _ c))
    go false c = h

pub event_stated : (e : Event) (p : Pool) → Named e p → is_closed p.state && not (taken_after_close e) ≡ false → causeless e ≡ false → Stated p → Stated (event e p).pool
unfolding event ◌>>◌ when◌then◌else◌
event_stated e p a o c h = go (serviced e) (handle_stated e p a o c h)
  where
    go : (b : Bool) → Stated (handle e p).pool → Stated ((when b then service else nothing) (handle e p).pool).pool
    go true k = service_stated _ k
    go false k = k
