-- Each call that puts a connection on the available list of a ready pool answers the front of the queue.
use Rattle.std.specs.Prelude.{◌≡◌, refl, Bool, true, false, not, ◌&&◌, ◌||◌, ◌⊎◌, ℕ, suc, ◌+◌, ◌≤◌, ◌<◌, min, length}
use Rattle.std.proofs.Common.{ap, sym, inl, inr, length-append, arith, ltb-true}
use Rattle.std.proofs.lemmas.Bool.{false≢true}
use mathlib.Core.List.Memᴰ
use mathlib.Core.List.{List, [], ◌∷◌, ◌++◌, Memᴰ, head-eq_of_cons-eq, tail-eq_of_cons-eq, append_assoc}
use Rattle.std.proofs.lemmas.List.{length-map}
use Rattle.definition.specs.Booleans.{and_left, and_right}
use Rattle.definition.specs.Words.{when◌then◌else◌, ◌<?◌, any?, some?}
use Rattle.definition.specs.Pool.{Pool, Waiter, is_ready, is_closed, with_clock, with_waiting}
use Rattle.definition.specs.Steps.{Out, ◌>>◌, nothing, tell_all, enter, abandon, repin, shut, handle, can_service, serve_front, service, serviced, event}
use Rattle.definition.specs.Refusals.{taken_after_close, Result, Refused, Accepted, Call, after, run}
use Rattle.definition.specs.declared.Event.{Event}
use Rattle.definition.specs.declared.Event.TheVariants.{CheckOut, WarmPool, Abandon, CheckIn, Clear, MarkAsReady, Succeeded, SucceededForPool, Failed, Maintenance, FillPool, Pin, ReturnToPinner, TakeFromPinner, Close}
use Rattle.definition.specs.declared.Frame.{Frame}
use Rattle.definition.specs.declared.Frame.TheVariants.{Good, Bad}
use Rattle.definition.specs.Log.{answered, ids}
use Rattle.promises.specs.Promises.{Waits, InTimeFrom, InTimeBeforeFrom}
use Rattle.promises.specs.Runs.{arrivals, taken, accepted, result, next, front_abandoned, gives_back, puts, one_if, count_of, times}
use Rattle.definition.proofs.Sentences.{answered_append, check_out_says}
use Rattle.promises.specs.Calls.{Stepped, no_step, a_step, stepped, passed_open}
use Rattle.promises.specs.Flow.{Flow, Calm}
use Rattle.promises.proofs.Flow.{handle_flow, step_flow, step_calms, run_flow}

if_true : {A : Type 0} {b : Bool} (x y : A) → b ≡ true → (when b then x else y) ≡ x
unfolding when◌then◌else◌
if_true {b = true} x y h = refl
if_true {b = false} x y h = absurd (false≢true h)

-- the event leaves a ready pool with a connection on its available list, and the service stage follows: more than `puts` asks
unfoldable offers : Event → Pool → Bool
offers e p = serviced e && (is_ready (handle e p).pool.state && some? (handle e p).pool.available)

-- ── An offer is an answer ──────────────────────────────────────────────────────────────────────────────────────────────

pub flow_lengths : {n : List ℕ} (p : Pool) (o : Out Pool) → Flow n p o
    → length p.waiting + length n ≡ length (answered o.records) + length o.pool.waiting
flow_lengths p o f = simp (length-append, length-map) at (ap length f.same)

serve_front_answers : (l : List Waiter) (p : Pool) → min 1 (length l) ≤ length (answered (serve_front l p).records)
unfolding serve_front ◌>>◌
serve_front_answers [] p = omega arith
serve_front_answers (w ∷ l) p = rw (check_out_says w (with_waiting p l)).said (omega arith)

can_service_lem : (p : Pool) → is_ready p.state ≡ true → some? p.available ≡ true → can_service p ≡ true
unfolding can_service
can_service_lem p r s = rw (r, s)

service_answers : (p : Pool) → is_ready p.state ≡ true → some? p.available ≡ true
    → min 1 (length p.waiting) ≤ length (answered (service p).records)
unfolding service
service_answers p r s = rw (if_true (serve_front p.waiting) nothing (can_service_lem p r s)) (serve_front_answers p.waiting p)

event_answers : (e : Event) (p : Pool) → Calm p → is_closed p.state && not (taken_after_close e) ≡ false → offers e p ≡ true
    → min 1 (length p.waiting + length (arrivals e)) ≤ length (answered (event e p).records)
unfolding event offers ◌>>◌
event_answers e p c o h =
    let s : serviced e ≡ true = and_left _ _ h in
    let r = and_right (serviced e) _ h in
    let q = (handle e p).pool in
    let k = flow_lengths p (handle e p) (handle_flow e p c o) in
    let v = service_answers q (and_left _ _ r) (and_right (is_ready q.state) _ r) in
    rw (answered_append, length-append, if_true service nothing s) (omega arith)

offer_answers : (b : Bool) (e : Event) (p : Pool) → offers e p ≡ b → Calm p → is_closed p.state && not (taken_after_close e) ≡ false
    → min (one_if b) (length p.waiting + length (arrivals e)) ≤ length (answered (event e p).records)
offer_answers true e p h c o = event_answers e p c o h
offer_answers false e p h c o = omega arith

step_answers : (p : Pool) (f : Frame) (room : ℕ) (r : Result) → Calm p → Stepped p f room r
    → min (count_of offers p f r) (length p.waiting + length (taken f r)) ≤ length (answered (after p r).records)
unfolding Calm
step_answers p f room r c (no_step n) = omega arith
step_answers p f room r c (a_step {e = e} {now = now} {room = room'} h) =
    offer_answers (offers e (with_clock p now)) e (with_clock p now) refl c (passed_open p e now room' h)

run_answers : (cs : List Call) (p : Pool) → Calm p → min (length p.waiting) (times offers p cs) ≤ length (answered (run cs p).records)
unfolding run times ◌>>◌
run_answers [] p c = omega arith
run_answers (k ∷ cs) p c =
    let s = stepped p k.frame k.room in
    let f = flow_lengths p (after p (result p k)) (step_flow p k.frame k.room _ c s) in
    let a = step_answers p k.frame k.room _ c s in
    let i = run_answers cs (next p k) (step_calms p k.frame k.room _ s c) in
    rw (answered_append, length-append) (omega arith)

-- ── What puts, offers ──────────────────────────────────────────────────────────────────────────────────────────────────

some_of_longer : {A : Type 0} (m : ℕ) (l : List A) → m < length l → some? l ≡ true
some_of_longer m [] h = absurd (omega arith)
some_of_longer m (x ∷ l) h = refl

some_of_any : {A : Type 0} (t : A → Bool) (l : List A) → any? t l ≡ true → some? l ≡ true
some_of_any t [] h = h
some_of_any t (x ∷ l) h = refl

-- the kinds that no service stage follows put nothing there
serviced_of_longer : (e : Event) (p : Pool) → length p.available < length (handle e p).pool.available → serviced e ≡ true
unfolding handle abandon repin shut tell_all enter ◌>>◌
serviced_of_longer (CheckOut n) p l = refl
serviced_of_longer (WarmPool n) p l = refl
serviced_of_longer (Abandon n) p l = absurd (omega arith)
serviced_of_longer (CheckIn n errored executing let_go) p l = refl
serviced_of_longer (Clear timeout cause) p l = refl
serviced_of_longer MarkAsReady p l = refl
serviced_of_longer (Succeeded n) p l = refl
serviced_of_longer (SucceededForPool n opened) p l = refl
serviced_of_longer (Failed n) p l = refl
serviced_of_longer Maintenance p l = refl
serviced_of_longer FillPool p l = refl
serviced_of_longer (Pin n) p l = absurd (omega arith)
serviced_of_longer (ReturnToPinner n) p l = absurd (omega arith)
serviced_of_longer (TakeFromPinner n) p l = absurd (omega arith)
serviced_of_longer Close p l = absurd (omega arith)

-- by its own stage, or by the service stage
puts_offers : (e : Event) (p : Pool) → puts e p ≡ true → offers e p ≡ true
unfolding puts offers
puts_offers e p h = go (length p.available <? length q.available) refl (and_right (is_ready q.state) _ h)
  where
    q : Pool
    q = (handle e p).pool

    ready : is_ready q.state ≡ true
    ready = and_left (is_ready q.state) _ h

    go : (b : Bool) → (length p.available <? length q.available) ≡ b → b || serviced e && gives_back q ≡ true
        → serviced e && (is_ready q.state && some? q.available) ≡ true
    go true l k =
        let longer = ltb-true (length p.available) (length q.available) l in
        rw (ready, some_of_longer (length p.available) q.available longer, serviced_of_longer e p longer)
    go false l k =
        let back = and_right (can_service q && front_abandoned q.waiting) _ (and_right (serviced e) _ k) in
        rw (ready, some_of_any _ q.available back, and_left (serviced e) _ k)

one_if_le : (b c : Bool) → (b ≡ true → c ≡ true) → one_if b ≤ one_if c
one_if_le true c h = rw (h refl) (omega arith)
one_if_le false c h = omega arith

count_of_le : (p : Pool) (f : Frame) (r : Result) → count_of puts p f r ≤ count_of offers p f r
count_of_le p f (Refused n) = omega arith
count_of_le p (Good e now) (Accepted o) = one_if_le _ _ (puts_offers e (with_clock p now))
count_of_le p Bad (Accepted o) = omega arith

times_le : (cs : List Call) (p : Pool) → times puts p cs ≤ times offers p cs
unfolding times
times_le [] p = omega arith
times_le (c ∷ cs) p = omega (arith, count_of_le p c.frame (result p c), times_le cs (next p c))

-- ── In time ────────────────────────────────────────────────────────────────────────────────────────────────────────────

-- what stands in a list before its length is reached
in_front : (xs zs ys ws : List ℕ) (n : ℕ) → xs ++ n ∷ zs ≡ ys ++ ws → length xs < length ys → Memᴰ n ys
in_front xs zs [] ws n e h = absurd (omega arith)
in_front [] zs (y ∷ ys) ws n e h = Memᴰ.head (head-eq_of_cons-eq e)
in_front (x ∷ xs) zs (y ∷ ys) ws n e h = Memᴰ.tail (in_front xs zs ys ws n (tail-eq_of_cons-eq e) (omega arith))

-- whoever waits with so many ahead is answered with them, be the pool fresh or not
pub waiter_answered : (p : Pool) (ahead behind : List ℕ) (n : ℕ) → Calm p → ids p.waiting ≡ ahead ++ n ∷ behind
    → (later : List Call) → suc (length ahead) ≤ times puts p later → Memᴰ n (answered (run later p).records)
waiter_answered p ahead behind n c e later h =
    let f = (run_flow later p c).same in
    let a = run_answers later p c in
    let l : length p.waiting ≡ length ahead + suc (length behind) = simp (length-append, length-map) at (ap length e) in
    in_front ahead (behind ++ accepted p later) _ (ids (run later p).pool.waiting) n (rw (e, append_assoc) at f) (omega (arith, times_le later p))

-- the last of a list that is cut in two stands in the first part, or last in the second
record Cut (ws xs ys : List ℕ) (n : ℕ) : Type 0 where
  ahead : List ℕ
  last_behind : ys ≡ ahead ++ n ∷ []
  rest_before : ws ≡ xs ++ ahead

cut_last : (ws xs ys : List ℕ) (n : ℕ) → ws ++ n ∷ [] ≡ xs ++ ys → Memᴰ n xs ⊎ Cut ws xs ys n
cut_last ws [] ys n e = inr (record { ahead = ws; last_behind = sym e; rest_before = refl })
cut_last [] (a ∷ xs) ys n e = inl (Memᴰ.head (head-eq_of_cons-eq e))
cut_last (w ∷ ws) (a ∷ xs) ys n e = go (cut_last ws xs ys n (tail-eq_of_cons-eq e))
  where
    go : Memᴰ n xs ⊎ Cut ws xs ys n → Memᴰ n (a ∷ xs) ⊎ Cut (w ∷ ws) (a ∷ xs) ys n
    go (inl m) = inl (Memᴰ.tail m)
    go (inr c) =
        let front = head-eq_of_cons-eq e in
        inr (record { ahead = c.ahead; last_behind = c.last_behind; rest_before = rw (front, c.rest_before) })

pub in_time_from : (p : Pool) → Calm p → InTimeFrom p
in_time_from p c k n t = go (cut_last (ids p.waiting) _ _ n (rw t at (step_flow p k.frame k.room _ c s).same))
  where
    s : Stepped p k.frame k.room (result p k)
    s = stepped p k.frame k.room

    o : Out Pool
    o = after p (result p k)

    go : Memᴰ n (answered o.records) ⊎ Cut (ids p.waiting) (answered o.records) (ids o.pool.waiting) n
        → Memᴰ n (answered o.records) ⊎ Waits n p o
    go (inl m) = inl m
    go (inr x) =
        inr (record {
          ahead = x.ahead;
          behind_them = x.last_behind;
          who_waited = x.rest_before;
          then_answered = waiter_answered o.pool x.ahead [] n (step_calms p k.frame k.room _ s c) x.last_behind;
        })

pub in_time_before_from : (p : Pool) → Calm p → InTimeBeforeFrom p
unfolding run ◌>>◌
in_time_before_from p c k later n t h = rw answered_append (go (in_time_from p c k n t))
  where
    o : Out Pool
    o = after p (result p k)

    go : Memᴰ n (answered o.records) ⊎ Waits n p o → Memᴰ n (answered o.records ++ answered (run later o.pool).records)
    go (inl m) = Memᴰ.append_left _ m
    go (inr w) =
        let l : length p.waiting ≡ length (answered o.records) + length w.ahead = simp (length-append, length-map) at (ap length w.who_waited) in
        Memᴰ.append_right (answered o.records) (w.then_answered later (omega arith))
