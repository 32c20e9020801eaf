-- Single sentences of the description, each as a law of the steps: what the promises alone would let pass.
use Rattle.std.proofs.Math.Path.{◌≡◌}
use Rattle.std.specs.Prelude.{refl, Bool, not, ◌&&◌, ◌||◌, ◌⊎◌, ℕ, ◌+◌, ◌-◌, ◌≤◌, ◌<◌, min, length}
use Rattle.std.proofs.Common.{ap, sym, ◌∙◌, true≢false, inl, inr, length-append, arith, lt-ltb, le-ltb, le-leb}
use Rattle.std.proofs.Math.Bool.{true, false}
use mathlib.Core.List.Memᴰ
use mathlib.Core.List.{List, [], ◌∷◌, ◌++◌, map, reverse, append-nil, append_assoc, map-append, reverse-cons, reverse-reverse, Memᴰ}
use Rattle.std.specs.Prelude.{None as none, Some as some}
use Rattle.std.proofs.lemmas.Bool.{lt-leb}
use Rattle.definition.specs.Booleans.{by_lt, no_second}
use Rattle.definition.specs.Words.{when◌then◌else◌, ◌<?◌, ◌≤?◌, ◌=?◌, ◌∷ʳ◌}
use Rattle.definition.specs.Pool.{Pool, Conn, Waiter, is_closed, stale, idle_for, perished, age_told, has, has_in, in_background, find, with_state, with_available}
use Rattle.definition.specs.Records.{Record, ConnectionCreated, ConnectionCheckedIn, ConnectionClosed, PoolShut, Replied, Reply, Pooled, Establishing, Warmed, Gone, Unheard, told}
use Rattle.definition.specs.Steps.{Out, Act, ◌>>◌, nothing, emit, leave_lent, leave_pending, shelve, lend_out, create_pending_connection, close_perished, tell_all, enter, abandon, check_in, clear, repin, shut, succeeded_for_pool, remove_perished, establish, lend, take_available, check_out, serve_front, service, serviced, handle, event, kind_no}
use Rattle.definition.specs.Refusals.{◌if◌, first, tests, kind_tests, causeless, taken_after_close, last_generation}
use Rattle.definition.specs.declared.Event.{Event}
use Rattle.definition.specs.declared.Event.TheVariants.{CheckOut, WarmPool, Abandon, CheckIn, Clear, MarkAsReady, Succeeded, SucceededForPool, Failed, Maintenance, FillPool, Pin, ReturnToPinner, TakeFromPinner, Close}
use Rattle.definition.specs.declared.Frame.{Frame}
use Rattle.definition.specs.declared.Frame.TheVariants.{Good, Bad}
use Rattle.definition.specs.declared.Refusal.TheVariants.{Malformed, OutputShort, AfterClose, NumbersSpent, WrongTime}
use Rattle.definition.specs.declared.PoolState.TheVariants.{Paused, Closed}
use Rattle.definition.specs.declared.ConnectionState.TheVariants.{CheckedIn}
use Rattle.definition.specs.declared.ClosedReason.TheVariants.{Idle, Stale, Error, Dropped, PoolClosed}
use Rattle.definition.specs.Log.{answers, answered, ids, numbers, Rising}
use Rattle.definition.specs.Sentences.{closing, Pruned, found_says, Took, Says, names_connection, rank, refusal_of}

-- a choice has a property that both branches have
pub if_both : {A : Type 0} {b : Bool} {x y : A} (P : A → Type 0) → (b ≡ true → P x) → (b ≡ false → P y) → P (when b then x else y)
unfolding when◌then◌else◌
if_both {b = true} P f g = f refl
if_both {b = false} P f g = g refl

-- ── Check-in ───────────────────────────────────────────────────────────────────────────────────────────────────────────

module _ (n let_go : ℕ) (p : Pool) where
  -- an error comes first, whatever the generation is and be an answer under way or not;
  pub errored_first : (executing : Bool) → is_closed p.state ≡ false
      → (check_in n true executing let_go p).records ≡ ConnectionCheckedIn n ∷ ConnectionClosed Error n 0 ∷ []
  unfolding check_in leave_lent when◌then◌else◌ ◌>>◌
  errored_first executing h = rw h

  -- another generation than the pool's second, be an answer under way or not;
  pub stale_second : (executing : Bool) → is_closed p.state ≡ false → stale p (find n p.lent) ≡ true
      → (check_in n false executing let_go p).records ≡ ConnectionCheckedIn n ∷ ConnectionClosed Stale n 0 ∷ []
  unfolding check_in leave_lent when◌then◌else◌ ◌>>◌
  stale_second executing h s = rw (h, s)

  -- an answer that is under way third;
  pub executing_third : is_closed p.state ≡ false → stale p (find n p.lent) ≡ false
      → (check_in n false true let_go p).records ≡ ConnectionCheckedIn n ∷ ConnectionClosed Dropped n 0 ∷ []
  unfolding check_in leave_lent when◌then◌else◌ ◌>>◌
  executing_third h s = rw (h, s)

  -- and any other joins those available as they were, last of all, since its user let it go
  pub healthy_last : is_closed p.state ≡ false → stale p (find n p.lent) ≡ false
      → (check_in n false false let_go p).pool.available ≡ p.available ∷ʳ with_state CheckedIn let_go (find n p.lent)
  unfolding check_in leave_lent shelve when◌then◌else◌ ◌>>◌
  healthy_last h s = rw (h, s)

  -- a closed pool says only that it closed it, whichever of these holds
  pub closed_alone : (errored executing : Bool) → is_closed p.state ≡ true
      → (check_in n errored executing let_go p).records ≡ ConnectionClosed PoolClosed n 0 ∷ []
  unfolding check_in leave_lent when◌then◌else◌ ◌>>◌
  closed_alone errored executing h = rw h

-- a success in background is put last as it is, whatever its generation, and is idle from its opening on
pub opened_last : (n opened : ℕ) (p : Pool) → is_closed p.state ≡ false
    → (succeeded_for_pool n opened p).pool.available ≡ p.available ∷ʳ with_state CheckedIn opened (find n p.pending)
unfolding succeeded_for_pool leave_pending shelve when◌then◌else◌ ◌>>◌
opened_last n opened p h = rw h

-- ── States ─────────────────────────────────────────────────────────────────────────────────────────────────────────────

-- a clear, whatever the state, pauses the pool with the new cause, at the next generation; a close closes it
pub clear_pauses : (timeout : Bool) (cause : ℕ) (p : Pool)
    → ((clear timeout cause p).pool.state ≡ Paused cause) × ((clear timeout cause p).pool.generation ≡ p.generation + 1)
unfolding clear enter ◌>>◌
clear_pauses timeout cause p = (refl, refl)

pub shut_closes : (p : Pool) → (shut p).pool.state ≡ Closed
unfolding shut enter ◌>>◌
shut_closes p = refl

-- what a close says: of those available that they are closed with the pool, and no more; then to those who wait; then of the pool
pub shut_says : (p : Pool)
    → (shut p).records ≡ map (λ c. ConnectionClosed PoolClosed c.id 0) p.available ++ (map (told Gone) p.waiting ++ PoolShut ∷ [])
unfolding shut tell_all enter ◌>>◌
shut_says p = rw append-nil

-- no service stage follows an abandon, a pin, a return or a take: they say nothing
pub silent : (n : ℕ) (p : Pool)
    → ((event (Abandon n) p).records ≡ []) × ((event (Pin n) p).records ≡ []) × ((event (ReturnToPinner n) p).records ≡ []) × ((event (TakeFromPinner n) p).records ≡ [])
unfolding event handle abandon repin when◌then◌else◌ ◌>>◌
silent n p = (refl, refl, refl, refl)

idle_age : (limit since now : ℕ) → 0 <? idle_for limit since now ≡ true → idle_for limit since now ≡ now - since
idle_age limit since now = if_both (λ (age : ℕ). 0 <? age ≡ true → age ≡ now - since) (λ _ _. refl) (λ _ h. absurd (true≢false (sym h)))

closed_as : (outdated : Bool) (limit since now n : ℕ) → (outdated || 0 <? idle_for limit since now) ≡ true
    → ConnectionClosed (when outdated then Stale else Idle) n (age_told outdated (idle_for limit since now)) ≡ (when outdated then ConnectionClosed Stale n 0 else ConnectionClosed Idle n (min (now - since) 4294967295))
unfolding when◌then◌else◌
closed_as true limit since now n h = refl
closed_as false limit since now n h = ap (λ (age : ℕ). ConnectionClosed Idle n (min age 4294967295)) (idle_age limit since now h)

perished_says : (p : Pool) (c : Conn) → perished p c ≡ true → (close_perished c p).records ≡ closing p c ∷ []
unfolding close_perished
perished_says p c h = ap (λ (r : Record). r ∷ []) (closed_as (stale p c) p.options.idle c.time p.clock c.id h)

prunes_from : (l : List Conn) (p : Pool) → p.available ≡ l → Pruned p (remove_perished l p)
unfolding remove_perished close_perished ◌>>◌
prunes_from [] p e = record { gone = []; kept = []; parts = e; all_perished = tt; stops = tt; is_kept = e; says = refl }
prunes_from (c ∷ cs) p e =
    let r = prunes_from cs (with_available p cs) refl in
    if_both (λ (a : Act Pool). Pruned p (a p))
    (λ h. record {
      gone = c ∷ r.gone;
      kept = r.kept;
      parts = e ∙ ap (λ x. c ∷ x) r.parts;
      all_perished = (h, r.all_perished);
      stops = r.stops;
      is_kept = r.is_kept;
      says = ap (λ x. (close_perished c p).records ++ x) r.says ∙ ap (λ x. x ++ map (closing p) r.gone) (perished_says p c h);
    })
    (λ h. record { gone = []; kept = c ∷ cs; parts = e; all_perished = tt; stops = h; is_kept = e; says = refl })

pub prunes : (p : Pool) → Pruned p (remove_perished p.available p)
prunes p = prunes_from p.available p refl

-- one that is found, once it has left the list
lend_takes : (w : Waiter) (c : Conn) (cs : List Conn) (p : Pool) → perished p c ≡ false → Took w p (c ∷ cs) (lend w c (with_available p (reverse cs)))
unfolding lend shelve lend_out when◌then◌else◌ ◌>>◌
lend_takes w c cs p h = go w.abandoned refl
  where
    q : Pool
    q = with_available p (reverse cs)

    go : (b : Bool) → w.abandoned ≡ b → Took w p (c ∷ cs) ((emit (told (Pooled c.id) w) >> (when b then shelve c q.clock else lend_out c)) q)
    go true e = record { gone = []; left = c ∷ cs; parts = refl; all_perished = tt; stops = h; says = refl; lent_after = rw (e, append-nil); available_after = rw e }
    go false e = record { gone = []; left = c ∷ cs; parts = refl; all_perished = tt; stops = h; says = refl; lent_after = rw e; available_after = rw (e, append-nil) }

takes_from : (w : Waiter) (l : List Conn) (p : Pool) → p.available ≡ reverse l → Took w p l (take_available w l p)
unfolding take_available establish create_pending_connection close_perished ◌>>◌
takes_from w [] p e = record {
  gone = [];
  left = [];
  parts = refl;
  all_perished = tt;
  stops = tt;
  says = refl;
  lent_after = if_both (λ (x : List Conn). p.lent ≡ p.lent ++ x) (λ _. sym (append-nil _)) (λ _. sym (append-nil _));
  available_after = if_both (λ (x : List Conn). p.available ≡ x) (λ _. e) (λ _. e);
}
takes_from w (c ∷ cs) p e =
    let q = with_available p (reverse cs) in
    let r = takes_from w cs q refl in
    if_both (λ (a : Act Pool). Took w p (c ∷ cs) (a q))
    (λ h. record {
      gone = c ∷ r.gone;
      left = r.left;
      parts = ap (λ x. c ∷ x) r.parts;
      all_perished = (h, r.all_perished);
      stops = r.stops;
      says = ap (λ x. (close_perished c p).records ++ x) r.says ∙ ap (λ x. x ++ (map (closing p) r.gone ++ found_says p.next_id w r.left)) (perished_says p c h);
      lent_after = r.lent_after;
      available_after = r.available_after;
    })
    (λ h. lend_takes w c cs p h)

pub takes : (w : Waiter) (p : Pool) → w.warm ≡ false → Took w p (reverse p.available) (check_out w p)
unfolding check_out
takes w p h =
    if_both (λ (a : Act Pool). Took w p (reverse p.available) (a p)) (λ k. absurd (true≢false (sym k ∙ h)))
    (λ _. takes_from w (reverse p.available) p (sym (reverse-reverse p.available)))

-- ── The queue ──────────────────────────────────────────────────────────────────────────────────────────────────────────

pub answered_append : (xs ys : List Record) → answered (xs ++ ys) ≡ answered xs ++ answered ys
answered_append [] ys = refl
answered_append (x ∷ xs) ys = rw (answered_append xs ys) (sym (append_assoc (answers x) (answered xs) (answered ys)))

pub tellings : (a : Reply) (l : List Waiter) → answered (map (told a) l) ≡ ids l
unfolding told
tellings a [] = refl
tellings a (w ∷ l) = ap (λ r. w.id ∷ r) (tellings a l)

-- every waiter is told, front to back, and nobody is left
pub all_told : (a : Reply) (p : Pool) → (answered (tell_all a p).records ≡ ids p.waiting) × ((tell_all a p).pool.waiting ≡ [])
unfolding tell_all ◌>>◌
all_told a p = (simp (append-nil, tellings), refl)

says_first : {l : List ℕ} (a b : Act Pool) (p : Pool) → Says l p (a p) → Says [] (a p).pool (b (a p).pool) → Says l p ((a >> b) p)
unfolding ◌>>◌
says_first a b p f g = record { said = rw (answered_append, f.said, g.said, append-nil); waiting_stays = g.waiting_stays ∙ f.waiting_stays; state_stays = g.state_stays ∙ f.state_stays }

says_last : {l : List ℕ} (a b : Act Pool) (p : Pool) → Says [] p (a p) → Says l (a p).pool (b (a p).pool) → Says l p ((a >> b) p)
unfolding ◌>>◌
says_last a b p f g = record { said = rw (answered_append, f.said, g.said); waiting_stays = g.waiting_stays ∙ f.waiting_stays; state_stays = g.state_stays ∙ f.state_stays }

says_if : {l : List ℕ} {b : Bool} (a₁ a₂ : Act Pool) (p : Pool) → (b ≡ true → Says l p (a₁ p)) → (b ≡ false → Says l p (a₂ p))
    → Says l p ((when b then a₁ else a₂) p)
unfolding when◌then◌else◌
says_if {b = true} a₁ a₂ p f g = f refl
says_if {b = false} a₁ a₂ p f g = g refl

says : {l : List ℕ} (p : Pool) (o : Out Pool) → answered o.records ≡ l → o.pool.waiting ≡ p.waiting → o.pool.state ≡ p.state → Says l p o
says p o e w s = record { said = e; waiting_stays = w; state_stays = s }

ruleset saying = (says_first, says_last, says_if, says)

establish_says : (w : Waiter) (p : Pool) → Says (w.id ∷ []) p (establish w p)
unfolding establish create_pending_connection told
establish_says w p = search saying depth 10

lend_says : (w : Waiter) (c : Conn) (p : Pool) → Says (w.id ∷ []) p (lend w c p)
unfolding lend told shelve lend_out
lend_says w c p = search saying depth 10

take_available_says : (w : Waiter) (l : List Conn) (p : Pool) → Says (w.id ∷ []) p (take_available w l p)
unfolding take_available close_perished
take_available_says w [] p = establish_says w p
take_available_says w (c ∷ cs) p =
    says_last _ _ p (search saying)
    (says_if _ _ _ (λ _. says_last _ _ _ (search saying) (take_available_says w cs _)) (λ _. lend_says w c _))

-- whoever is taken is answered, once
pub check_out_says : (w : Waiter) (p : Pool) → Says (w.id ∷ []) p (check_out w p)
unfolding check_out told
check_out_says w p = search (saying, establish_says, take_available_says) depth 10

check_out_said : (w : Waiter) (p : Pool) → answered (check_out w p).records ≡ w.id ∷ []
check_out_said w p = (check_out_says w p).said

check_out_stays : (w : Waiter) (p : Pool) → (check_out w p).pool.waiting ≡ p.waiting
check_out_stays w p = (check_out_says w p).waiting_stays

serve_front_answers : (l : List Waiter) (p : Pool) → p.waiting ≡ l
    → (ids l ≡ answered (serve_front l p).records ++ ids (serve_front l p).pool.waiting) × (length (answered (serve_front l p).records) ≤ 1)
unfolding serve_front ◌>>◌
serve_front_answers [] p e = (rw e, omega arith)
serve_front_answers (w ∷ l) p e = (rw (check_out_said, check_out_stays), rw check_out_said (omega arith))

-- the service stage takes from the front whom it answers: nobody is passed over, lost, or left to be answered again
pub front_answered : (p : Pool) → ids p.waiting ≡ answered (service p).records ++ ids (service p).pool.waiting
unfolding service
front_answered p = if_both (λ (a : Act Pool). ids p.waiting ≡ answered (a p).records ++ ids (a p).pool.waiting) (λ _. (serve_front_answers p.waiting p refl).0) (λ _. refl)

-- once: it answers one at most, and an event one more than its own stage at most
pub service_once : (p : Pool) → length (answered (service p).records) ≤ 1
unfolding service
service_once p = if_both (λ (a : Act Pool). length (answered (a p).records) ≤ 1) (λ _. (serve_front_answers p.waiting p refl).1) (λ _. omega arith)

pub event_once : (e : Event) (p : Pool) → length (answered (event e p).records) ≤ length (answered (handle e p).records) + 1
unfolding event ◌>>◌
event_once e p =
    let q = (handle e p).pool in
    let one : length (answered ((when serviced e then service else nothing) q).records) ≤ 1 =
    if_both (λ (a : Act Pool). length (answered (a q).records) ≤ 1) (λ _. service_once q) (λ _. omega arith) in
    rw (answered_append, length-append) (omega arith)

-- ── Reply 16 ───────────────────────────────────────────────────────────────────────────────────────────────────────────

module _ (r c : ℕ) where
  -- these records say so
  abbrev HandsOut : List Record → Type 0
  HandsOut = Memᴰ (Replied r (Pooled c))

  -- what a waiter is told says so only where the reply does
  told_pooled : (a : Reply) (w : Waiter) → Replied r (Pooled c) ≡ told a w → Pooled c ≡ a
  unfolding told when◌then◌else◌
  told_pooled a w e = go w.abandoned e
    where
      go : (b : Bool) → Replied r (Pooled c) ≡ Replied w.id (when b then Unheard else a) → Pooled c ≡ a
      go true k = let z : ◌≡◌ {A = ℕ} 0 1 = cc in absurd (omega arith)
      go false k = cc

  found_pooled : (next_id : ℕ) (w : Waiter) (left : List Conn) → HandsOut (found_says next_id w left) → Memᴰ c (numbers left)
  found_pooled next_id w [] m = go (Memᴰ.cases_cons m)
    where
      go : (Replied r (Pooled c) ≡ ConnectionCreated next_id) ⊎ HandsOut (told (Establishing next_id) w ∷ []) → Memᴰ c []
      go (inl e) = let z : ◌≡◌ {A = ℕ} 0 1 = cc in absurd (omega arith)
      go (inr k) =
          let e = told_pooled (Establishing next_id) w (Memᴰ.eq_of_singleton k) in
          let z : ◌≡◌ {A = ℕ} 0 1 = cc in
          absurd (omega arith)
  found_pooled next_id w (x ∷ left) m =
      let e = told_pooled (Pooled x.id) w (Memᴰ.eq_of_singleton m) in
      let same : c ≡ x.id = cc in
      Memᴰ.head same

  -- closed records say nothing of the kind
  closing_pooled : (p : Pool) (l : List Conn) → HandsOut (map (closing p) l) → ⊥
  closing_pooled p [] m = Memᴰ.not-nil m
  closing_pooled p (x ∷ l) m = go (closing_pooled p l) (Memᴰ.cases_cons m)
    where
      go : (HandsOut (map (closing p) l) → ⊥) → (Replied r (Pooled c) ≡ closing p x) ⊎ HandsOut (map (closing p) l) → ⊥
      go ih (inl e) =
          if_both (λ (x : Record). Replied r (Pooled c) ≡ x → ⊥) (λ _ e. let z : ◌≡◌ {A = ℕ} 0 1 = cc in omega arith) (λ _ e. let z : ◌≡◌ {A = ℕ} 0 1 = cc in omega arith) e
      go ih (inr k) = ih k

  took_pooled : (w : Waiter) (p : Pool) (l : List Conn) (o : Out Pool) → Took w p l o → HandsOut o.records → Memᴰ c (numbers l)
  took_pooled w p l o t m = go (Memᴰ.append_cases (map (closing p) t.gone) (rw t.says at m))
    where
      go : HandsOut (map (closing p) t.gone) ⊎ HandsOut (found_says p.next_id w t.left) → Memᴰ c (numbers l)
      go (inl k) = absurd (closing_pooled p t.gone k)
      go (inr k) = rw (t.parts, map-append) (Memᴰ.append_right (numbers t.gone) (found_pooled p.next_id w t.left k))

  in_reverse : (l : List Conn) → Memᴰ c (numbers (reverse l)) → Memᴰ c (numbers l)
  in_reverse [] m = m
  in_reverse (x ∷ l) m = go (in_reverse l) (Memᴰ.append_cases (numbers (reverse l)) (rw (reverse-cons, map-append) at m))
    where
      go : (Memᴰ c (numbers (reverse l)) → Memᴰ c (numbers l)) → Memᴰ c (numbers (reverse l)) ⊎ Memᴰ c (x.id ∷ [])
          → Memᴰ c (x.id ∷ numbers l)
      go ih (inl k) = Memᴰ.tail (ih k)
      go ih (inr k) = Memᴰ.head (Memᴰ.eq_of_singleton k)

  check_out_pooled : (w : Waiter) (p : Pool) → HandsOut (check_out w p).records → Memᴰ c (numbers p.available)
  unfolding check_out establish create_pending_connection ◌>>◌
  check_out_pooled w p =
      if_both Available
      (λ _. if_both Available
      (λ _ m. let e = told_pooled Warmed w (Memᴰ.eq_of_singleton m) in let z : ◌≡◌ {A = ℕ} 0 1 = cc in absurd (omega arith))
      (λ _ m. absurd (Memᴰ.not-nil (found_pooled p.next_id w [] m))))
      (λ _ m. in_reverse p.available (took_pooled w p _ _ (takes_from w _ p (sym (reverse-reverse p.available))) m))
    where
      Available : Act Pool → Type 0
      Available a = HandsOut (a p).records → Memᴰ c (numbers p.available)

  serve_front_pooled : (l : List Waiter) (p : Pool) → HandsOut (serve_front l p).records → Memᴰ c (numbers p.available)
  unfolding serve_front ◌>>◌
  serve_front_pooled [] p m = absurd (Memᴰ.not-nil m)
  serve_front_pooled (w ∷ l) p m = check_out_pooled w _ m

-- a connection that is handed out by reply 16 was on the available list
pub pooled_was_available : (p : Pool) (r c : ℕ) → Memᴰ (Replied r (Pooled c)) (service p).records → Memᴰ c (numbers p.available)
unfolding service
pooled_was_available p r c =
    if_both (λ (a : Act Pool). Memᴰ (Replied r (Pooled c)) (a p).records → Memᴰ c (numbers p.available))
    (λ _. serve_front_pooled r c p.waiting p) (λ _ m. absurd (Memᴰ.not-nil m))

-- ── What is refused, and what is not ───────────────────────────────────────────────────────────────────────────────────

-- too late or too early is not from the one to the other, each of the two included
outside : {A : Type 0} (time from until : ℕ) (x y : A)
    → (when until <? time || time <? from then x else y) ≡ (when from ≤? time && time ≤? until then y else x)
unfolding when◌then◌else◌
outside time from until x y =
    by_lt until time
    (λ a. rw (lt-ltb until time a, lt-leb time until a, no_second (from ≤? time) false refl))
    (λ a. by_lt time from
    (λ b. rw (le-ltb until time a, lt-ltb time from b, lt-leb from time b))
    (λ b. rw (le-ltb until time a, le-ltb time from b, le-leb from time b, le-leb time until a)))

module _ (n second now : ℕ) (p : Pool) where
  -- a connection may have been let go at any time from its own to now, each of the two included;
  pub let_go_until_now : (errored executing : Bool) → has n p.lent ≡ true
      → first (kind_tests p (CheckIn n errored executing second) now)
      ≡ (when (find n p.lent).time ≤? second && second ≤? now then none else some WrongTime)
  unfolding first when◌then◌else◌
  let_go_until_now errored executing h = rw h (outside second (find n p.lent).time now _ _)

  -- and so it is with the time at which one that was made in background was opened
  pub opened_until_now : has_in in_background n p.pending ≡ true
      → first (kind_tests p (SucceededForPool n second) now)
      ≡ (when (find n p.pending).time ≤? second && second ≤? now then none else some WrongTime)
  unfolding first when◌then◌else◌
  opened_until_now h = rw h (outside second (find n p.pending).time now _ _)

-- less room than 8,192 bytes is refused before all else
pub short_output : (p : Pool) (f : Frame) (room : ℕ) → room < 8192 → first (tests p f room) ≡ some OutputShort
unfolding tests first when◌then◌else◌
short_output p Bad room h = rw (lt-ltb room 8192 h)
short_output p (Good e now) room h = rw (lt-ltb room 8192 h)

-- and then a clear that names no cause
pub no_cause : (p : Pool) (timeout : Bool) (now room : ℕ) → 8192 ≤ room → first (tests p (Good (Clear timeout 0) now) room) ≡ some Malformed
unfolding tests first when◌then◌else◌
no_cause p timeout now room r = rw (le-ltb room 8192 r)

-- A closed pool takes these, if their own tests let them pass, and no others.
pub closed_takes : (p : Pool) (e : Event) (now room : ℕ) → is_closed p.state ≡ true → 8192 ≤ room → causeless e ≡ false → p.clock ≤ now
    → first (tests p (Good e now) room) ≡ (when names_connection e then first (kind_tests p e now) else some AfterClose)
unfolding tests first when◌then◌else◌
closed_takes p e now room h r c t = rw (le-ltb room 8192 r, c, le-ltb now p.clock t, h) (go e)
  where
    go : (e : Event)
        → first ((AfterClose if not (taken_after_close e)) ∷ (NumbersSpent if (kind_no e =? 5 && p.generation =? last_generation)) ∷ kind_tests p e now)
        ≡ (when names_connection e then first (kind_tests p e now) else some AfterClose)
    go (CheckOut n) = refl
    go (WarmPool n) = refl
    go (Abandon n) = refl
    go (CheckIn n errored executing let_go) = refl
    go (Clear timeout cause) = refl
    go MarkAsReady = refl
    go (Succeeded n) = refl
    go (SucceededForPool n opened) = refl
    go (Failed n) = refl
    go Maintenance = refl
    go FillPool = refl
    go (Pin n) = refl
    go (ReturnToPinner n) = refl
    go (TakeFromPinner n) = refl
    go Close = refl

-- An open pool takes an event, if its own tests let it pass, up to next id 4,294,967,168; from the next on only the close. A clear is not
-- taken at generation 4,294,967,295 either.
pub open_takes : (p : Pool) (e : Event) (now room : ℕ) → is_closed p.state ≡ false → 8192 ≤ room → causeless e ≡ false → p.clock ≤ now
    → first (tests p (Good e now) room)
    ≡ (when not (kind_no e =? 15) && 4294967168 <? p.next_id || kind_no e =? 5 && p.generation =? 4294967295 then some NumbersSpent
    else first (kind_tests p e now))
unfolding tests first when◌then◌else◌
open_takes p e now room h r c t = rw (le-ltb room 8192 r, c, le-ltb now p.clock t, h)

pub tests_in_order : (p : Pool) (f : Frame) (room : ℕ) → Rising 0 (map (λ t. rank (refusal_of t)) (tests p f room))
unfolding tests rank when◌then◌else◌
tests_in_order p Bad room = omega arith
tests_in_order p (Good (CheckOut n) now) room = omega arith
tests_in_order p (Good (WarmPool n) now) room = omega arith
tests_in_order p (Good (Abandon n) now) room = omega arith
tests_in_order p (Good (CheckIn n errored executing let_go) now) room = omega arith
tests_in_order p (Good (Clear timeout cause) now) room = omega arith
tests_in_order p (Good MarkAsReady now) room = omega arith
tests_in_order p (Good (Succeeded n) now) room = omega arith
tests_in_order p (Good (SucceededForPool n opened) now) room = omega arith
tests_in_order p (Good (Failed n) now) room = omega arith
tests_in_order p (Good Maintenance now) room = omega arith
tests_in_order p (Good FillPool now) room = omega arith
tests_in_order p (Good (Pin n) now) room = omega arith
tests_in_order p (Good (ReturnToPinner n) now) room = omega arith
tests_in_order p (Good (TakeFromPinner n) now) room = omega arith
tests_in_order p (Good Close now) room = omega arith
