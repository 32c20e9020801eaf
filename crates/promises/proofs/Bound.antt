-- The pool never holds more connections than the maximum, nor more waiters than the queue's length.
use Rattle.std.specs.Prelude.{◌≡◌, refl, Bool, true, false, ◌&&◌, ◌||◌, List, [], ◌∷◌, reverse, ◌⊎◌, ℕ, zero, suc, ◌+◌, ◌-◌, ◌≤◌, ◌<◌, min, length}
use Rattle.std.proofs.Common.{ap, sym, inl, inr, length-append, arith, ltb-true, leb-false}
use Rattle.std.proofs.lemmas.List.{length-map, length-reverse}
use Rattle.definition.specs.Booleans.{and_left, and_right}
use Rattle.definition.specs.Words.{when◌then◌else◌, ◌<?◌, some?}
use Rattle.definition.specs.Pool.{Pool, Conn, Waiter, is_ready, total, with_waiting, with_available}
use Rattle.definition.specs.Records.{told}
use Rattle.definition.specs.Steps.{Out, Act, ◌>>◌, nothing, shelve, lend_out, create_pending_connection, create_many, close_perished, remove_perished, ensure_min_connections, maintenance, handle, can_service, establish, lend, take_available, check_out, serve_front, service, serviced, event}
use Rattle.definition.specs.declared.Event.{Event}
use Rattle.definition.specs.declared.Event.TheVariants.{Maintenance}
use Rattle.definition.specs.declared.Purpose.{Purpose}
use Rattle.definition.specs.declared.Purpose.TheVariants.{Background}
use Rattle.definition.specs.Log.{created, closed, sum_of}
use Rattle.promises.specs.Calls.{Named}
use Rattle.promises.proofs.Keeps.{remove_perished_keeps, handle_keeps}
use Rattle.promises.specs.Sums.{sum_length}
use Rattle.promises.specs.Conserve.{created_append, held, Moves, remove_perished_moves, refill_moves, handle_moves}
use Rattle.promises.specs.Numbered.{Plain, remove_perished_plain, handle_plain}
use Rattle.promises.specs.Bound.{Fits}

-- ── How many there are ─────────────────────────────────────────────────────────────────────────────────────────────────

held_total : (p : Pool) → held (λ n. 1) p ≡ total p
unfolding held
held_total p = simp (sum_length, length-map)

-- what is held after, and closed, is what was held and created
sizes : (p : Pool) (o : Out Pool) → Moves [] [] p o → total o.pool + length (closed o.records) ≡ total p + length (created o.records)
unfolding sum_of
sizes p o m = omega (arith, simp (held_total, sum_length) at (m.even (λ n. 1)))

pub plain_fits : (p : Pool) (o : Out Pool) → Moves [] [] p o → Plain p o → total o.pool ≤ total p
plain_fits p o m h = omega (arith, sizes p o m, ap length h.none_made)

create_one : (why : Purpose) (p : Pool) → length (created (create_pending_connection why p).records) ≡ 1
unfolding create_pending_connection ◌>>◌
create_one why p = refl

create_many_count : (n : ℕ) (p : Pool) → length (created (create_many n p).records) ≡ n
unfolding create_many ◌>>◌
create_many_count zero p = refl
create_many_count (suc n) p = rw (created_append, length-append) (omega (arith, create_one Background p, create_many_count n (create_pending_connection Background p).pool))

refill_count : (p : Pool) → length (created (ensure_min_connections p).records) ≤ p.options.minimum - total p
unfolding ensure_min_connections when◌then◌else◌
refill_count p = go (is_ready p.state)
  where
    k : ℕ
    k = min (p.options.minimum - total p) (p.options.connecting - length p.pending)

    go : (b : Bool) → length (created ((when b then create_many k else nothing) p).records) ≤ p.options.minimum - total p
    go true = omega (arith, create_many_count k p)
    go false = omega arith

fits_if : {b : Bool} {m : ℕ} (a₁ a₂ : Act Pool) (p : Pool) → (b ≡ true → Fits m (a₁ p)) → (b ≡ false → Fits m (a₂ p))
    → Fits m ((when b then a₁ else a₂) p)
unfolding when◌then◌else◌
fits_if {b = true} a₁ a₂ p f g = f refl
fits_if {b = false} a₁ a₂ p f g = g refl

maintenance_fits : (p : Pool) (m : ℕ) → p.options.minimum ≤ m → total p ≤ m → Fits m (maintenance p)
unfolding maintenance ◌>>◌
maintenance_fits p m k f =
    let l = p.available in
    let q = (remove_perished l p).pool in
    let fewer = plain_fits p (remove_perished l p) (remove_perished_moves l p refl) (remove_perished_plain l p) in
    omega (arith, sizes q (ensure_min_connections q) (refill_moves q), rw (remove_perished_keeps l p).options_stay at (refill_count q))

pub handle_fits : (e : Event) (p : Pool) (m : ℕ) → Named e p → p.options.minimum ≤ m → total p ≤ m → Fits m (handle e p)
unfolding handle
handle_fits e p m n k f = go (handle_plain e p)
  where
    go : Plain p (handle e p) ⊎ (e ≡ Maintenance) → Fits m (handle e p)
    go (inl h) = omega (arith, plain_fits p (handle e p) (handle_moves e p n) h)
    go (inr h) = rw h (maintenance_fits p m k f)

-- ── The service stage ──────────────────────────────────────────────────────────────────────────────────────────────────

establish_fits : (w : Waiter) (p : Pool) (m : ℕ) → total p < m → Fits m (establish w p)
unfolding establish create_pending_connection told ◌>>◌
establish_fits w p m h = rw length-append (omega arith)

-- a healthy one leaves room for itself
lend_fits : (w : Waiter) (c : Conn) (p : Pool) (m : ℕ) → total p < m → Fits m (lend w c p)
unfolding lend shelve lend_out ◌>>◌ when◌then◌else◌
lend_fits w c p m h = go w.abandoned
  where
    go : (b : Bool) → Fits m ((when b then shelve c p.clock else lend_out c) p)
    go true = rw length-append (omega arith)
    go false = rw length-append (omega arith)

-- where none is available there is room for one more, and where one perished there is room for another
take_available_fits : (w : Waiter) (l : List Conn) (p : Pool) (m : ℕ) → length p.available ≡ length l → total p ≤ m
    → total p < m + length l → Fits m (take_available w l p)
unfolding take_available close_perished ◌>>◌
take_available_fits w [] p m e f h = establish_fits w p m (omega arith)
take_available_fits w (c ∷ cs) p m e f h =
    let n : length (reverse cs) ≡ length cs = length-reverse cs in
    let q = with_available p (reverse cs) in
    let less : total q < m = omega arith in
    fits_if (close_perished c >> take_available w cs) (lend w c) q (λ _. take_available_fits w cs q m n (omega arith) (omega arith)) (λ _. lend_fits w c q m less)

room_of : (l : List Conn) (a m : ℕ) (b : Bool) → (some? l || a <? m && b) ≡ true → a ≤ m → a < m + length l
room_of [] a m b h e = omega (arith, ltb-true a m (and_left (a <? m) b h))
room_of (c ∷ l) a m b h e = omega arith

pub room : (p : Pool) → can_service p ≡ true → total p ≤ p.options.maximum → total p < p.options.maximum + length p.available
unfolding can_service
room p h f = room_of p.available _ _ _ (and_right (is_ready p.state) _ h) f

check_out_fits : (w : Waiter) (p : Pool) (m : ℕ) → p.options.minimum ≤ m → total p ≤ m → total p < m + length p.available → Fits m (check_out w p)
unfolding check_out
check_out_fits w p m k f h =
    fits_if _ _ p
    (λ _. fits_if _ _ p (λ _. f) (λ b. establish_fits w p m (omega (arith, leb-false p.options.minimum (total p) b))))
    (λ _. take_available_fits w (reverse p.available) p m (sym (length-reverse p.available)) f (rw length-reverse h))

serve_front_fits : (l : List Waiter) (p : Pool) (m : ℕ) → p.options.minimum ≤ m → total p ≤ m → total p < m + length p.available
    → Fits m (serve_front l p)
unfolding serve_front ◌>>◌
serve_front_fits [] p m k f h = f
serve_front_fits (w ∷ l) p m k f h = check_out_fits w (with_waiting p l) m k f h

service_fits : (p : Pool) → p.options.minimum ≤ p.options.maximum → total p ≤ p.options.maximum → Fits p.options.maximum (service p)
unfolding service
service_fits p k f = fits_if _ _ p (λ h. serve_front_fits p.waiting p _ k f (room p h f)) (λ _. f)

-- ── One event ──────────────────────────────────────────────────────────────────────────────────────────────────────────

-- the service stage of a pool that fits
serviced_fits : (b : Bool) (p : Pool) (m : ℕ) → p.options.maximum ≡ m → p.options.minimum ≤ m → total p ≤ m
    → Fits m ((when b then service else nothing) p)
unfolding when◌then◌else◌
serviced_fits true p m e k f = omega (arith, service_fits p (omega arith) (omega arith))
serviced_fits false p m e k f = f

pub event_fits : (e : Event) (p : Pool) → Named e p → p.options.minimum ≤ p.options.maximum → total p ≤ p.options.maximum
    → Fits p.options.maximum (event e p)
unfolding event ◌>>◌
event_fits e p n k f =
    let o = (handle_keeps e p).options_stay in
    serviced_fits (serviced e) (handle e p).pool _ (rw o) (rw o k) (handle_fits e p _ n k f)
