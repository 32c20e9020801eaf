-- How many records there are: a service stage closes no more than were available, and an event writes no more than there is room for.
use Rattle.std.specs.Prelude.{◌≡◌, refl, List, [], ◌∷◌, reverse, ℕ, suc, ◌+◌, ◌*◌, ◌≤◌, max, length}
use Rattle.std.proofs.Common.{arith}
use Rattle.std.proofs.lemmas.List.{length-reverse}
use Rattle.definition.specs.Pool.{Pool, Conn, Waiter, total, slot_count, with_clock, with_waiting, with_available}
use Rattle.definition.specs.Records.{told}
use Rattle.definition.specs.Steps.{Act, ◌>>◌, shelve, lend_out, create_pending_connection, close_perished, handle, establish, lend, take_available, check_out, serve_front, service, serviced, event}
use Rattle.definition.specs.Refusals.{Result, after, room_records}
use Rattle.definition.specs.declared.Event.{Event}
use Rattle.definition.specs.declared.Frame.{Frame}
use Rattle.definition.specs.Log.{closed}
use Rattle.definition.proofs.Sentences.{if_both}
use Rattle.definition.specs.RecordBound.{Few}
use Rattle.definition.proofs.RecordBound.{few_then, handle_few, service_few}
use Rattle.promises.specs.Calls.{Named, Stepped, no_step, a_step, passed_named}
use Rattle.promises.proofs.Bound.{handle_fits}
use Rattle.promises.specs.Reached.{Reached}

-- ── Closed by a service stage ──────────────────────────────────────────────────────────────────────────────────────────

lend_closes : (w : Waiter) (c : Conn) (p : Pool) → closed (lend w c p).records ≡ []
unfolding lend told shelve lend_out ◌>>◌
lend_closes w c p = if_both (λ (a : Act Pool). closed (a p).records ≡ []) (λ _. refl) (λ _. refl)

take_available_closes : (w : Waiter) (l : List Conn) (p : Pool) → length (closed (take_available w l p).records) ≤ length l
unfolding take_available establish create_pending_connection close_perished told ◌>>◌
take_available_closes w [] p = omega arith
take_available_closes w (c ∷ cs) p =
    let q = with_available p (reverse cs) in
    if_both (λ (a : Act Pool). length (closed (a q).records) ≤ suc (length cs))
    (λ _. omega (arith, take_available_closes w cs q))
    (λ _. rw (lend_closes w c q) (omega arith))

check_out_closes : (w : Waiter) (p : Pool) → length (closed (check_out w p).records) ≤ length p.available
unfolding check_out establish create_pending_connection told ◌>>◌
check_out_closes w p =
    if_both (λ (a : Act Pool). length (closed (a p).records) ≤ length p.available)
    (λ _. if_both (λ (a : Act Pool). length (closed (a p).records) ≤ length p.available) (λ _. omega arith) (λ _. omega arith))
    (λ _. rw length-reverse at (take_available_closes w (reverse p.available) p))

serve_front_closes : (l : List Waiter) (p : Pool) → length (closed (serve_front l p).records) ≤ length p.available
unfolding serve_front ◌>>◌
serve_front_closes [] p = omega arith
serve_front_closes (w ∷ l) p = check_out_closes w (with_waiting p l)

pub service_closes : (p : Pool) → length (closed (service p).records) ≤ length p.available
unfolding service
service_closes p = if_both (λ (a : Act Pool). length (closed (a p).records) ≤ length p.available) (λ _. serve_front_closes p.waiting p) (λ _. omega arith)

-- ── Written by any event ───────────────────────────────────────────────────────────────────────────────────────────────

event_few : (e : Event) (p : Pool) (m : ℕ) → Named e p → p.options.minimum ≤ m → total p ≤ m → Few (max (length p.waiting) m + 2 * m + 4) (event e p)
unfolding event
event_few e p m n k f =
    let l = length p.available + max (length p.waiting) p.options.minimum + 2 in
    let q = (handle e p).pool in
    let fits = handle_fits e p m n k f in
    let written : Few (l + (length q.available + 2)) (event e p) = few_then l (length q.available + 2) _ _ p (handle_few e p) (service_few (serviced e) q) in
    omega arith

pub step_few : (p : Pool) (f : Frame) (room : ℕ) (r : Result) → Stepped p f room r → Reached p → p.options.maximum ≤ slot_count
    → length (after p r).records ≤ room_records
step_few p f room r (no_step n) g h = omega arith
step_few p f room r (a_step {e = e} {now = now} {room = room'} s) g h =
    let few = event_few e (with_clock p now) slot_count (passed_named p e now room' s) (omega (arith, g.ordered)) (omega (arith, g.fits)) in
    omega (arith, g.short)
