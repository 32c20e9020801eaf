-- The cases of the steps.
use Rattle.std.specs.Prelude.{◌≡◌, Bool, true, false, ◌&&◌, ◌||◌, ℕ, ◌+◌, ◌*◌, ◌<◌, set}
use Rattle.std.proofs.Common.{subst, ltb-true}
use Rattle.definition.specs.Booleans.{and_left, and_right}
use Rattle.definition.specs.Words.{when◌then◌else◌, ◌<?◌}
use Rattle.definition.specs.Pool.{is_ready, is_closed}
use Rattle.definition.specs.declared.Record.TheVariants.{ConnectionCheckedIn, ConnectionReady, PoolReady, Replied}
use Rattle.definition.specs.declared.Reply.TheVariants.{Cleared}
use Rattle.definition.specs.Steps.{emit, nothing, ◌>>◌}
use Rattle.definition.specs.Events.{bit}
use Rattle.definition.specs.declared.PoolState.TheVariants.{New, Paused, Ready, Closed}
use Rattle.definition.specs.declared.ClosedReason.TheVariants.{Stale, Error, Dropped, PoolClosed}
use Rattle.slots.specs.View.{SlotPool, id_at, stale_at, with_last_request, with_waiters}
use Rattle.slots.specs.Slots.{close_at, shelve, leave_pending, enter, check_in_at, succeeded_for_pool_at, mark_as_ready, queue, request, can_service, can_service_at}

module _ (p : SlotPool) (i : ℕ) (errored executing : Bool) (t : ℕ) where
  pub check_in_closed : is_closed p.state ≡ true → check_in_at i errored executing t p ≡ close_at PoolClosed i 0 p
  unfolding check_in_at when◌then◌else◌
  check_in_closed h = rw h

  pub check_in_errored : is_closed p.state ≡ false → errored ≡ true → check_in_at i errored executing t p ≡ (emit (ConnectionCheckedIn (id_at p i)) >> close_at Error i 0) p
  unfolding check_in_at when◌then◌else◌
  check_in_errored h e = rw (h, e)

  pub check_in_stale : is_closed p.state ≡ false → errored ≡ false → stale_at p i ≡ true → check_in_at i errored executing t p ≡ (emit (ConnectionCheckedIn (id_at p i)) >> close_at Stale i 0) p
  unfolding check_in_at when◌then◌else◌
  check_in_stale h e s = rw (h, e, s)

  pub check_in_executing : is_closed p.state ≡ false → errored ≡ false → stale_at p i ≡ false → executing ≡ true → check_in_at i errored executing t p ≡ (emit (ConnectionCheckedIn (id_at p i)) >> close_at Dropped i 0) p
  unfolding check_in_at when◌then◌else◌
  check_in_executing h e s x = rw (h, e, s, x)

  pub check_in_kept : is_closed p.state ≡ false → errored ≡ false → stale_at p i ≡ false → executing ≡ false → check_in_at i errored executing t p ≡ (emit (ConnectionCheckedIn (id_at p i)) >> shelve i t) p
  unfolding check_in_at when◌then◌else◌
  check_in_kept h e s x = rw (h, e, s, x)

module _ (p : SlotPool) (i opened : ℕ) where
  pub opened_closed : is_closed p.state ≡ true → succeeded_for_pool_at i opened p ≡ (emit (ConnectionReady (id_at p i)) >> leave_pending >> close_at PoolClosed i 0) p
  unfolding succeeded_for_pool_at when◌then◌else◌
  opened_closed h = rw h

  pub opened_kept : is_closed p.state ≡ false → succeeded_for_pool_at i opened p ≡ (emit (ConnectionReady (id_at p i)) >> leave_pending >> shelve i opened) p
  unfolding succeeded_for_pool_at when◌then◌else◌
  opened_kept h = rw h

module _ (p : SlotPool) where
  pub ready_already : is_ready p.state ≡ true → mark_as_ready p ≡ nothing p
  unfolding mark_as_ready when◌then◌else◌
  ready_already h = rw h

  pub ready_now : is_ready p.state ≡ false → mark_as_ready p ≡ (emit PoolReady >> enter Ready p.generation) p
  unfolding mark_as_ready when◌then◌else◌
  ready_now h = rw h

module _ (p : SlotPool) (n : ℕ) (warm : Bool) where
  pub request_new : p.state ≡ New → request n warm p ≡ emit (Replied n (Cleared 0)) (with_last_request p n)
  unfolding request queue ◌>>◌
  request_new h = rw h

  pub request_paused : (cause : ℕ) → p.state ≡ Paused cause → request n warm p ≡ emit (Replied n (Cleared cause)) (with_last_request p n)
  unfolding request queue ◌>>◌
  request_paused cause h = rw h

  pub request_ready : p.state ≡ Ready → request n warm p ≡ nothing (with_waiters (with_last_request p n) (set p.waiters p.waitings (4 * n + bit 1 warm)) (p.waitings + 1))
  unfolding request queue ◌>>◌
  request_ready h = rw h

  pub request_closed : p.state ≡ Closed → request n warm p ≡ nothing (with_last_request p n)
  unfolding request queue ◌>>◌
  request_closed h = rw h

-- where nothing is available, a pool that can serve is below its maximum
pub room_to_create : (p : SlotPool) → can_service p ≡ true → p.availables ≡ 0 → p.total < p.options.maximum
unfolding can_service_at
room_to_create p h z =
    let x = p.total <? p.options.maximum in
    let y = p.pendings <? p.options.connecting in
    ltb-true _ _ (and_left x y (and_right (is_ready p.state) _ (subst (λ (a : ℕ). (is_ready p.state && (0 <? a || x && y)) ≡ true) z h)))
