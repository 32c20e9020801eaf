-- One law for each exit: what the code knows there gives the answer of the tests.
use Rattle.std.specs.Prelude.{◌≡◌, ◌⊎◌, refl, Bool, true, false, List, ℕ, ◌%◌, ◌≤◌, ◌<◌, length, get_or}
use Rattle.std.proofs.Math.Path.{sym}
use Rattle.std.proofs.Common.{inl, inr, ap, ◌∙◌, arith}
use Rattle.std.proofs.Math.ListN.{get_or-eq_default}
use borrow.Author.Tests.{le-leb, lt-ltb, le-ltb, ne_eqb}
use Rattle.definition.specs.Words.{when◌then◌else◌}
use Rattle.definition.specs.Pool.{slot_count}
use Rattle.definition.specs.Refusals.{first, wrong_time}
use Rattle.definition.specs.Steps.{◌to◌holds◌}
use Rattle.definition.specs.declared.Event.{Event}
use Rattle.definition.specs.declared.Event.TheVariants.{CheckOut, WarmPool, Clear, MarkAsReady, Maintenance, FillPool, Close}
use Rattle.definition.specs.declared.Refusal.{Refusal}
use Rattle.definition.specs.declared.Refusal.TheVariants.{WrongState, WrongTime, NotWaiting, AlreadyPinned}
use Rattle.slots.specs.Call.{slot_of, state_of, time_of, kind_tests, or_accept, no_target, target, tests, verdict}
use Rattle.slots.specs.Order.{place_of, slot_holding}
use Rattle.slots.specs.Parts.{slots_at}
use Rattle.slots.specs.View.{SlotPool, Slot, vacant, slots_of, slot_at}
use Rattle.slots.specs.declared.Status.{Status}
use Rattle.slots.specs.Outcome.{Verdict}
use Rattle.std.specs.declared.result.Result.TheVariants.{Ok, Err}
use Rattle.common_tests.specs.Tests.{common_tests, common_verdict}
use Rattle.common_tests.specs.Laws.{common_refused, common_passed}
use Rattle.verdict.specs.Look.{found, Looks, in_states, request_list, abandon_list, state_list, time_list, pin_list, kind_verdict}
use Rattle.verdict.specs.Laws.{outside, first_of, first_by}
use Rattle.verdict.specs.declared.Found.{Found}

-- ── A lookup ───────────────────────────────────────────────────────────────────────────────────────────────────────────

abbrev what : ℕ → ℕ → ℕ → Found
what i s t = record { at = i; state = s; time = t }

found_as : {i s t j r u : ℕ} → i ≡ j → s ≡ r → t ≡ u → what i s t ≡ what j r u
found_as a b c = rw (a, b, c)

module _ (ids generations times states : List ℕ) (id : ℕ) {i : ℕ} (w : length (slots_of generations times states) ≡ slot_count) (e : i ≡ slot_holding id ids) where
  pub look_found : i < slot_count → Looks ids (slots_of generations times states) id (what i (get_or states i 0) (get_or times i 0))
  look_found low =
      let s = slots_at generations times states w i low in
      record { at = e; state = sym (ap (λ (x : Slot). x.state) s); time = sym (ap (λ (x : Slot). x.time) s) }

  pub look_missed : slot_count ≤ i → Looks ids (slots_of generations times states) id (what i 0 0)
  look_missed high =
      let s = get_or-eq_default (slots_of generations times states) vacant {n = i} (omega (arith, w, high)) in
      record { at = e; state = sym (ap (λ (x : Slot). x.state) s); time = sym (ap (λ (x : Slot). x.time) s) }

module _ (P : SlotPool) (id : ℕ) where
  found_is : {f : Found} → Looks P.ids P.slots id f → f ≡ found P id
  found_is l = found_as l.at (l.state ∙ ap (λ (x : ℕ). (slot_at P x).state) l.at) (l.time ∙ ap (λ (x : ℕ). (slot_at P x).time) l.at)

  -- ── A state ──────────────────────────────────────────────────────────────────────────────────────────────────────────

  module _ (low high : ℕ) where
    module _ {f : Found} (h : Looks P.ids P.slots id f) where
      pub in_found : low ≤ f.state → f.state ≤ high → Ok f ≡ in_states P id low high
      unfolding when◌then◌else◌
      in_found a b = let e = found_is h in rw (e, le-leb low _ (rw e at a), le-leb _ high (rw e at b))

      pub in_other : (low ≤ f.state → f.state ≤ high → ⊥) → Err WrongState ≡ in_states P id low high
      unfolding when◌then◌else◌
      in_other n = let e = found_is h in rw (outside low high (state_of P id) (rw e at n))

    -- what is known of the one in a state of the range, and where there is none
    states_ok : {f : Found} → Ok f ≡ in_states P id low high → (f ≡ found P id) × ((low to high holds state_of P id) ≡ true)
    unfolding when◌then◌else◌
    states_ok {f} q = go (low to high holds state_of P id) q
      where
        go : (b : Bool) → Ok f ≡ when b then Ok (found P id) else Err WrongState → (f ≡ found P id) × (b ≡ true)
        go true h = (cc, refl)
        go false h = let z : ◌≡◌ {A = ℕ} 0 1 = cc in absurd (omega arith)

    states_err : {r : Refusal} → Err r ≡ in_states P id low high → (r ≡ WrongState) × ((low to high holds state_of P id) ≡ false)
    unfolding when◌then◌else◌
    states_err {r} q = go (low to high holds state_of P id) q
      where
        go : (b : Bool) → Err r ≡ when b then Ok (found P id) else Err WrongState → (r ≡ WrongState) × (b ≡ false)
        go true h = let z : ◌≡◌ {A = ℕ} 0 1 = cc in absurd (omega arith)
        go false h = (cc, refl)

    abbrev stated : Verdict
    stated = or_accept (slot_of P id) (first (state_list (state_of P id) low high))

    pub state_wrong : {r : Refusal} → Err r ≡ in_states P id low high → Err r ≡ stated
    unfolding first when◌then◌else◌
    state_wrong h = let k = states_err h in rw (k.0, k.1)

    pub state_right : {f : Found} → Ok f ≡ in_states P id low high → Ok f.at ≡ stated
    unfolding first when◌then◌else◌
    state_right h = let k = states_ok h in rw (k.0, k.1)

    -- ── A state, and a time ────────────────────────────────────────────────────────────────────────────────────────────

    module _ (second now : ℕ) where
      abbrev timed : Verdict
      timed = or_accept (slot_of P id) (first (time_list (state_of P id) low high second (time_of P id) now))

      pub timed_other : {r : Refusal} → Err r ≡ in_states P id low high → Err r ≡ timed
      unfolding first when◌then◌else◌
      timed_other h = let k = states_err h in rw (k.0, k.1)

      module _ {f : Found} (h : Ok f ≡ in_states P id low high) where
        pub timed_wrong : wrong_time second f.time now ≡ true → Err WrongTime ≡ timed
        unfolding first when◌then◌else◌
        timed_wrong q = let k = states_ok h in rw (k.1, rw k.0 at q)

        pub timed_right : wrong_time second f.time now ≡ false → Ok f.at ≡ timed
        unfolding first when◌then◌else◌
        timed_right q = let k = states_ok h in rw (k.0, k.1, rw k.0 at q)

  -- ── A pin ────────────────────────────────────────────────────────────────────────────────────────────────────────────

  abbrev pinned : Verdict
  pinned = or_accept (slot_of P id) (first (pin_list (state_of P id)))

  module _ {f : Found} (h : Looks P.ids P.slots id f) where
    pub pin_right : f.state ≡ 2 → Ok f.at ≡ pinned
    unfolding first when◌then◌else◌
    pin_right q = let e = found_is h in rw (e, rw e at q)

    pub pin_again : 3 ≤ f.state → f.state ≤ 4 → Err AlreadyPinned ≡ pinned
    unfolding first when◌then◌else◌
    pin_again a b = let e = found_is h in rw (le-leb 3 _ (rw e at a), le-leb _ 4 (rw e at b))

    pub pin_other : (2 ≤ f.state → f.state ≤ 4 → ⊥) → Err WrongState ≡ pinned
    unfolding first when◌then◌else◌
    pin_other n =
        let k : 2 ≤ state_of P id → state_of P id ≤ 4 → ⊥ = let e = found_is h in rw e at n in
        rw (outside 3 4 (state_of P id) (λ a b. k (omega (arith, a)) b), ne_eqb (state_of P id) 2 (λ q. k (omega (arith, q)) (omega (arith, q))))

-- ── The verdict, by what the shared tests say ──────────────────────────────────────────────────────────────────────────

module _ (p : SlotPool) (e : Event) (now : ℕ) (m : Status) (s : m.state ≡ p.state) (g : m.generation ≡ p.generation) where
  pub verdict_by : {r : Refusal} → Err r ≡ common_verdict p.clock p.next_id m now e → Err r ≡ verdict p e now
  unfolding common_verdict verdict tests
  verdict_by {r} c =
      let k = rw (s, g) at (common_refused (first (common_tests p.clock p.next_id m now e)) r (sym c)) in
      sym (ap (or_accept (target p e)) (first_by _ _ _ _ (kind_tests p e now) r k))

  pub verdict_open : {v : Verdict} → Ok tt ≡ common_verdict p.clock p.next_id m now e → v ≡ kind_verdict p e now → v ≡ verdict p e now
  unfolding common_verdict kind_verdict verdict tests
  verdict_open c d =
      let k = rw (s, g) at (common_passed (first (common_tests p.clock p.next_id m now e)) (sym c)) in
      d ∙ sym (ap (or_accept (target p e)) (first_of _ _ _ _ (kind_tests p e now) k))

-- ── A waiter ───────────────────────────────────────────────────────────────────────────────────────────────────────────

module _ (waiters : List ℕ) (waiting id : ℕ) {k : ℕ} (e : k ≡ place_of id waiting waiters) where
  abbrev waits : Verdict
  waits = or_accept (place_of id waiting waiters) (first (abandon_list waiters waiting id))

  pub still_waits : k < waiting → get_or waiters k 0 % 4 < 2 → Ok k ≡ waits
  unfolding first when◌then◌else◌
  still_waits h g = rw (← e, lt-ltb k waiting h, lt-ltb (get_or waiters k 0 % 4) 2 g)

  pub was_abandoned : k < waiting → 2 ≤ get_or waiters k 0 % 4 → Err NotWaiting ≡ waits
  unfolding first when◌then◌else◌
  was_abandoned h g = rw (← e, lt-ltb k waiting h, le-ltb (get_or waiters k 0 % 4) 2 g)

  pub never_waits : waiting ≤ k → Err NotWaiting ≡ waits
  unfolding first when◌then◌else◌
  never_waits h = rw (← e, le-ltb k waiting h)

-- ── The tests of one kind, where several share them ────────────────────────────────────────────────────────────────────

module _ (p : SlotPool) (e : Event) (now : ℕ) where
  pub of_request : {v : Verdict} {n : ℕ} → (e ≡ CheckOut n) ⊎ (e ≡ WarmPool n)
      → v ≡ or_accept no_target (first (request_list p.last_request p.waitings n)) → v ≡ kind_verdict p e now
  unfolding kind_verdict
  of_request (inl h) d = rw h d
  of_request (inr h) d = rw h d

  pub of_no_target : ((timeout : Bool) × (cause : ℕ) × (e ≡ Clear timeout cause)) ⊎ ((e ≡ MarkAsReady) ⊎ ((e ≡ Maintenance) ⊎ ((e ≡ FillPool) ⊎ (e ≡ Close))))
      → Ok no_target ≡ kind_verdict p e now
  unfolding kind_verdict first
  of_no_target (inl (t, c, h)) = rw h
  of_no_target (inr (inl h)) = rw h
  of_no_target (inr (inr (inl h))) = rw h
  of_no_target (inr (inr (inr (inl h)))) = rw h
  of_no_target (inr (inr (inr (inr h)))) = rw h
