-- The queue of waiters: told and emptied, joined at the back, left at the front, marked in the middle.
use Rattle.std.specs.Prelude.{◌≡◌, refl, Bool, true, false, not, ◌&&◌, List, [], ◌∷◌, map, ℕ, zero, suc, ◌+◌, ◌*◌, ◌/◌, ◌%◌, ◌≤◌, ◌<◌, length, get_or, set, take}
use Rattle.std.proofs.Common.{ap, sym, ◌∙◌, div-add-mod', mod-lt, add-one, arith, length-set, get_or-set_other, take-suc-set, length-take-le, get_or-take, eq-eqb, ne_eqb, lt-ltb, le-ltb, le-leb}
use Rattle.std.proofs.lemmas.List.{map-append, length-map}
use Rattle.std.proofs.Math.Seq.{take-set-lt}
use Rattle.std.proofs.lemmas.Bool.{lt-leb}
use Rattle.definition.specs.Booleans.{by_lt, or_false, or_true}
use Rattle.definition.specs.Words.{when◌then◌else◌, ◌<?◌, ◌≤?◌, ◌∷ʳ◌, any?}
use Rattle.definition.specs.Pool.{queue_length, Waiter}
use Rattle.definition.specs.Events.{bit}
use Rattle.slots.specs.Order.{place_of, shifted}
use Rattle.slots.specs.OrderLaws.{length_shifted, place_found}
use Rattle.slots.specs.View.{waiter_of}
use Rattle.slots.specs.Slots.{zeroed}
use Rattle.refinement.specs.Alike.{Rises, Queue}
use Rattle.refinement.specs.Order.{take_front, take_rest, shifted_rest, place_not}
use Rattle.refinement.specs.Queue.{marked, others, waits_for}

-- ── One waiter as a number: four times its id, and 1 if warm, 2 if abandoned ───────────────────────────────────────────

-- a number is known by its quotient and its rest
parts : (w q r : ℕ) → w ≡ q * 4 + r → r < 4 → (w / 4 ≡ q) × (w % 4 ≡ r)
parts w q r e h = (omega (arith, div-add-mod' w 4, mod-lt w {m = 4} (omega arith)), omega (arith, div-add-mod' w 4, mod-lt w {m = 4} (omega arith)))

-- whether it is odd, its rest by 4 tells
odd : (w r : ℕ) → w % 4 ≡ r → r < 2 → w % 2 ≡ r
odd w r e h = omega (arith, div-add-mod' w 4, div-add-mod' w 2, mod-lt w {m = 2} (omega arith))

odd_too : (w : ℕ) → w % 4 < 2 → (w + 2) % 2 ≡ w % 2
odd_too w h = omega (arith, div-add-mod' w 2, div-add-mod' (w + 2) 2, mod-lt w {m = 2} (omega arith), mod-lt (w + 2) {m = 2} (omega arith))

pub waiter_new : (n : ℕ) (warm : Bool) → waiter_of (4 * n + bit 1 warm) ≡ record { id = n; warm = warm; abandoned = false }
unfolding when◌then◌else◌
waiter_new n true =
    let p = parts (4 * n + 1) n 1 (omega arith) (omega arith) in
    let o = odd (4 * n + 1) 1 p.1 (omega arith) in
    rw (p.0, p.1, o)
waiter_new n false =
    let p = parts (4 * n + 0) n 0 (omega arith) (omega arith) in
    let o = odd (4 * n + 0) 0 p.1 (omega arith) in
    rw (p.0, p.1, o)

waiter_marked : (n w : ℕ) → w / 4 ≡ n → w % 4 < 2 → waiter_of (w + 2) ≡ marked n (waiter_of w)
waiter_marked n w e h =
    let p = parts (w + 2) (w / 4) (w % 4 + 2) (omega (arith, div-add-mod' w 4)) (omega arith) in
    rw (p.0, p.1, odd_too w h, eq-eqb (w / 4) n e, le-leb 2 (w % 4 + 2) (omega arith), or_true (2 ≤? w % 4))

waiter_unmarked : (n : ℕ) (w : Waiter) → (w.id ≡ n → ⊥) → marked n w ≡ w
waiter_unmarked n w h = rw (ne_eqb w.id n h, or_false w.abandoned)

-- ── Rising ids ─────────────────────────────────────────────────────────────────────────────────────────────────────────

rises_less : (a b last : ℕ) (l : List Waiter) → a ≤ b → Rises b last l → Rises a last l
rises_less a b last [] h r = tt
rises_less a b last (w ∷ l) h r = (omega (arith, r.0), r.1, r.2)

rises_snoc : (b last : ℕ) (l : List Waiter) (w : Waiter) → b ≤ last → last < w.id → Rises b last l → Rises b w.id (l ∷ʳ w)
rises_snoc b last [] w k h r = (omega arith, omega arith, tt)
rises_snoc b last (v ∷ l) w k h r = (r.0, omega (arith, r.1), rises_snoc v.id last l w r.1 h r.2)

rises_marked : (n b last : ℕ) (l : List Waiter) → Rises b last l → Rises b last (map (marked n) l)
rises_marked n b last [] r = tt
rises_marked n b last (w ∷ l) r = (r.0, r.1, rises_marked n w.id last l r.2)

above : (b last : ℕ) (l : List ℕ) (k : ℕ) → Rises b last (map waiter_of l) → k < length l → b < get_or l k 0 / 4
above b last [] k r h = absurd (omega arith)
above b last (x ∷ l) zero r h = r.0
above b last (x ∷ l) (suc k) r h = omega (arith, above (x / 4) last l k r.2 (omega arith), r.0)

none_marked : (n b last : ℕ) (l : List Waiter) → n ≤ b → Rises b last l → map (marked n) l ≡ l
none_marked n b last [] h r = refl
none_marked n b last (w ∷ l) h r = rw (waiter_unmarked n w (λ e. omega (arith, r.0)), none_marked n w.id last l (omega (arith, r.0)) r.2)

-- one number marked is the one waiter marked
mark_one : (n b last : ℕ) (l : List ℕ) (k : ℕ) → k < length l → get_or l k 0 / 4 ≡ n → get_or l k 0 % 4 < 2 → Rises b last (map waiter_of l) → map waiter_of (set l k (get_or l k 0 + 2)) ≡ map (marked n) (map waiter_of l)
mark_one n b last [] k h e g r = absurd (omega arith)
mark_one n b last (x ∷ l) zero h e g r = rw (waiter_marked n x e g, none_marked n (x / 4) last (map waiter_of l) (omega arith) r.2)
mark_one n b last (x ∷ l) (suc k) h e g r =
    let d : x / 4 ≡ n → ⊥ = λ q. omega (arith, above (x / 4) last l k r.2 (omega arith)) in
    rw (mark_one n (x / 4) last l k (omega arith) e g r.2, waiter_unmarked n (waiter_of x) d)

-- ── The queue ──────────────────────────────────────────────────────────────────────────────────────────────────────────

zeroed_length : (n : ℕ) (l : List ℕ) → length (zeroed n l) ≡ length l
unfolding zeroed
zeroed_length zero l = refl
zeroed_length (suc n) [] = refl
zeroed_length (suc n) (x ∷ l) = ap suc (zeroed_length n l)

zeroed_rest : (n : ℕ) (l : List ℕ) → ((j : ℕ) → n ≤ j → get_or l j 0 ≡ 0) → (j : ℕ) → get_or (zeroed n l) j 0 ≡ 0
unfolding zeroed
zeroed_rest zero l r j = r j (omega arith)
zeroed_rest (suc n) [] r zero = refl
zeroed_rest (suc n) [] r (suc j) = refl
zeroed_rest (suc n) (x ∷ l) r zero = refl
zeroed_rest (suc n) (x ∷ l) r (suc j) = zeroed_rest n l (λ i h. r (suc i) (omega arith)) j

module _ {waiters : List ℕ} {n last : ℕ} {waiting : List Waiter} (q : Queue waiters n last waiting) where
  pub waiters_counted : length waiting ≡ n
  waiters_counted = ap length (sym q.waits) ∙ simp length-map (length-take-le n waiters (omega (arith, q.room, q.fits)))

  pub queue_emptied : Queue (zeroed n waiters) 0 last []
  queue_emptied = record {
    room = zeroed_length n waiters ∙ q.room;
    fits = omega arith;
    waits = refl;
    rest = λ j h. zeroed_rest n waiters q.rest j;
    rises = tt;
  }

  pub queue_joined : (r : ℕ) (warm : Bool) → n < queue_length → last < r → Queue (set waiters n (4 * r + bit 1 warm)) (n + 1) r (waiting ∷ʳ record { id = r; warm = warm; abandoned = false })
  queue_joined r warm h g = record {
    room = rw length-set q.room;
    fits = omega arith;
    waits = rw (add-one n, take-suc-set waiters n (4 * r + bit 1 warm) (omega (arith, q.room)), map-append, waiter_new r warm, q.waits);
    rest = λ j k. get_or-set_other waiters n j (4 * r + bit 1 warm) 0 (λ e. omega arith) ∙ q.rest j (omega arith);
    rises = rises_snoc 0 last waiting (record { id = r; warm = warm; abandoned = false }) (omega arith) g q.rises;
  }

  pub queue_later : (r : ℕ) → last ≤ r → Queue waiters n r waiting
  queue_later r h = record { room = q.room; fits = q.fits; waits = q.waits; rest = q.rest; rises = go 0 waiting q.rises }
    where
      go : (b : ℕ) (l : List Waiter) → Rises b last l → Rises b r l
      go b [] x = tt
      go b (w ∷ l) x = (x.0, omega (arith, x.1), go w.id l x.2)

  pub queue_marked : (x k : ℕ) → k < n → get_or waiters k 0 / 4 ≡ x → get_or waiters k 0 % 4 < 2 → Queue (set waiters k (get_or waiters k 0 + 2)) n last (map (marked x) waiting)
  queue_marked x k h e g =
      let t : get_or (take n waiters) k 0 ≡ get_or waiters k 0 = get_or-take n waiters k 0 h in
      let long : length (take n waiters) ≡ n = length-take-le n waiters (omega (arith, q.room, q.fits)) in
      let up : Rises 0 last (map waiter_of (take n waiters)) = rw q.waits q.rises in
      let m : map waiter_of (set (take n waiters) k (get_or (take n waiters) k 0 + 2)) ≡ map (marked x) (map waiter_of (take n waiters)) = mark_one x 0 last (take n waiters) k (omega arith) (rw t e) (rw t g) up in
      record {
        room = rw length-set q.room;
        fits = q.fits;
        waits = rw (take-set-lt n waiters k (get_or waiters k 0 + 2) h, ← t, m, q.waits);
        rest = λ j i. get_or-set_other waiters k j (get_or waiters k 0 + 2) 0 (λ z. omega arith) ∙ q.rest j i;
        rises = rises_marked x 0 last waiting q.rises;
      }

-- the front leaves
module _ {waiters : List ℕ} {k last : ℕ} {waiting : List Waiter} (q : Queue waiters (suc k) last waiting) where
  pub queue_front : waiting ≡ waiter_of (get_or waiters 0 0) ∷ others waiters k
  queue_front = sym q.waits ∙ ap (map waiter_of) (take_front waiters k (omega (arith, q.room)))

  pub queue_left : Queue (shifted (suc k) waiters) k last (others waiters k)
  queue_left =
      let h : k < length waiters = omega (arith, q.room, q.fits) in
      let up : Rises 0 last (waiter_of (get_or waiters 0 0) ∷ others waiters k) = rw queue_front at q.rises in
      record {
        room = length_shifted (suc k) waiters (omega arith) h ∙ q.room;
        fits = omega (arith, q.fits);
        waits = ap (map waiter_of) (take_rest waiters k h);
        rest = shifted_rest waiters k h q.rest;
        rises = rises_less 0 (get_or waiters 0 0 / 4) last (others waiters k) (omega arith) up.2;
      }

not_abandoned : (x : ℕ) → not (2 ≤? x) ≡ x <? 2
not_abandoned x = by_lt x 2 (λ h. rw (lt-leb 2 x h, lt-ltb x 2 h)) (λ h. rw (le-leb 2 x h, le-ltb x 2 h))

none_waits : (n : ℕ) (l : List ℕ) → ((j : ℕ) → j < length l → get_or l j 0 / 4 ≡ n → ⊥) → any? (waits_for n) (map waiter_of l) ≡ false
unfolding when◌then◌else◌
none_waits n [] h = refl
none_waits n (x ∷ l) h = rw (ne_eqb (x / 4) n (h 0 (omega arith))) (none_waits n l (λ j k. h (suc j) (omega arith)))

one_waits : (n b last : ℕ) (l : List ℕ) (k : ℕ) → k < length l → get_or l k 0 / 4 ≡ n → Rises b last (map waiter_of l) → any? (waits_for n) (map waiter_of l) ≡ (get_or l k 0 % 4 <? 2)
unfolding when◌then◌else◌
one_waits n b last [] k h e r = absurd (omega arith)
one_waits n b last (x ∷ l) zero h e r =
    let none : any? (waits_for n) (map waiter_of l) ≡ false = none_waits n l (λ j k q. omega (arith, above (x / 4) last l j r.2 k)) in
    rw (eq-eqb (x / 4) n e, not_abandoned (x % 4), none) (go (x % 4 <? 2))
  where
    go : (t : Bool) → (when t then true else false) ≡ t
    go true = refl
    go false = refl
one_waits n b last (x ∷ l) (suc k) h e r =
    let d : x / 4 ≡ n → ⊥ = λ q. omega (arith, above (x / 4) last l k r.2 (omega arith)) in
    rw (ne_eqb (x / 4) n d) (one_waits n (x / 4) last l k (omega arith) e r.2)

pub waits_same : {waiters : List ℕ} {n last : ℕ} {waiting : List Waiter} (q : Queue waiters n last waiting) (x : ℕ)
    → (place_of x n waiters <? n && get_or waiters (place_of x n waiters) 0 % 4 <? 2) ≡ any? (waits_for x) waiting
waits_same {waiters} {n} {last} {waiting} q x =
    let k = place_of x n waiters in
    let long : length (take n waiters) ≡ n = length-take-le n waiters (omega (arith, q.room, q.fits)) in
    rw (← q.waits)
    (by_lt k n
    (λ h. let t : get_or (take n waiters) k 0 ≡ get_or waiters k 0 = get_or-take n waiters k 0 h in
    rw (lt-ltb k n h) (ap (λ (y : ℕ). y % 4 <? 2) (sym t) ∙ sym (one_waits x 0 last (take n waiters) k (omega arith) (rw t (place_found (λ v. v / 4) x n waiters h)) (rw q.waits q.rises))))
    (λ h. rw (le-ltb k n h) (sym (none_waits x (take n waiters) (λ j i e. place_not (λ v. v / 4) x n waiters h j (omega arith) (sym (ap (λ (y : ℕ). y / 4) (get_or-take n waiters j 0 (omega arith))) ∙ e))))))
