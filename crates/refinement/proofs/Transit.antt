-- A connection in transit: it has left its list and is in no list yet, and its slot still holds it. Four ways lead there
-- (from the lent, from the pending, from the front and from the back of the available), and three away from it.
use Rattle.std.specs.Prelude.{◌≡◌, refl, ◌≢◌, true, false, List, [], ◌∷◌, ◌++◌, ℕ, suc, ◌+◌, ◌-◌, ◌≤◌, ◌<◌, length, get_or, set, take, drop}
use Rattle.std.proofs.Common.{ap, sym, ◌∙◌, add-one, arith, length-set, length-append, get_or-set_same, get_or-set_other, set-set, take-suc, take-suc-set, length-take-le}
use Rattle.std.proofs.lemmas.Bool.{false≢true}
use Rattle.std.proofs.lemmas.List.{map-append, length-map, set-get_or, take-set-le}
use Rattle.std.specs.Prelude.{Some as some}
use Rattle.definition.specs.Booleans.{by_eq}
use Rattle.definition.specs.Words.{◌∷ʳ◌}
use Rattle.definition.specs.Pool.{slot_count, Conn, without, set_state, state_no}
use Rattle.definition.specs.declared.ConnectionState.{ConnectionState}
use Rattle.definition.specs.declared.ConnectionState.TheVariants.{CheckedIn}
use Rattle.slots.specs.Order.{shifted}
use Rattle.slots.specs.OrderLaws.{length_shifted}
use Rattle.slots.specs.View.{Slot, vacant, with_state}
use Rattle.refinement.specs.Table.{Fresh, fresh_zero, look_at, cell, conn_in, lookup, length_without, length_set_state, one_pos, one_zero, taken_put, taken_at_most}
use Rattle.refinement.specs.Agree.{Class, Agrees, only, only_in, agrees_set}
use Rattle.refinement.specs.Mirror.{is_lent, is_pending, All, all_last, distinct_last, Mirror, mirror_put, mirror_list, mirror_front, mirror_back, in_ids, in_slots, lengths, fresh_held, same, into, out, unlisted, Listed, conn_at, view}
use Rattle.refinement.specs.Stands.{Table}
use Rattle.refinement.specs.Order.{within, holds_below, holds_above, take_front, take_rest, shifted_rest}
use Rattle.refinement.specs.Transit.{Off}

-- as many are available as are counted
view_length : (xs : List ℕ) (ss : List Slot) (order : List ℕ) (n : ℕ) (av : List Conn) → view xs ss (take n order) ≡ av → length order ≡ slot_count → n ≤ slot_count → length av ≡ n
view_length xs ss order n av e r f = ap length (sym e) ∙ simp length-map (length-take-le n order (omega arith))

module _ {xs : List ℕ} {ss : List Slot} {order : List ℕ} {n t c next : ℕ} {av le pe : List Conn} (tb : Table xs ss order n t c next av le pe) where
  pub counted : length av ≡ n
  counted = view_length xs ss order n av tb.mirror.available tb.room tb.fits

  pub at_most : t ≤ slot_count
  at_most = omega (arith, tb.holds, taken_at_most xs, tb.mirror.long_ids)

  -- slot i holds a connection of a class that has no vacant slot
  module _ (i : ℕ) (low : i < slot_count) (k : Class) (never : k 0 ≡ false) (h : k (get_or ss i vacant).state ≡ true) where
    pub held : 0 < get_or xs i 0
    held =
        by_eq (get_or xs i 0) 0
        (λ e. absurd (false≢true (sym never ∙ ap (λ (x : Slot). k x.state) (sym (tb.mirror.blank i e)) ∙ h)))
        (λ d. omega arith)

    pub seen : {l : List Conn} → Agrees k xs ss l → lookup (get_or xs i 0) l ≡ some (get_or ss i vacant)
    seen a = sym (a.finds (get_or xs i 0) held) ∙ ap (only k) (look_at (get_or xs i 0) i xs ss (lengths tb.mirror i low) tb.mirror.unique (in_ids tb.mirror i low) held refl) ∙ only_in k (get_or ss i vacant) h

    pub one_less : {l : List Conn} → Agrees k xs ss l → length (without (get_or xs i 0) l) + 1 ≡ length l
    one_less {l} a = length_without (get_or xs i 0) l (get_or ss i vacant) (seen a)

  -- ── Away from a list ───────────────────────────────────────────────────────────────────────────────────────────────────

  module _ (i : ℕ) (low : i < slot_count) where
    abbrev shut : Slot
    shut = with_state 1 0 (get_or ss i vacant)

    pub off_lent : is_lent (get_or ss i vacant).state ≡ true → Off xs ss order n t c next av (without (get_or xs i 0) le) pe i
    off_lent h =
        let k = tb.mirror in
        let w = within 2 4 (get_or ss i vacant).state h in
        let z : 0 < get_or xs i 0 = held i low is_lent refl h in
        let away : All (λ e. e ≢ i) (take n order) = unlisted k i low (λ e. omega arith) in
        let fr : Fresh xs i (get_or xs i 0) = fresh_held k i low in
        record {
          mid = shut;
          checked = refl;
          mirror = rw (set-get_or xs i 0) at (mirror_put k i low (get_or xs i 0) shut next away fr (λ e. absurd (omega arith)) (λ _. omega arith) (k.below i) (omega arith)
              (out k i low is_lent (get_or xs i 0) shut fr k.lent z (λ _. refl) (λ _. refl))
              (same k i low is_pending (get_or xs i 0) shut fr k.pending (λ _. holds_below 5 6 (get_or ss i vacant).state (omega arith)) (λ _. refl)));
          low = low;
          held = z;
          away = away;
          room = tb.room;
          fits = tb.fits;
          rest = tb.rest;
          total = omega (arith, tb.total, one_less i low is_lent refl h k.lent);
          pendings = tb.pendings;
          holds = tb.holds;
        }

    pub off_pending : is_pending (get_or ss i vacant).state ≡ true → Off xs ss order n t (c - 1) next av le (without (get_or xs i 0) pe) i
    off_pending h =
        let k = tb.mirror in
        let w = within 5 6 (get_or ss i vacant).state h in
        let z : 0 < get_or xs i 0 = held i low is_pending refl h in
        let away : All (λ e. e ≢ i) (take n order) = unlisted k i low (λ e. omega arith) in
        let fr : Fresh xs i (get_or xs i 0) = fresh_held k i low in
        record {
          mid = shut;
          checked = refl;
          mirror = rw (set-get_or xs i 0) at (mirror_put k i low (get_or xs i 0) shut next away fr (λ e. absurd (omega arith)) (λ _. omega arith) (k.below i) (omega arith)
              (same k i low is_lent (get_or xs i 0) shut fr k.lent (λ _. holds_above 2 4 (get_or ss i vacant).state (omega arith)) (λ _. refl))
              (out k i low is_pending (get_or xs i 0) shut fr k.pending z (λ _. refl) (λ _. refl)));
          low = low;
          held = z;
          away = away;
          room = tb.room;
          fits = tb.fits;
          rest = tb.rest;
          total = omega (arith, tb.total, one_less i low is_pending refl h k.pending);
          pendings = omega (arith, tb.pendings, one_less i low is_pending refl h k.pending);
          holds = tb.holds;
        }

    -- a lent one is turned, and is lent
    pub set_lent : (q : ConnectionState) (now : ℕ) → is_lent (state_no q) ≡ true → is_lent (get_or ss i vacant).state ≡ true
        → Table xs (set ss i (with_state (state_no q) now (get_or ss i vacant))) order n t c next av (set_state q now (get_or xs i 0) le) pe
    set_lent q now hq h =
        let k = tb.mirror in
        let w = within 2 4 (get_or ss i vacant).state h in
        let wq = within 2 4 (state_no q) hq in
        let z : 0 < get_or xs i 0 = held i low is_lent refl h in
        let s : Slot = with_state (state_no q) now (get_or ss i vacant) in
        let fr : Fresh xs i (get_or xs i 0) = fresh_held k i low in
        record {
          mirror = rw (set-get_or xs i 0) at (mirror_put k i low (get_or xs i 0) s next (unlisted k i low (λ e. omega arith)) fr (λ e. absurd (omega arith)) (λ _. (omega arith, omega arith)) (k.below i) (omega arith)
              (agrees_set is_lent xs ss i q now (lengths k i low) (in_ids k i low) k.unique fr z h hq k.lent)
              (same k i low is_pending (get_or xs i 0) s fr k.pending (λ _. holds_below 5 6 (get_or ss i vacant).state (omega arith)) (λ _. holds_below 5 6 (state_no q) (omega arith))));
          room = tb.room;
          fits = tb.fits;
          rest = tb.rest;
          total = omega (arith, tb.total, length_set_state q now (get_or xs i 0) le);
          pendings = tb.pendings;
          holds = tb.holds;
        }

-- the front leaves the order list
module _ {xs : List ℕ} {ss : List Slot} {order : List ℕ} (k : ℕ) {t c next : ℕ} (x : Conn) (av : List Conn) {le pe : List Conn} (tb : Table xs ss order (suc k) t c next (x ∷ av) le pe) where
  abbrev front : ℕ
  front = get_or order 0 0

  front_kept : Mirror xs ss (front ∷ take k (drop 1 order)) next (x ∷ av) le pe
  front_kept = rw (take_front order k (omega (arith, tb.room))) at tb.mirror

  pub front_is : conn_at xs ss front ≡ x
  front_is = let e = front_kept.available in cc

  front_rest : view xs ss (take k (drop 1 order)) ≡ av
  front_rest = let e = front_kept.available in cc

  pub off_front : Off xs ss (shifted (suc k) order) k t c next av le pe front
  off_front =
      let h : k < length order = omega (arith, tb.room, tb.fits) in
      record {
        mid = get_or ss front vacant;
        checked = front_kept.listed.0.2;
        mirror = rw (set-get_or ss front vacant, take_rest order k h, ← front_rest) (mirror_front front_kept);
        low = front_kept.listed.0.0;
        held = front_kept.listed.0.1;
        away = rw (take_rest order k h) front_kept.distinct.0;
        room = length_shifted (suc k) order (omega arith) h ∙ tb.room;
        fits = omega (arith, tb.fits);
        rest = shifted_rest order k h tb.rest;
        total = omega (arith, tb.total);
        pendings = tb.pendings;
        holds = tb.holds;
      }

snoc_inj : {A : Type 0} (l k : List A) (x y : A) → l ++ x ∷ [] ≡ k ++ y ∷ [] → (l ≡ k) × (x ≡ y)
snoc_inj [] [] x y e = (refl, (cc))
snoc_inj [] (b ∷ []) x y e = let z = ap length e in absurd (omega arith)
snoc_inj [] (b ∷ d ∷ k) x y e = let z = ap length e in absurd (omega arith)
snoc_inj (a ∷ []) [] x y e = let z = ap length e in absurd (omega arith)
snoc_inj (a ∷ d ∷ l) [] x y e = let z = ap length e in absurd (omega arith)
snoc_inj (a ∷ l) (b ∷ k) x y e =
    let h : a ≡ b = cc in
    let t : l ++ x ∷ [] ≡ k ++ y ∷ [] = cc in
    let r = snoc_inj l k x y t in
    let r0 = r.0 in
    ((cc), r.1)

-- the back leaves the order list
module _ {xs : List ℕ} {ss : List Slot} {order : List ℕ} (k : ℕ) {t c next : ℕ} (x : Conn) (av : List Conn) {le pe : List Conn} (tb : Table xs ss order (suc k) t c next (av ∷ʳ x) le pe) where
  abbrev back : ℕ
  back = get_or order k 0

  back_kept : Mirror xs ss (take k order ++ back ∷ []) next (av ∷ʳ x) le pe
  back_kept = rw (take-suc order k 0 (omega (arith, tb.room, tb.fits))) at tb.mirror

  back_both : (view xs ss (take k order) ≡ av) × (conn_at xs ss back ≡ x)
  back_both = snoc_inj _ _ _ _ (sym (map-append (conn_at xs ss) (take k order) (back ∷ [])) ∙ back_kept.available)

  pub back_is : conn_at xs ss back ≡ x
  back_is = back_both.1

  back_listed : Listed xs ss back
  back_listed = all_last (Listed xs ss) (take k order) back back_kept.listed

  pub off_back : Off xs ss (set order k 0) k t c next av le pe back
  off_back =
      let h : k < length order = omega (arith, tb.room, tb.fits) in
      let off : take k (set order k 0) ≡ take k order = take-set-le k order k 0 (omega arith) in
      record {
        mid = get_or ss back vacant;
        checked = back_listed.2;
        mirror = rw (set-get_or ss back vacant, off, ← back_both.0) (mirror_back back (take k order) back_kept);
        low = back_listed.0;
        held = back_listed.1;
        away = rw off (distinct_last (take k order) back back_kept.distinct);
        room = rw length-set tb.room;
        fits = omega (arith, tb.fits);
        rest = λ j g. by_eq j k (λ e. rw (e, get_or-set_same order k 0 0 h)) (λ d. get_or-set_other order k j 0 0 d ∙ tb.rest j (omega (arith, d)));
        total = omega (arith, tb.total, length-append av (x ∷ []));
        pendings = tb.pendings;
        holds = tb.holds;
      }

-- ── Into a list, or out of the pool ────────────────────────────────────────────────────────────────────────────────────

module _ {xs : List ℕ} {ss : List Slot} {order : List ℕ} {n t c next : ℕ} {av le pe : List Conn} {i : ℕ} (off : Off xs ss order n t c next av le pe i) where
  midst : get_or (set ss i off.mid) i vacant ≡ off.mid
  midst = get_or-set_same ss i off.mid vacant (rw length-set at (in_slots off.mirror i off.low))

  not_lent : is_lent (get_or (set ss i off.mid) i vacant).state ≡ false
  not_lent = rw midst (holds_below 2 4 off.mid.state (omega (arith, off.checked)))

  not_pending : is_pending (get_or (set ss i off.mid) i vacant).state ≡ false
  not_pending = rw midst (holds_below 5 6 off.mid.state (omega (arith, off.checked)))

  pub roomy : n < slot_count
  roomy = omega (arith, view_length xs (set ss i off.mid) order n av off.mirror.available off.room off.fits, off.total, off.holds, taken_at_most xs, off.mirror.long_ids)

  pub onto_nothing : Table (set xs i 0) (set ss i vacant) order n (t - 1) c next av le pe
  onto_nothing =
      let k = off.mirror in
      let low = off.low in
      let z : 0 < get_or xs i 0 = off.held in
      let fr : Fresh xs i 0 = fresh_zero xs i in
      record {
        mirror = rw (set-set ss i off.mid vacant) at (mirror_put k i low 0 vacant next off.away fr (λ _. refl) (λ y. absurd (omega arith)) (omega (arith, k.below i)) (omega arith)
            (same k i low is_lent 0 vacant fr k.lent (λ _. not_lent) (λ _. refl))
            (same k i low is_pending 0 vacant fr k.pending (λ _. not_pending) (λ _. refl)));
        room = off.room;
        fits = off.fits;
        rest = off.rest;
        total = omega (arith, off.total);
        pendings = off.pendings;
        holds = omega (arith, off.holds, taken_put xs i 0 (in_ids k i low), one_pos (get_or xs i 0) z, one_zero);
      }

  pub onto_lent : (s : Slot) (x : Conn) → s.state ≡ 2 → x.id ≡ get_or xs i 0 → cell x ≡ s → Table xs (set ss i s) order n t c next av (le ∷ʳ x) pe
  onto_lent s x h xi xs' =
      let k = off.mirror in
      let low = off.low in
      let z : 0 < get_or xs i 0 = off.held in
      let fr : Fresh xs i (get_or xs i 0) = fresh_held k i low in
      record {
        mirror = rw (set-get_or xs i 0, set-set ss i off.mid s) at (mirror_put k i low (get_or xs i 0) s next off.away fr (λ e. absurd (omega arith)) (λ _. (omega arith, omega arith)) (k.below i) (omega arith)
            (into k i low is_lent (get_or xs i 0) s fr k.lent x xi xs' z (λ _. not_lent) (ap is_lent h))
            (same k i low is_pending (get_or xs i 0) s fr k.pending (λ _. not_pending) (λ _. ap is_pending h)));
        room = off.room;
        fits = off.fits;
        rest = off.rest;
        total = rw length-append (omega (arith, off.total));
        pendings = off.pendings;
        holds = off.holds;
      }

  pub onto_back : (s : Slot) (x : Conn) → s.state ≡ 1 → x ≡ conn_in (get_or xs i 0) s CheckedIn → Table xs (set ss i s) (set order n i) (n + 1) t c next (av ∷ʳ x) le pe
  onto_back s x h e =
      let k = off.mirror in
      let low = off.low in
      let z : 0 < get_or xs i 0 = off.held in
      let fr : Fresh xs i (get_or xs i 0) = fresh_held k i low in
      let spot : n < length order = omega (arith, roomy, off.room) in
      let put = rw (set-get_or xs i 0, set-set ss i off.mid s) at (mirror_put k i low (get_or xs i 0) s next off.away fr (λ e. absurd (omega arith)) (λ _. (omega arith, omega arith)) (k.below i) (omega arith)
      (same k i low is_lent (get_or xs i 0) s fr k.lent (λ _. not_lent) (λ _. ap is_lent h))
      (same k i low is_pending (get_or xs i 0) s fr k.pending (λ _. not_pending) (λ _. ap is_pending h))) in
      let there : get_or (set ss i s) i vacant ≡ s = get_or-set_same ss i s vacant (rw length-set at (in_slots k i low)) in
      let list = rw there at (mirror_list put i low off.away z (rw there h)) in
      record {
        mirror = rw (e, add-one n, take-suc-set order n i spot) list;
        room = rw length-set off.room;
        fits = omega (arith, roomy);
        rest = λ j g. get_or-set_other order n j i 0 (λ q. omega arith) ∙ off.rest j (omega arith);
        total = rw length-append (omega (arith, off.total));
        pendings = off.pendings;
        holds = off.holds;
      }
