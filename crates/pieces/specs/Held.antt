-- What is held of a line, and one law for each exit of a piece.
use Rattle.std.specs.Prelude.{◌≡◌, refl, true, false, List, [], ◌∷◌, ◌++◌, ℕ, zero, suc, ◌+◌, ◌-◌, ◌≤◌, min, length, take, drop, replicate}
use Rattle.std.proofs.Common.{sym, ap, subst, ◌∙◌, arith, drop-drop, length-take-le, eqb-true}
use Rattle.std.proofs.Math.Seq.{paste, take-append-add, take-nil}
use Rattle.std.proofs.lemmas.List.Edits.{length-paste, take-paste, drop-paste}
use Rattle.std.proofs.lemmas.List.{take-take}
use Rattle.std.proofs.lemmas.Slice.{put_mid-paste}
use Rattle.definition.specs.Laws.{no_length}
use Rattle.definition.specs.Words.{when◌then◌else◌, ◌=?◌}
use Rattle.first_line.specs.Took.{Took}
use Rattle.first_line.specs.OnSlots.{Play}
use Rattle.first_line.specs.Code.{Able, Lined}
use Rattle.lines.specs.OnSlots.{line_slots, on_slots}
use Rattle.newlines.specs.Newlines.{ends}
use Rattle.pieces.specs.Holds.{held_most, more, Holds}
use Rattle.pieces.specs.Feed.{View, Fed, stop, emptied}
use Rattle.pieces.specs.Cap.{line_cap}
use Rattle.pieces.specs.Chunks.{chunk_of, lined}
use Rattle.pieces.specs.Code.{Pieced}

-- ── What is held ───────────────────────────────────────────────────────────────────────────────────────────────────────────

take_min : (p : List ℕ) (m : ℕ) → take (min (length p) m) p ≡ take m p
take_min [] m = take-nil (min 0 m) ∙ sym (take-nil m)
take_min (c ∷ p) zero = let e : min (suc (length p)) 0 ≡ 0 = omega arith in rw e
take_min (c ∷ p) (suc m) = let e : min (suc (length p)) (suc m) ≡ suc (min (length p) m) = omega arith in rw e (ap (λ (x : List ℕ). c ∷ x) (take_min p m))

drop_replicate : (k n : ℕ) → k ≤ n → drop {A = ℕ} k (replicate n 0) ≡ replicate (n - k) 0
drop_replicate zero n h = let e : n - 0 ≡ n = omega arith in rw e
drop_replicate (suc k) zero h = absurd (omega arith)
drop_replicate (suc k) (suc n) h = let e : suc n - suc k ≡ n - k = omega arith in rw e (drop_replicate k n (omega arith))

-- m bytes of a piece are put behind those that are held
pub held_put : (b : List ℕ) (n : ℕ) (p : List ℕ) (m k : ℕ) (ys : List ℕ) → m ≡ more n p → ys ≡ take m p → k ≡ m
    → take n b ++ (ys ++ drop k (drop n b)) ≡ paste b n p (more n p)
held_put b n p m k ys e q z =
    let l : length (take m p) ≡ m = length-take-le m p (omega (arith, e)) in
    put_mid-paste n k b ys (take m p) m q (sym z) (sym l)
    ∙ ap (λ (x : List ℕ). (take n b ++ x) ++ drop (n + m) b) (take-take m m p (omega arith)) ∙ ap (paste b n p) e

module _ (b : List ℕ) (n : ℕ) (p : List ℕ) (h : Holds b n) (b' : List ℕ) (n' : ℕ) (e : n' ≡ n + more n p) (q : b' ≡ paste b n p (more n p)) where
  pub held_more : Holds b' n'
  held_more =
      let k : ℕ = more n p in
      let g : n + k ≤ length b = omega (arith, h.few, h.long) in
      let sub : held_most - n - k ≡ held_most - (n + k) = omega arith in
      let d : drop (n + k) (paste b n p k) ≡ replicate (held_most - (n + k)) 0 =
      drop-paste b n p k (omega (arith, h.few, h.long)) (omega arith) ∙ sym (drop-drop k n b) ∙ ap (drop k) h.blank
      ∙ drop_replicate k (held_most - n) (omega arith) ∙ ap (λ (i : ℕ). replicate i 0) sub in
      record {
        few = omega (arith, h.few);
        long = ap length q ∙ length-paste b n p k g (omega arith) ∙ h.long;
        blank = ap (λ (i : ℕ). drop i b') e ∙ ap (drop (n + k)) q ∙ d ∙ ap (λ (i : ℕ). replicate (held_most - i) 0) (sym e);
      }

  pub held_take : take n' b' ≡ take held_most (take n b ++ p)
  held_take =
      let l : length (take n b) ≡ n = length-take-le n b (omega (arith, h.few, h.long)) in
      let z : held_most ≡ length (take n b) + (held_most - n) = omega (arith, h.few) in
      ap (λ (i : ℕ). take i b') e ∙ ap (take (n + more n p)) q ∙ take-paste b n p (more n p) (omega (arith, h.few, h.long)) (omega arith)
      ∙ ap (λ (x : List ℕ). take n b ++ x) (take_min p (held_most - n))
      ∙ sym (ap (λ (i : ℕ). take i (take n b ++ p)) z ∙ take-append-add (take n b) p (held_most - n))

pub holds_none : Holds (replicate held_most 0) 0
holds_none = record { few = omega arith; long = refl; blank = refl }

-- ── A piece ────────────────────────────────────────────────────────────────────────────────────────────────────────────────

module _ (v : View Play) (p before : List ℕ) where
  ended_piece : ends p ≡ true → chunk_of on_slots v p ≡ lined on_slots (line_slots v.state (take held_most (v.held ++ p)))
  unfolding chunk_of when◌then◌else◌
  ended_piece e = rw e

  open_piece : ends p ≡ false → chunk_of on_slots v p ≡ stop (record { state = v.state; held = take held_most (v.held ++ p) }) []
  unfolding chunk_of when◌then◌else◌
  open_piece e = rw e

  module _ (after : List ℕ) (s' : Play) (h' : List ℕ) (w : ℕ) where
    -- the line's end, behind what is held
    pub piece_line : (l : List ℕ) → h' ≡ [] → ends p ≡ true → l ≡ take held_most (v.held ++ p) → Lined (line_slots v.state l) before after s' w
        → Pieced (chunk_of on_slots v p) before after (record { state = s'; held = h' }) w
    piece_line l z e y k =
        let q = subst (λ (x : List ℕ). Lined (line_slots v.state x) before after s' w) y k in
        subst (λ (k : Fed Play ℕ). Pieced k before after (record { state = s'; held = h' }) w) (sym (ended_piece e))
        (record {
          view = ap (λ (x : List ℕ). record { state = s'; held = x }) z ∙ ap emptied q.state;
          written = q.written;
          few = q.few;
          laid = q.laid;
          able = q.able;
        })

    -- a whole line, and nothing is held
    pub piece_quick : (length v.held =? 0) ≡ true → h' ≡ v.held → ends p ≡ true → Lined (line_slots v.state p) before after s' w
        → Pieced (chunk_of on_slots v p) before after (record { state = s'; held = h' }) w
    piece_quick t y e q =
        let z : v.held ≡ [] = no_length v.held (eqb-true (length v.held) 0 t) in
        let x : line_slots v.state (take held_most (v.held ++ p)) ≡ line_slots v.state p =
        ap (λ (t : List ℕ). line_slots v.state (take held_most (t ++ p))) z ∙ line_cap v.state p in
        piece_line (take held_most (v.held ++ p)) (y ∙ z) e refl (subst (λ (k : Took Play ℕ). Lined k before after s' w) (sym x) q)

  -- more to hold
  pub piece_held : (h' : List ℕ) → ends p ≡ false → h' ≡ take held_most (v.held ++ p) → Able v.state.phase v.state.pool
      → Pieced (chunk_of on_slots v p) before before (record { state = v.state; held = h' }) 0
  piece_held h' e z a =
      subst (λ (k : Fed Play ℕ). Pieced k before before (record { state = v.state; held = h' }) 0) (sym (open_piece e))
      (record { view = ap (λ (x : List ℕ). record { state = v.state; held = x }) z; written = refl; few = omega arith; laid = refl; able = a })
