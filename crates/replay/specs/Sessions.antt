-- A session through its life: whatever pieces it is shown, what it reads and what it writes are a day and its log.
use Rattle.std.specs.Prelude.{◌≡◌, refl, Bool, List, [], ◌∷◌, ◌++◌, ℕ, zero, suc, ◌-◌, ◌≤◌, length, take, drop}
use Rattle.std.proofs.Common.{sym, ap, subst, ◌∙◌, arith, length-drop, take_at}
use Rattle.std.proofs.Math.Bool.{true, false}
use Rattle.definition.specs.Words.{when◌then◌else◌, ◌<?◌, ◌=?◌}
use Rattle.definition.specs.Bytes.{newline}
use Rattle.definition.specs.Day.{log_of, frames_used}
use Rattle.first_line.specs.Took.{Took, line_room}
use Rattle.first_line.specs.OnSlots.{Play}
use Rattle.lines.specs.Machine.{Machine}
use Rattle.lines.specs.OnSlots.{on_slots}
use Rattle.pieces.specs.Feed.{View, Fed, stop, joined, emptied, push, line_at, finish, feed_in, go_on, in_true, in_false, in_nil}
use Rattle.pieces.specs.Chunks.{in_less}
use Rattle.runs.specs.declared.Session.{Session}
use Rattle.runs.specs.Code.{view_in}
use Rattle.session.specs.Code.{opening, Begins, Went, Finishes}
use Rattle.replay.specs.Calls.{feed, feed_true, feed_false, feed_nil, feed_append, and_then, ended}
use Rattle.replay.specs.Meaning.{Writes}
use Rattle.replay.specs.Days.{opening_writes}

-- ── What a call read, read alone ───────────────────────────────────────────────────────────────────────────────────────────

module _ {S O : Type 0} (m : Machine S O) where
  abbrev alone : Fed S O → Fed S O
  alone k = record { view = k.view; out = k.out; rest = [] }

  -- where n bytes of t are read, and the rest is left
  abbrev Partly : View S → List ℕ → Fed S O → Type 0
  Partly v t k = (n : ℕ) → n ≤ length t → drop n t ≡ k.rest → feed m v (take n t) ≡ alone k

  no_part : (v : View S) (t : List ℕ) → Partly v t (stop v t)
  no_part v t zero h e = feed_nil m v
  no_part v t (suc n) h e = absurd (omega (arith, ap length e, length-drop (suc n) t))

  go_part : (room : ℕ) (v : View S) (t : List ℕ) → Partly v t (feed_in m room v t) → Partly v t (go_on m room v t)
  unfolding go_on when◌then◌else◌
  go_part room v t h = go (room <? line_room)
    where
      go : (b : Bool) → Partly v t (when b then stop v t else feed_in m room v t)
      go true = no_part v t
      go false = h

  part_case : (room : ℕ) (v : View S) (c : ℕ) (t : List ℕ) (b : Bool) → c =? newline ≡ b → ((r : ℕ) (w : View S) → Partly w t (feed_in m r w t))
      → (n : ℕ) → n ≤ length t → drop n t ≡ (feed_in m room v (c ∷ t)).rest → feed m v (c ∷ take n t) ≡ alone (feed_in m room v (c ∷ t))
  part_case room v c t true e ih n h q =
      let k : Took S O = line_at m v c in
      let g = go_part (room - length k.out) (emptied k.state) t (ih _ _) n h (q ∙ ap (λ (f : Fed S O). f.rest) (in_true m room v c t e)) in
      feed_true m v c (take n t) e ∙ ap (joined k.out) g ∙ sym (ap alone (in_true m room v c t e))
  part_case room v c t false e ih n h q =
      let g = ih room (push v c) n h (q ∙ ap (λ (f : Fed S O). f.rest) (in_false m room v c t e)) in
      feed_false m v c (take n t) e ∙ g ∙ sym (ap alone (in_false m room v c t e))

  in_part : (room : ℕ) (v : View S) (t : List ℕ) → Partly v t (feed_in m room v t)
  in_part room v [] n h e = let z : n ≡ 0 = omega arith in ap (λ (i : ℕ). feed m v (take i [])) z ∙ feed_nil m v ∙ sym (ap alone (in_nil m room v))
  in_part room v (c ∷ t) zero h e = absurd (omega (arith, ap length e, in_less m room v (c ∷ t) (omega arith)))
  in_part room v (c ∷ t) (suc n) h e = part_case room v c t (c =? newline) refl (λ r w. in_part r w t) n (omega arith) e

  some_part : (room : ℕ) (v : View S) (t : List ℕ) → Partly v t (go_on m room v t)
  some_part room v t = go_part room v t (in_part room v t)

-- a session that was fed from any view, and goes on
pub fed_more : (v : View Play) (text log : List ℕ) (s : Session) (piece before after : List ℕ) (s' : Session) (n w : ℕ)
    → feed on_slots v text ≡ record { view = view_in s; out = log; rest = [] } → Went s piece before after s' n w
    → feed on_slots v (text ++ take n piece) ≡ record { view = view_in s'; out = log ++ take w after; rest = [] }
fed_more v text log s piece before after s' n w e g =
    let r = g.read in
    let k : Fed Play ℕ = go_on on_slots (length before) (view_in s) piece in
    let o : k.out ≡ take w after = sym (ap (take w) r.laid ∙ take_at k.out (drop w before) w (sym r.written)) in
    feed_append on_slots v text (take n piece) ∙ ap (λ (f : Fed Play ℕ). and_then on_slots f (take n piece)) e
    ∙ ap (joined log) (some_part on_slots (length before) (view_in s) piece n r.within r.rest)
    ∙ ap (λ (x : View Play). record { view = x; out = log ++ k.out; rest = [] }) (sym r.view)
    ∙ ap (λ (x : List ℕ). record { view = view_in s'; out = log ++ x; rest = [] }) o

-- ── Its life ───────────────────────────────────────────────────────────────────────────────────────────────────────────────

-- the text that was read so far, and what was written
pub record SoFar (budget : ℕ) (text log : List ℕ) (s : Session) : Type 0 where
  pub fed : feed on_slots (opening budget) text ≡ record { view = view_in s; out = log; rest = [] }

pub so_far_begin : (budget : ℕ) (s : Session) → Begins budget s → SoFar budget [] [] s
so_far_begin budget s b = record { fed = feed_nil on_slots (opening budget) ∙ ap (λ (v : View Play). stop v []) (sym b.view) }

pub so_far_more : (budget : ℕ) (text log : List ℕ) (s : Session) (piece before after : List ℕ) (s' : Session) (n w : ℕ) → SoFar budget text log s
    → Went s piece before after s' n w → SoFar budget (text ++ take n piece) (log ++ take w after) s'
so_far_more budget text log s piece before after s' n w t g =
    record { fed = fed_more (opening budget) text log s piece before after s' n w t.fed g }

-- and with a whole piece, in whatever steps it was read
pub so_far_piece : (budget : ℕ) (text log : List ℕ) (s : Session) (piece out : List ℕ) (s' : Session) → SoFar budget text log s
    → feed on_slots (view_in s) piece ≡ record { view = view_in s'; out = out; rest = [] } → SoFar budget (text ++ piece) (log ++ out) s'
so_far_piece budget text log s piece out s' t e =
    record { fed = feed_append on_slots (opening budget) text piece ∙ ap (λ (f : Fed Play ℕ). and_then on_slots f piece) t.fed ∙ ap (joined log) e }

-- all that was written is the log of all that was read
pub so_far_end : (budget : ℕ) (text log : List ℕ) (s : Session) (before after : List ℕ) (u n : ℕ) → SoFar budget text log s
    → Finishes (finish on_slots (view_in s).state (view_in s).held) before after u n → (log ++ take n after ≡ log_of budget text) × (u ≡ frames_used budget text)
so_far_end budget text log s before after u n t g =
    let f : Took Play ℕ = finish on_slots (view_in s).state (view_in s).held in
    let o : take n after ≡ f.out = ap (take n) g.laid ∙ take_at f.out (drop n before) n (sym g.written) in
    let w : Writes (ended on_slots (record { view = view_in s; out = log; rest = [] })) budget text =
    subst (λ (k : Fed Play ℕ). Writes (ended on_slots k) budget text) t.fed (opening_writes budget text) in
    (ap (λ (x : List ℕ). log ++ x) o ∙ w.log, g.used ∙ w.used)
