-- A machine that takes lines is fed with bytes, in pieces of any lengths, and its output has as much room as it has.
use Rattle.std.specs.Prelude.{◌≡◌, true, false, List, [], ◌∷◌, ◌++◌, ℕ, ◌-◌, length, take}
use Rattle.std.proofs.Math.Path.{refl}
use Rattle.std.proofs.Common.{append_assoc}
use Rattle.definition.specs.Words.{when◌then◌else◌, ◌<?◌, ◌=?◌}
use Rattle.definition.specs.Bytes.{newline}
use Rattle.first_line.specs.Took.{Took, line_room}
use Rattle.lines.specs.Machine.{Machine}
use Rattle.pieces.specs.Holds.{held_most}

-- a state, and the bytes of the line that has not ended: 50 at most, since a line of more than 49 is malformed
pub record View (S : Type 0) : Type 0 where
  pub state : S
  pub held : List ℕ

-- what a reading leaves, says, and has not read
pub record Fed (S O : Type 0) : Type 0 where
  pub view : View S
  pub out : List O
  pub rest : List ℕ

module _ {S O : Type 0} where
  abbrev pub stop : View S → List ℕ → Fed S O
  stop v t = record { view = v; out = []; rest = t }

  abbrev pub joined : List O → Fed S O → Fed S O
  joined o k = record { view = k.view; out = o ++ k.out; rest = k.rest }

  pub joined_joined : (x y : List O) (k : Fed S O) → joined x (joined y k) ≡ joined (x ++ y) k
  joined_joined x y k = rw append_assoc

module _ {S : Type 0} where
  abbrev pub emptied : S → View S
  emptied s = record { state = s; held = [] }

  abbrev pub push : View S → ℕ → View S
  push v c = record { state = v.state; held = take held_most (v.held ++ c ∷ []) }

module _ {S O : Type 0} (m : Machine S O) where
  -- the line that a newline ends
  abbrev pub line_at : View S → ℕ → Took S O
  line_at v c = m.line v.state (take held_most (v.held ++ c ∷ []))

  -- the text's end
  unfoldable pub finish : S → List ℕ → Took S O
  finish s [] = m.last s
  finish s (c ∷ h) = m.line s (c ∷ h)

  -- ── As much of it as there is room for ─────────────────────────────────────────────────────────────────────────────────

  -- after a newline it stops if less than one event's room is left
  unfoldable pub feed_in : (room : ℕ) → View S → List ℕ → Fed S O
  feed_in room v [] = stop v []
  feed_in room v (c ∷ t) =
      when c =? newline
      then joined (line_at v c).out
      (when room - length (line_at v c).out <? line_room
      then stop (emptied (line_at v c).state) t
      else feed_in (room - length (line_at v c).out) (emptied (line_at v c).state) t)
      else feed_in room (push v c) t

  unfoldable pub go_on : (room : ℕ) → View S → List ℕ → Fed S O
  go_on room v t = when room <? line_room then stop v t else feed_in room v t

  pub in_true : (room : ℕ) (v : View S) (c : ℕ) (t : List ℕ) → c =? newline ≡ true
      → feed_in room v (c ∷ t) ≡ joined (line_at v c).out (go_on (room - length (line_at v c).out) (emptied (line_at v c).state) t)
  unfolding feed_in go_on when◌then◌else◌
  in_true room v c t e = rw e

  pub in_false : (room : ℕ) (v : View S) (c : ℕ) (t : List ℕ) → c =? newline ≡ false → feed_in room v (c ∷ t) ≡ feed_in room (push v c) t
  unfolding feed_in when◌then◌else◌
  in_false room v c t e = rw e

  pub in_nil : (room : ℕ) (v : View S) → feed_in room v [] ≡ stop v []
  unfolding feed_in
  in_nil room v = refl
