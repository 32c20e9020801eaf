-- A long line: its first 50 bytes tell that it is malformed.
use Rattle.std.specs.Prelude.{◌≡◌, refl, Bool, true, false, List, [], ◌∷◌, ◌++◌, ℕ, zero, suc, ◌<◌, length, take, leb}
use Rattle.std.proofs.Common.{sym, ap, ◌∙◌, arith, length-take, take_all, leb-true, leb-false, ne_eqb}
use Rattle.std.specs.Prelude.{None as none}
use Rattle.definition.specs.Words.{when◌then◌else◌, ◌<?◌}
use Rattle.definition.specs.Bytes.{bytes_of, frame_of_line, options_of_line, or_bad, or_none}
use Rattle.slots.specs.Call.{call}
use Rattle.first_line.specs.declared.Phase.{Phase}
use Rattle.first_line.specs.declared.Phase.TheVariants.{First, Going, Ended}
use Rattle.first_line.specs.Took.{quiet}
use Rattle.first_line.specs.OnSlots.{Play, options}
use Rattle.frame_lines.specs.OnSlots.{answered}
use Rattle.lines.specs.OnSlots.{line_in, line_slots}
use Rattle.pieces.specs.Holds.{held_most}

no_bytes : (l : List ℕ) → (length l ≡ 49 → ⊥) → bytes_of l ≡ none
unfolding bytes_of when◌then◌else◌
no_bytes l h = rw (ne_eqb (length l) 49 h)

pub bytes_cap : (l : List ℕ) → bytes_of (take held_most l) ≡ bytes_of l
bytes_cap l = go (leb (length l) held_most) refl
  where
    go : (b : Bool) → leb (length l) held_most ≡ b → bytes_of (take held_most l) ≡ bytes_of l
    go true e = ap bytes_of (take_all held_most l (leb-true (length l) held_most e))
    go false e =
        let h : held_most < length l = leb-false (length l) held_most e in
        let n : length (take held_most l) ≡ held_most = simp length-take (omega arith) in
        no_bytes (take held_most l) (λ z. omega arith) ∙ sym (no_bytes l (λ z. omega arith))

pub frame_cap : (l : List ℕ) → frame_of_line (take held_most l) ≡ frame_of_line l
unfolding frame_of_line
frame_cap l = ap or_bad (bytes_cap l)

pub options_cap : (l : List ℕ) → options_of_line (take held_most l) ≡ options_of_line l
unfolding options_of_line
options_cap l = ap or_none (bytes_cap l)

pub cap_append : (n : ℕ) (x y : List ℕ) → take n (take n x ++ y) ≡ take n (x ++ y)
cap_append zero x y = refl
cap_append (suc n) [] y = refl
cap_append (suc n) (a ∷ x) y = ap (λ (l : List ℕ). a ∷ l) (cap_append n x y)

-- so the machine on slots may take such a line capped
phase_cap : (s : Play) (g : Phase) (l : List ℕ) → line_in s g (take held_most l) ≡ line_in s g l
phase_cap s First l = ap (options s) (options_cap l)
phase_cap s Going l = ap (λ f. when s.used <? s.budget then answered s (call s.pool s.scratch f) else quiet s) (frame_cap l)
phase_cap s Ended l = refl

pub line_cap : (s : Play) (l : List ℕ) → line_slots s (take held_most l) ≡ line_slots s l
unfolding line_slots
line_cap s l = phase_cap s s.phase l
