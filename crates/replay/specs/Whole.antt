-- What is fed is the text's lines, one after the other.
use Rattle.std.specs.Prelude.{◌≡◌, Bool, true, false, ℕ, take}
use Rattle.std.proofs.Math.Path.{refl, sym, ap}
use Rattle.std.proofs.Common.{◌∙◌}
use mathlib.Core.List.{List, [], ◌∷◌, ◌++◌, append_assoc, append-nil}
use Rattle.std.specs.Prelude.{Option, None as none, Some as some}
use Rattle.definition.specs.Words.{when◌then◌else◌, ◌<?◌, ◌=?◌}
use Rattle.definition.specs.Pool.{with_defaults, in_range}
use Rattle.definition.specs.Bytes.{newline, frame_of_line, options_of_line}
use Rattle.definition.specs.Day.{before, lines_of}
use Rattle.definition.specs.declared.Options.{Options}
use Rattle.definition.specs.declared.Refusal.TheVariants.{OptionsOutOfRange}
use Rattle.slots.specs.Call.{call}
use Rattle.first_line.specs.declared.Phase.{Phase}
use Rattle.first_line.specs.declared.Phase.TheVariants.{First, Going, Ended}
use Rattle.first_line.specs.Took.{Took, quiet}
use Rattle.first_line.specs.OnSlots.{Play, options, ready, badly}
use Rattle.frame_lines.specs.OnSlots.{answered}
use Rattle.lines.specs.Machine.{Machine, thereafter}
use Rattle.lines.specs.OnSlots.{line_in, last_in, line_slots, last_slots, on_slots}
use Rattle.pieces.specs.Feed.{View, Fed, joined, emptied, finish}
use Rattle.pieces.specs.Holds.{held_most}
use Rattle.pieces.specs.Cap.{cap_append, line_cap}
use Rattle.replay.specs.Calls.{feed, feed_true, feed_false, feed_nil, ended}

-- lines of a text before which h stands
abbrev pub onto : List ℕ → List (List ℕ) → List (List ℕ)
onto [] ls = ls
onto (a ∷ h) [] = (a ∷ h) ∷ []
onto (a ∷ h) (l ∷ ls) = ((a ∷ h) ++ l) ∷ ls

onto_line : (h l : List ℕ) (ls : List (List ℕ)) → onto h (l ∷ ls) ≡ (h ++ l) ∷ ls
onto_line [] l ls = refl
onto_line (a ∷ h) l ls = refl

onto_before : (h : List ℕ) (c : ℕ) (ls : List (List ℕ)) → onto h (before c ls) ≡ onto (h ++ c ∷ []) ls
onto_before [] c [] = refl
onto_before [] c (l ∷ ls) = refl
onto_before (a ∷ h) c [] = refl
onto_before (a ∷ h) c (l ∷ ls) = ap (λ (x : List ℕ). (a ∷ x) ∷ ls) (sym (append_assoc h (c ∷ []) l))

-- a machine whose lines may be capped, and to which the end says nothing after a line
pub record Tame {S O : Type 0} (m : Machine S O) : Type 0 where
  pub cap : (s : S) (l : List ℕ) → m.line s (take held_most l) ≡ m.line s l
  pub over : (s : S) (l : List ℕ) → m.last (m.line s l).state ≡ quiet (m.line s l).state

module _ {S O : Type 0} (m : Machine S O) where
  unfoldable pub lines : S → List (List ℕ) → Took S O
  lines s [] = m.last s
  lines s (l ∷ ls) = thereafter (m.line s l) (lines (m.line s l).state ls)

module _ {S O : Type 0} (m : Machine S O) (tame : Tame m) where
  abbrev capped : S → List ℕ → View S
  capped s h = record { state = s; held = take held_most h }

  one_line : (s : S) (h : List ℕ) → lines m s (h ∷ []) ≡ m.line s h
  unfolding lines
  one_line s h = ap (thereafter (m.line s h)) (tame.over s h) ∙ done (m.line s h)
    where
      done : (k : Took S O) → thereafter k (quiet k.state) ≡ k
      done k = rw append-nil

  no_line : (s : S) → m.last s ≡ lines m s []
  unfolding lines
  no_line s = refl

  at_end : (s : S) (h : List ℕ) → finish m s (take held_most h) ≡ lines m s (onto h [])
  unfolding finish
  at_end s [] = no_line s
  at_end s (c ∷ h) = tame.cap s (c ∷ h) ∙ sym (one_line s (c ∷ h))

  lines_more : (s : S) (l : List ℕ) (ls : List (List ℕ)) → lines m s (l ∷ ls) ≡ thereafter (m.line s l) (lines m (m.line s l).state ls)
  unfolding lines
  lines_more s l ls = refl

  lines_true : (c : ℕ) (t : List ℕ) → c =? newline ≡ true → lines_of (c ∷ t) ≡ (c ∷ []) ∷ lines_of t
  unfolding lines_of when◌then◌else◌
  lines_true c t e = rw e

  lines_false : (c : ℕ) (t : List ℕ) → c =? newline ≡ false → lines_of (c ∷ t) ≡ before c (lines_of t)
  unfolding lines_of when◌then◌else◌
  lines_false c t e = rw e

  lines_nil : lines_of [] ≡ []
  unfolding lines_of
  lines_nil = refl

  joined_ended : (k : Took S O) (f : Fed S O) → ended m (joined k.out f) ≡ thereafter k (ended m f)
  joined_ended k f = rw append_assoc

  whole_case : (s : S) (h : List ℕ) (c : ℕ) (t : List ℕ) (b : Bool) → c =? newline ≡ b
      → ((q : S) (g : List ℕ) → ended m (feed m (capped q g) t) ≡ lines m q (onto g (lines_of t)))
      → ended m (feed m (capped s h) (c ∷ t)) ≡ lines m s (onto h (lines_of (c ∷ t)))
  whole_case s h c t true e ih =
      let l = h ++ c ∷ [] in
      let k = m.line s l in
      ap (ended m) (feed_true m (capped s h) c t e)
      ∙ ap (λ (x : Took S O). ended m (joined x.out (feed m (emptied x.state) t))) (ap (m.line s) (cap_append held_most h (c ∷ [])) ∙ tame.cap s l)
      ∙ joined_ended k (feed m (emptied k.state) t)
      ∙ ap (thereafter k) (ih k.state [])
      ∙ sym (ap (λ (x : List (List ℕ)). lines m s (onto h x)) (lines_true c t e) ∙ ap (lines m s) (onto_line h (c ∷ []) (lines_of t))
      ∙ lines_more s l (lines_of t))
  whole_case s h c t false e ih =
      ap (ended m) (feed_false m (capped s h) c t e)
      ∙ ap (λ (x : List ℕ). ended m (feed m (record { state = s; held = x }) t)) (cap_append held_most h (c ∷ []))
      ∙ ih s (h ++ c ∷ [])
      ∙ sym (ap (λ (x : List (List ℕ)). lines m s (onto h x)) (lines_false c t e) ∙ ap (lines m s) (onto_before h c (lines_of t)))

  -- any bytes after h
  pub feed_lines : (s : S) (h t : List ℕ) → ended m (feed m (capped s h) t) ≡ lines m s (onto h (lines_of t))
  feed_lines s h [] = ap (ended m) (feed_nil m (capped s h)) ∙ at_end s h ∙ sym (ap (λ (x : List (List ℕ)). lines m s (onto h x)) lines_nil)
  feed_lines s h (c ∷ t) = whole_case s h c t (c =? newline) refl (λ q g. feed_lines q g t)

  -- a whole text
  pub text_lines : (s : S) (t : List ℕ) → ended m (feed m (emptied s) t) ≡ lines m s (lines_of t)
  text_lines s t = feed_lines s [] t

-- ── The machine on slots is tame ───────────────────────────────────────────────────────────────────────────────────────────

abbrev Over : Took Play ℕ → Type 0
Over k = last_slots k.state ≡ quiet k.state

if_over : (b : Bool) (j k : Took Play ℕ) → Over j → Over k → Over (when b then j else k)
unfolding when◌then◌else◌
if_over true j k g h = g
if_over false j k g h = h

options_over : (s : Play) (x : Option Options) → Over (options s x)
unfolding last_slots
options_over s none = refl
options_over s (some o) = if_over (in_range (with_defaults o)) (ready s (with_defaults o)) (badly s OptionsOutOfRange) refl refl

quiet_over : (s : Play) (g : Phase) → s.phase ≡ g → last_in s g ≡ quiet s → Over (quiet s)
unfolding last_slots
quiet_over s g e h = ap (last_in s) e ∙ h

phase_over : (s : Play) (g : Phase) → s.phase ≡ g → (l : List ℕ) → Over (line_in s g l)
unfolding last_slots
phase_over s First e l = options_over s (options_of_line l)
phase_over s Going e l = if_over (s.used <? s.budget) (answered s (call s.pool s.scratch (frame_of_line l))) (quiet s) refl (quiet_over s Going e refl)
phase_over s Ended e l = quiet_over s Ended e refl

line_over : (s : Play) (l : List ℕ) → Over (line_slots s l)
unfolding line_slots
line_over s l = phase_over s s.phase refl l

pub slots_tame : Tame on_slots
slots_tame = record { cap = line_cap; over = line_over }
