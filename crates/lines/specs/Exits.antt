-- One law for each exit of a line, and of the text's end: what the code knows there gives the answer.
use Rattle.std.specs.Prelude.{◌≡◌, refl, ◌⊎◌, Bool, List, ℕ, ◌≤◌, ◌<◌}
use Rattle.std.proofs.Common.{sym, arith, inl, inr, lt-ltb, le-ltb}
use Rattle.std.proofs.Math.Path.{subst}
use Rattle.definition.specs.Words.{when◌then◌else◌}
use Rattle.definition.specs.Bytes.{frame_of_line, options_of_line}
use Rattle.definition.specs.declared.Refusal.TheVariants.{Malformed}
use Rattle.slots.specs.Call.{call}
use Rattle.first_line.specs.declared.Phase.{Phase}
use Rattle.first_line.specs.declared.Phase.TheVariants.{First, Going, Ended}
use Rattle.first_line.specs.Took.{quiet}
use Rattle.first_line.specs.OnSlots.{Play, badly, options}
use Rattle.first_line.specs.Code.{Able, Lined}
use Rattle.first_line.specs.Exits.{lined_quiet}
use Rattle.frame_lines.specs.OnSlots.{answered}
use Rattle.lines.specs.OnSlots.{line_in, last_in, line_slots, last_slots}
use Rattle.lines.specs.Told.{Told}

-- ── Any line, by the phase ─────────────────────────────────────────────────────────────────────────────────────────────────

module _ (s : Play) (b : List ℕ) where
  module _ (l a : List ℕ) (s' : Play) (n : ℕ) where
    pub line_first : s.phase ≡ First → Lined (options s (options_of_line l)) b a s' n → Lined (line_slots s l) b a s' n
    unfolding line_slots
    line_first e k = subst (λ (g : Phase). Lined (line_in s g l) b a s' n) (sym e) k

    pub line_going_lem : s.phase ≡ Going → s.used < s.budget → Lined (answered s (call s.pool s.scratch (frame_of_line l))) b a s' n
        → Lined (line_slots s l) b a s' n
    unfolding line_slots when◌then◌else◌
    line_going_lem e h k =
        subst (λ (g : Phase). Lined (line_in s g l) b a s' n) (sym e)
        (subst (λ (t : Bool). Lined (when t then answered s (call s.pool s.scratch (frame_of_line l)) else quiet s) b a s' n) (sym (lt-ltb s.used s.budget h)) k)

  module _ (l : List ℕ) where
    pub line_spent : s.phase ≡ Going → s.budget ≤ s.used → Able s.phase s.pool → Lined (line_slots s l) b b s 0
    unfolding line_slots when◌then◌else◌
    line_spent e h k =
        subst (λ (g : Phase). Lined (line_in s g l) b b s 0) (sym e)
        (subst (λ (t : Bool). Lined (when t then answered s (call s.pool s.scratch (frame_of_line l)) else quiet s) b b s 0) (sym (le-ltb s.used s.budget h))
        (lined_quiet s b k))

    pub line_ended_lem : s.phase ≡ Ended → Able s.phase s.pool → Lined (line_slots s l) b b s 0
    unfolding line_slots
    line_ended_lem e k = subst (λ (g : Phase). Lined (line_in s g l) b b s 0) (sym e) (lined_quiet s b k)

  -- ── The end ────────────────────────────────────────────────────────────────────────────────────────────────────────────────

  pub end_first : (a : List ℕ) (s' : Play) (n : ℕ) → s.phase ≡ First → Lined (badly s Malformed) b a s' n → Lined (last_slots s) b a s' n
  unfolding last_slots
  end_first a s' n e k = subst (λ (g : Phase). Lined (last_in s g) b a s' n) (sym e) k

  pub end_after : (s.phase ≡ Going) ⊎ (s.phase ≡ Ended) → Able s.phase s.pool → Lined (last_slots s) b b s 0
  unfolding last_slots
  end_after (inl e) k = subst (λ (g : Phase). Lined (last_in s g) b b s 0) (sym e) (lined_quiet s b k)
  end_after (inr e) k = subst (λ (g : Phase). Lined (last_in s g) b b s 0) (sym e) (lined_quiet s b k)

-- ── What the end tells, whatever pool is lent ──────────────────────────────────────────────────────────────────────────────

module _ (s : Play) (b : List ℕ) where
  pub told_first : (a : List ℕ) (s' : Play) (n : ℕ) → s.phase ≡ First → Lined (badly s Malformed) b a s' n → Told (last_slots s) b a s' n
  unfolding last_slots
  told_first a s' n e k = subst (λ (g : Phase). Told (last_in s g) b a s' n) (sym e) (record { state = k.state; written = k.written; few = k.few; laid = k.laid })

  told_quiet : Told (quiet s) b b s 0
  told_quiet = record { state = refl; written = refl; few = omega arith; laid = refl }

  pub told_after : (s.phase ≡ Going) ⊎ (s.phase ≡ Ended) → Told (last_slots s) b b s 0
  unfolding last_slots
  told_after (inl e) = subst (λ (g : Phase). Told (last_in s g) b b s 0) (sym e) told_quiet
  told_after (inr e) = subst (λ (g : Phase). Told (last_in s g) b b s 0) (sym e) told_quiet
