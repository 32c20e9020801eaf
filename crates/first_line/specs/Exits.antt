-- One law for each exit of an options line: what the code knows there gives the line's answer.
use Rattle.std.specs.Prelude.{◌≡◌, refl, Bool, true, false, List, ◌++◌, ℕ, length, drop}
use Rattle.std.proofs.Common.{sym, subst, ◌∙◌, arith}
use Rattle.std.proofs.Math.Path.{ap}
use Rattle.std.specs.Prelude.{Option, None as none, Some as some}
use Rattle.definition.specs.Words.{when◌then◌else◌}
use Rattle.definition.specs.Pool.{with_defaults, in_range}
use Rattle.definition.specs.Records.{log_line_length}
use Rattle.definition.specs.Bytes.{record_bytes}
use Rattle.definition.specs.Day.{RefusedLine, entry_bytes}
use Rattle.definition.specs.HexLaws.{length_line_of}
use Rattle.definition.specs.declared.Options.{Options}
use Rattle.definition.specs.declared.Refusal.{Refusal}
use Rattle.definition.specs.declared.Refusal.TheVariants.{Malformed, OptionsOutOfRange}
use Rattle.slots.specs.View.{SlotPool}
use Rattle.refinement.specs.Alike.{fresh_slots}
use Rattle.refinement.proofs.Formed.{fresh_formed}
use Rattle.first_line.specs.declared.Phase.TheVariants.{Going}
use Rattle.first_line.specs.Took.{Took, quiet}
use Rattle.first_line.specs.OnSlots.{Play, refused_line, options, ready, badly}
use Rattle.first_line.specs.Code.{Able, Lined}

-- ── One line of the log, or none ───────────────────────────────────────────────────────────────────────────────────────────

pub lined_quiet : (s : Play) (b : List ℕ) → Able s.phase s.pool → Lined (quiet s) b b s 0
lined_quiet s b a = record { state = refl; written = refl; few = omega arith; laid = refl; able = a }

pub length_refused : (r : Refusal) (line : ℕ) → length (refused_line r line) ≡ log_line_length
unfolding entry_bytes record_bytes
length_refused r line = length_line_of (entry_bytes (RefusedLine r line))

-- ── The options line ───────────────────────────────────────────────────────────────────────────────────────────────────────

module _ (s : Play) where
  pub options_malformed : {x : Option Options} → x ≡ none → options s x ≡ badly s Malformed
  options_malformed e = ap (options s) e

  pub options_out : {x : Option Options} {o : Options} → x ≡ some o → false ≡ in_range (with_defaults o) → options s x ≡ badly s OptionsOutOfRange
  unfolding when◌then◌else◌
  options_out {o = o} e f = ap (options s) e ∙ ap (λ (b : Bool). when b then ready s (with_defaults o) else badly s OptionsOutOfRange) (sym f)

  pub options_made : {x : Option Options} {o : Options} → x ≡ some o → true ≡ in_range (with_defaults o) → options s x ≡ ready s (with_defaults o)
  unfolding when◌then◌else◌
  options_made {o = o} e f = ap (options s) e ∙ ap (λ (b : Bool). when b then ready s (with_defaults o) else badly s OptionsOutOfRange) (sym f)

pub lined_bad : (s : Play) (b a : List ℕ) (why : Refusal) → a ≡ refused_line why 1 ++ drop log_line_length b
    → Lined (badly s why) b a (badly s why).state log_line_length
lined_bad s b a why h = record { state = refl; written = sym (length_refused why 1); few = omega arith; laid = h; able = tt }

module _ (s : Play) (x : Option Options) (b : List ℕ) where
  pub opens_bad : (a : List ℕ) (s' : Play) (n : ℕ) (why : Refusal) → options s x ≡ badly s why → Lined (badly s why) b a s' n → Lined (options s x) b a s' n
  opens_bad a s' n why k h = subst (λ (t : Took Play ℕ). Lined t b a s' n) (sym k) h

  pub opens_made : (o : Options) (p : SlotPool) → options s x ≡ ready s o → in_range o ≡ true → p ≡ fresh_slots o
      → Lined (options s x) b b (record { phase = Going; used = s.used; budget = s.budget; pool = p; scratch = s.scratch }) 0
  opens_made o p k f e =
      subst (λ (t : Took Play ℕ). Lined t b b (record { phase = Going; used = s.used; budget = s.budget; pool = p; scratch = s.scratch }) 0) (sym k)
      (subst (λ (q : SlotPool). Lined (ready s o) b b (record { phase = Going; used = s.used; budget = s.budget; pool = q; scratch = s.scratch }) 0) (sym e)
      (lined_quiet (ready s o).state b (fresh_formed o f)))
