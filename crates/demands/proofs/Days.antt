-- The third demand of any text of a day: its lines are calls, its log's records are the run's, and the machine's last pool is the run's.
use Rattle.std.specs.Prelude.{◌≡◌, refl, Bool, true, false, List, [], ◌∷◌, ◌++◌, ◌⊎◌, ℕ, suc, ◌+◌, ◌-◌, ◌≤◌, ◌<◌, length, take, replicate}
use Rattle.std.proofs.Common.{sym, subst, ◌∙◌, inl, inr, ltb-true, ltb-false}
use Rattle.std.proofs.Math.Path.{ap}
use Rattle.std.specs.Prelude.{Option, None as none, Some as some}
use native.Mathlib.Omega.{arith}
use Rattle.std.proofs.lemmas.List.{length-replicate}
use Rattle.std.proofs.Math.Seq.{take-nil}
use Rattle.definition.specs.Booleans.{by_bool}
use Rattle.definition.specs.Words.{when◌then◌else◌, ◌<?◌}
use Rattle.definition.specs.Pool as D
use Rattle.definition.specs.Pool.{fresh, with_defaults, in_range}
use Rattle.definition.specs.declared.Record.{Record}
use Rattle.definition.specs.Steps.{◌>>◌}
use Rattle.definition.specs.Refusals as R
use Rattle.definition.specs.Refusals.{step, after, run, enough_room, make}
use Rattle.definition.specs.Bytes.{frame_of_line, options_of_line}
use Rattle.definition.specs.Day as Day
use Rattle.definition.specs.Day.{Entry, Said, RefusedLine, entries_of, frames, lines_of, numbered, text_of, frames_used, day, bad_options, opened, chosen}
use Rattle.definition.specs.declared.Options.{Options}
use Rattle.definition.specs.declared.Refusal.{Refusal}
use Rattle.definition.specs.declared.Refusal.TheVariants.{Malformed, OptionsOutOfRange}
use Rattle.promises.proofs.Keeps.{step_written}
use Rattle.promises.specs.Calls.{stepped}
use Rattle.slots.specs.View.{SlotPool}
use Rattle.slots.specs.Call.{call}
use Rattle.refinement.specs.Alike.{fresh_slots}
use Rattle.refinement.specs.Stands.{Stands, Formed}
use Rattle.refinement.proofs.Formed.{fresh_formed, call_formed}
use Rattle.refinement.specs.Rules.{Rules}
use Rattle.refinement.proofs.Rules.{formed_rules}
use Rattle.first_line.specs.declared.Phase.{Phase}
use Rattle.first_line.specs.declared.Phase.TheVariants as phase
use Rattle.first_line.specs.Took.{Took, quiet}
use Rattle.first_line.specs.OnSlots as O
use Rattle.first_line.specs.OnSlots.{Play, begun, no_options}
use Rattle.first_line.specs.Code.{Able}
use Rattle.frame_lines.specs.OnSlots as F
use Rattle.lines.specs.OnSlots as P
use Rattle.lines.specs.OnSlots.{on_slots, line_slots, last_slots}
use Rattle.replay.specs.Whole.{lines, text_lines, slots_tame}
use Rattle.replay.specs.Lists.{Stage, Going, on_lists, start, answered, going_at}
use Rattle.replay.specs.Laying.{numbered_append}
use Rattle.replay.specs.Meaning.{Tied, Says, lines_say}
use Rattle.replay.specs.Sessions.{so_far_end}
use Rattle.replay.specs.Days.{day_whole, day_room, day_begins}
use Rattle.demands.specs.Demands.{line_calls, said_in, last_pool, Replayed, Runs, EndsAtOnce, Demand3Days}
use Rattle.demands.proofs.Calls.{kept}

-- ── The log's records are the run's ────────────────────────────────────────────────────────────────────────────────────

said_append : (xs ys : List Entry) → said_in (xs ++ ys) ≡ said_in xs ++ said_in ys
said_append [] ys = refl
said_append (Said w r ∷ xs) ys = ap (λ (es : List Entry). Said w r ∷ es) (said_append xs ys)
said_append (RefusedLine r line ∷ xs) ys = said_append xs ys

said_all : (w : ℕ) (rs : List Record) → said_in (numbered w rs) ≡ numbered w rs
unfolding numbered
said_all w [] = refl
said_all w (r ∷ rs) = ap (λ (es : List Entry). Said w r ∷ es) (said_all (w + 1) rs)

said_one : (p : D.Pool) (line : ℕ) (r : R.Result) → said_in (entries_of p line r) ≡ numbered p.written (after p r).records
unfolding numbered
said_one p line (R.Refused x) = refl
said_one p line (R.Accepted o) = said_all p.written o.records

frames_said : (ls : List (List ℕ)) (p : D.Pool) (line : ℕ) → said_in (frames p line ls) ≡ numbered p.written (run (line_calls ls) p).records
unfolding frames run ◌>>◌ numbered
frames_said [] p line = refl
frames_said (l ∷ ls) p line =
    let r = step p (frame_of_line l) enough_room in
    let n : (after p r).pool.written ≡ p.written + length (after p r).records = step_written p (frame_of_line l) enough_room r (stepped p (frame_of_line l) enough_room) in
    said_append (entries_of p line r) (frames (after p r).pool (line + 1) ls)
    ∙ ap (λ (es : List Entry). es ++ said_in (frames (after p r).pool (line + 1) ls)) (said_one p line r)
    ∙ ap (λ (es : List Entry). numbered p.written (after p r).records ++ es)
    (frames_said ls (after p r).pool (line + 1) ∙ ap (λ (k : ℕ). numbered k (run (line_calls ls) (after p r).pool).records) n)
    ∙ sym (numbered_append p.written (after p r).records (run (line_calls ls) (after p r).pool).records)

-- ── The last pool is the run's ─────────────────────────────────────────────────────────────────────────────────────────

abbrev LeavesRun : (ls : List (List ℕ)) → D.Pool → (used budget : ℕ) → Stage → Type 0
LeavesRun ls p used budget s = s ≡ Going (run (line_calls (take (budget - used) ls)) p).pool

-- no line more is taken, and none changes the pool
spent_leaves : (ls : List (List ℕ)) (p : D.Pool) (used budget : ℕ) → budget ≤ used → LeavesRun ls p used budget (Going p)
unfolding run
spent_leaves ls p used budget h = let z : budget - used ≡ 0 = omega arith in rw z

none_leaves : (p : D.Pool) (used budget : ℕ) → LeavesRun [] p used budget (Going p)
unfolding run
none_leaves p used budget = rw (take-nil (budget - used))

one_leaves : (l : List ℕ) (ls : List (List ℕ)) (p : D.Pool) (used budget : ℕ) (s : Stage) → used < budget
    → LeavesRun ls (after p (step p (frame_of_line l) enough_room)).pool (used + 1) budget s → LeavesRun (l ∷ ls) p used budget s
unfolding run ◌>>◌
one_leaves l ls p used budget s h e = let z : budget - used ≡ suc (budget - (used + 1)) = omega arith in e ∙ rw z

going_leaves : (ls : List (List ℕ)) (p : D.Pool) (used budget : ℕ) → LeavesRun ls p used budget (lines on_lists (going_at p used budget) ls).state.stage
unfolding lines when◌then◌else◌
going_leaves [] p used budget = none_leaves p used budget
going_leaves (l ∷ ls) p used budget = go (used <? budget) refl (λ q n. going_leaves ls q n budget)
  where
    go : (b : Bool) → (used <? budget) ≡ b → ((q : D.Pool) (n : ℕ) → LeavesRun ls q n budget (lines on_lists (going_at q n budget) ls).state.stage)
        → LeavesRun (l ∷ ls) p used budget
        (lines on_lists (when b then answered (going_at p used budget) p (step p (frame_of_line l) enough_room) else quiet (going_at p used budget)).state ls).state.stage
    go true e ih = one_leaves l ls p used budget _ (ltb-true used budget e) (ih _ (used + 1))
    go false e ih = ih p used ∙ sym (spent_leaves ls p used budget (ltb-false used budget e)) ∙ spent_leaves (l ∷ ls) p used budget (ltb-false used budget e)

-- what stands for a pool on lists is under way
tied_stands : (f : Phase) (p : SlotPool) (s : Stage) (m : D.Pool) → Tied f p s → s ≡ Going m → Stands p m
tied_stands f p s m t e = go f (subst (Tied f p) e t)
  where
    go : (f : Phase) → Tied f p (Going m) → Stands p m
    go phase.First t = absurd t
    go phase.Going t = t
    go phase.Ended t = absurd t

at_once : (budget : ℕ) (text : List ℕ) (r : Refusal) → day budget (lines_of text) ≡ bad_options r → EndsAtOnce budget text
unfolding Day.log_of frames_used
at_once budget text r e = record { refusal = r; log = ap (λ (d : Day.Day). text_of d.log) e; none_used = ap (λ (d : Day.Day). d.used) e }

-- ── And it keeps the rules ─────────────────────────────────────────────────────────────────────────────────────────────

abbrev AbleIn : Play → Type 0
AbleIn s = Able s.phase s.pool

options_able : (s : Play) (x : Option Options) → AbleIn (O.options s x).state
unfolding when◌then◌else◌
options_able s none = tt
options_able s (some asked) = go (in_range (with_defaults asked)) refl
  where
    go : (b : Bool) → in_range (with_defaults asked) ≡ b → AbleIn (when b then O.ready s (with_defaults asked) else O.badly s OptionsOutOfRange).state
    go true e = fresh_formed (with_defaults asked) e
    go false e = tt

line_able : (s : Play) (f : Phase) → s.phase ≡ f → Able f s.pool → (l : List ℕ) → AbleIn (P.line_in s f l).state
unfolding when◌then◌else◌
line_able s phase.First q a l = options_able s (options_of_line l)
line_able s phase.Going q a l = go (s.used <? s.budget)
  where
    go : (b : Bool) → AbleIn (when b then F.answered s (call s.pool s.scratch (frame_of_line l)) else quiet s).state
    go true = call_formed s.pool s.scratch (frame_of_line l) a
    go false = subst (λ (f : Phase). Able f s.pool) (sym q) a
line_able s phase.Ended q a l = subst (λ (f : Phase). Able f s.pool) (sym q) a

last_able : (s : Play) (f : Phase) → s.phase ≡ f → Able f s.pool → AbleIn (P.last_in s f).state
last_able s phase.First q a = tt
last_able s phase.Going q a = subst (λ (f : Phase). Able f s.pool) (sym q) a
last_able s phase.Ended q a = subst (λ (f : Phase). Able f s.pool) (sym q) a

lines_able : (ls : List (List ℕ)) (s : Play) → AbleIn s → AbleIn (lines on_slots s ls).state
unfolding lines line_slots last_slots
lines_able [] s a = last_able s s.phase refl a
lines_able (l ∷ ls) s a = lines_able ls (line_slots s l).state (line_able s s.phase refl a l)

-- under way, it is formed
tied_formed : (f : Phase) (p : SlotPool) (s : Stage) (m : D.Pool) → Tied f p s → s ≡ Going m → Able f p → Formed p
tied_formed f p s m t e a = go f (subst (Tied f p) e t) a
  where
    go : (f : Phase) → Tied f p (Going m) → Able f p → Formed p
    go phase.First t a = absurd t
    go phase.Going t a = a
    go phase.Ended t a = absurd t

module _ (budget : ℕ) (text : List ℕ) where
  -- the machine on slots, at the text's end, plays what the one on lists does
  ends : Says (lines on_slots (begun budget (fresh_slots no_options) (replicate enough_room 0)) (lines_of text)) (lines on_lists (start budget) (lines_of text))
  ends = lines_say (begun budget (fresh_slots no_options) (replicate enough_room 0)) (start budget) (lines_of text)
      (record { used = refl; budget = refl; stage = tt; room = simp length-replicate (omega arith) })

  last_lines : last_pool budget text ≡ (lines on_slots (begun budget (fresh_slots no_options) (replicate enough_room 0)) (lines_of text)).state.pool
  last_lines = ap (λ (k : Took Play ℕ). k.state.pool) (text_lines on_slots slots_tame (begun budget (fresh_slots no_options) (replicate enough_room 0)) text)

  last_stands : (m : D.Pool) → (lines on_lists (start budget) (lines_of text)).state.stage ≡ Going m → Stands (last_pool budget text) m
  last_stands m e =
      let s = (lines on_slots (begun budget (fresh_slots no_options) (replicate enough_room 0)) (lines_of text)).state in
      subst (λ (q : SlotPool). Stands q m) (sym last_lines) (tied_stands s.phase s.pool _ m ends.plays.stage e)

  last_rules : (m : D.Pool) → (lines on_lists (start budget) (lines_of text)).state.stage ≡ Going m → Rules (last_pool budget text)
  last_rules m e =
      let s₀ = begun budget (fresh_slots no_options) (replicate enough_room 0) in
      let s = (lines on_slots s₀ (lines_of text)).state in
      subst Rules (sym last_lines) (formed_rules s.pool (tied_formed s.phase s.pool _ m ends.plays.stage e (lines_able (lines_of text) s₀ tt)))

  -- ── A text, by its first line ──────────────────────────────────────────────────────────────────────────────────────────

  replayed : (room : ℕ) → Replayed budget text room
  replayed room = record {
    begins = day_begins room budget text;
    whole = day_room room budget text;
    log = λ h. (day_whole room budget text h).log;
    used = λ h. (day_whole room budget text h).used;
  }

  module _ (first : List ℕ) (rest : List (List ℕ)) (a : lines_of text ≡ first ∷ rest) (asked : Options) (b : options_of_line first ≡ some asked) where
    module _ (c : in_range (with_defaults asked) ≡ true) where
      abbrev o : Options
      o = with_defaults asked

      makes : make asked ≡ R.Made (fresh o)
      unfolding make when◌then◌else◌
      makes = rw c

      day_is : (day budget (lines_of text)).log ≡ frames (fresh o) 2 (take budget rest)
      unfolding day
      day_is = rw (a, b, makes)

      stage_is : (lines on_lists (start budget) (lines_of text)).state.stage ≡ Going (run (line_calls (take budget rest)) (fresh o)).pool
      unfolding lines
      stage_is =
          let z : budget - 0 ≡ budget = omega arith in
          rw (a, b, makes) (going_leaves rest (fresh o) 0 budget ∙ rw z)

      runs : Runs budget text
      unfolding Day.log_of
      runs = record {
        asked = asked;
        first = first;
        rest = rest;
        are_lines = a;
        is_asked = b;
        in_range_lem = c;
        log = ap text_of day_is;
        records = frames_said (take budget rest) (fresh o) 2;
        structure = last_rules _ stage_is;
        kept = kept o c (line_calls (take budget rest)) (last_pool budget text) (last_stands _ stage_is) (last_rules _ stage_is);
      }

    module _ (c : in_range (with_defaults asked) ≡ false) where
      makes_not : make asked ≡ R.NotMade OptionsOutOfRange
      unfolding make when◌then◌else◌
      makes_not = rw c

      out_of_range : EndsAtOnce budget text
      unfolding day
      out_of_range =
          at_once budget text OptionsOutOfRange
          (ap (day budget) a ∙ ap (λ (x : Option Options). chosen x budget rest) b ∙ ap (λ (x : R.Making). opened x budget rest) makes_not)

  malformed : (first : List ℕ) (rest : List (List ℕ)) → lines_of text ≡ first ∷ rest → options_of_line first ≡ none → EndsAtOnce budget text
  unfolding day
  malformed first rest a b = at_once budget text Malformed (ap (day budget) a ∙ ap (λ (x : Option Options). chosen x budget rest) b)

  no_line : lines_of text ≡ [] → EndsAtOnce budget text
  unfolding day
  no_line a = at_once budget text Malformed (ap (day budget) a)

  by_options : (first : List ℕ) (rest : List (List ℕ)) → lines_of text ≡ first ∷ rest → (x : Option Options) → options_of_line first ≡ x → Runs budget text ⊎ EndsAtOnce budget text
  by_options first rest a none b = inr (malformed first rest a b)
  by_options first rest a (some asked) b = by_bool (in_range (with_defaults asked)) (λ c. inl (runs first rest a asked b c)) (λ c. inr (out_of_range first rest a asked b c))

  by_lines : (ls : List (List ℕ)) → lines_of text ≡ ls → Runs budget text ⊎ EndsAtOnce budget text
  by_lines [] a = inr (no_line a)
  by_lines (first ∷ rest) a = by_options first rest a (options_of_line first) refl

pub demand_3_days : Demand3Days
demand_3_days budget text = record { replayed = replayed budget text; streamed = so_far_end budget text; day = by_lines budget text (lines_of text) refl }
