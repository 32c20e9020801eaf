-- The machine on lists: fed with any text, in any pieces, it says the definition's log.
use Rattle.std.specs.Prelude.{◌≡◌, refl, Bool, true, false, List, [], ◌∷◌, ℕ, suc, ◌+◌, ◌-◌, ◌≤◌, ◌<◌, min, length, take}
use Rattle.std.proofs.Common.{sym, ap, ◌∙◌, arith, ltb-true, ltb-false}
use Rattle.std.specs.Prelude.{Option, None as none, Some as some}
use Rattle.std.proofs.Math.Seq.{take-nil}
use Rattle.definition.specs.Words.{when◌then◌else◌, ◌<?◌}
use Rattle.definition.specs.Pool.{Pool}
use Rattle.definition.specs.Refusals.{Result, step, after, enough_room, Making, NotMade, Made, make}
use Rattle.definition.specs.Bytes.{frame_of_line, options_of_line}
use Rattle.definition.specs.Day.{Entry, RefusedLine, entries_of, frames, Day, day, bad_options, opened, chosen, lines_of}
use Rattle.definition.specs.declared.Options.{Options}
use Rattle.definition.specs.declared.Refusal.{Refusal}
use Rattle.definition.specs.declared.Refusal.TheVariants.{Malformed}
use Rattle.first_line.specs.Took.{Took, quiet}
use Rattle.lines.specs.Machine.{Machine, thereafter}
use Rattle.pieces.specs.Feed.{emptied}
use Rattle.pieces.specs.Holds.{held_most}
use Rattle.pieces.specs.Cap.{frame_cap, options_cap}
use Rattle.replay.specs.Calls.{Lend, feed, ended, calls, calls_whole}
use Rattle.replay.specs.Whole.{Tame, lines, text_lines}

-- before the options line; with a pool; after bad options
pub data Stage : Type 0 where
  First : Stage
  Going : Pool → Stage
  Ended : Stage

pub record Lists : Type 0 where
  pub stage : Stage
  pub used : ℕ
  pub budget : ℕ

abbrev pub start : (budget : ℕ) → Lists
start budget = record { stage = First; used = 0; budget = budget }

module _ (s : Lists) where
  abbrev pub badly : Refusal → Took Lists Entry
  badly r = record { state = record { stage = Ended; used = s.used; budget = s.budget }; out = RefusedLine r 1 ∷ [] }

  abbrev pub made : Making → Took Lists Entry
  made (NotMade r) = badly r
  made (Made p) = quiet (record { stage = Going p; used = s.used; budget = s.budget })

  abbrev pub options : Option Options → Took Lists Entry
  options none = badly Malformed
  options (some o) = made (make o)

  -- the options line is line 1
  abbrev pub answered : Pool → Result → Took Lists Entry
  answered p r = record { state = record { stage = Going (after p r).pool; used = s.used + 1; budget = s.budget }; out = entries_of p (s.used + 2) r }

  abbrev pub line_in : Stage → List ℕ → Took Lists Entry
  line_in First l = options (options_of_line l)
  line_in (Going p) l = when s.used <? s.budget then answered p (step p (frame_of_line l) enough_room) else quiet s
  line_in Ended l = quiet s

  -- an empty text counts as a bad first line
  abbrev pub last_in : Stage → Took Lists Entry
  last_in First = badly Malformed
  last_in (Going p) = quiet s
  last_in Ended = quiet s

abbrev pub on_lists : Machine Lists Entry
on_lists = record { line = λ s l. line_in s s.stage l; last = λ s. last_in s s.stage }

-- ── It is tame ─────────────────────────────────────────────────────────────────────────────────────────────────────────────

stage_cap : (s : Lists) (g : Stage) (l : List ℕ) → line_in s g (take held_most l) ≡ line_in s g l
stage_cap s First l = ap (options s) (options_cap l)
stage_cap s (Going p) l = ap (λ f. when s.used <? s.budget then answered s p (step p f enough_room) else quiet s) (frame_cap l)
stage_cap s Ended l = refl

abbrev Over : Took Lists Entry → Type 0
Over k = last_in k.state k.state.stage ≡ quiet k.state

made_over : (s : Lists) (x : Making) → Over (made s x)
made_over s (NotMade r) = refl
made_over s (Made p) = refl

options_over : (s : Lists) (x : Option Options) → Over (options s x)
options_over s none = refl
options_over s (some o) = made_over s (make o)

if_over : (s : Lists) (g : Stage) (b : Bool) (k : Took Lists Entry) → Over k → Over (quiet s) → Over (when b then k else quiet s)
unfolding when◌then◌else◌
if_over s g true k h q = h
if_over s g false k h q = q

stage_over : (s : Lists) (g : Stage) → s.stage ≡ g → (l : List ℕ) → Over (line_in s g l)
stage_over s First e l = options_over s (options_of_line l)
stage_over s (Going p) e l = if_over s (Going p) (s.used <? s.budget) _ refl (ap (last_in s) e)
stage_over s Ended e l = ap (last_in s) e

pub lists_tame : Tame on_lists
lists_tame = record { cap = λ s l. stage_cap s s.stage l; over = λ s l. stage_over s s.stage refl l }

-- ── It is the definition's day ─────────────────────────────────────────────────────────────────────────────────────────────

-- what is said, and how many frames are used
pub record Gives (k : Took Lists Entry) (es : List Entry) (n : ℕ) : Type 0 where
  pub log : k.out ≡ es
  pub used : k.state.used ≡ n

abbrev pub going_at : Pool → ℕ → ℕ → Lists
going_at p used budget = record { stage = Going p; used = used; budget = budget }

abbrev line_going : Pool → ℕ → ℕ → List ℕ → Bool → Took Lists Entry
line_going p used budget l b = when b then answered (going_at p used budget) p (step p (frame_of_line l) enough_room) else quiet (going_at p used budget)

abbrev GoingGives : Pool → ℕ → ℕ → List (List ℕ) → Took Lists Entry → Type 0
GoingGives p used budget ls k = Gives k (frames p (used + 2) (take (budget - used) ls)) (used + min (budget - used) (length ls))

going_none : (p : Pool) (used budget : ℕ) → GoingGives p used budget [] (quiet (going_at p used budget))
unfolding frames
going_none p used budget = record { log = ap (frames p (used + 2)) (sym (take-nil (budget - used))); used = omega arith }

going_one : (p : Pool) (used budget : ℕ) (l : List ℕ) (ls : List (List ℕ)) (k : Took Lists Entry) → used < budget
    → GoingGives (after p (step p (frame_of_line l) enough_room)).pool (used + 1) budget ls k
    → GoingGives p used budget (l ∷ ls) (thereafter (answered (going_at p used budget) p (step p (frame_of_line l) enough_room)) k)
unfolding frames
going_one p used budget l ls k h g =
    let e : budget - used ≡ suc (budget - (used + 1)) = omega arith in
    let n : used + 1 + 2 ≡ used + 2 + 1 = omega arith in
    record { log = rw (e, g.log, n); used = g.used ∙ omega arith }

going_spent : (p : Pool) (used budget : ℕ) (l : List ℕ) (ls : List (List ℕ)) (k : Took Lists Entry) → budget ≤ used
    → GoingGives p used budget ls k → GoingGives p used budget (l ∷ ls) (thereafter (quiet (going_at p used budget)) k)
unfolding frames
going_spent p used budget l ls k h g =
    let e : budget - used ≡ 0 = omega arith in
    record { log = g.log ∙ rw e; used = g.used ∙ omega arith }

going_lines : (p : Pool) (used budget : ℕ) (ls : List (List ℕ)) → GoingGives p used budget ls (lines on_lists (going_at p used budget) ls)
unfolding lines when◌then◌else◌
going_lines p used budget [] = going_none p used budget
going_lines p used budget (l ∷ ls) = go (used <? budget) refl (λ q n. going_lines q n budget ls)
  where
    go : (b : Bool) → (used <? budget) ≡ b → ((q : Pool) (n : ℕ) → GoingGives q n budget ls (lines on_lists (going_at q n budget) ls))
        → GoingGives p used budget (l ∷ ls) (thereafter (line_going p used budget l b) (lines on_lists (line_going p used budget l b).state ls))
    go true e ih = going_one p used budget l ls _ (ltb-true used budget e) (ih _ (used + 1))
    go false e ih = going_spent p used budget l ls _ (ltb-false used budget e) (ih p used)

ended_lines : (used budget : ℕ) (ls : List (List ℕ)) → Gives (lines on_lists (record { stage = Ended; used = used; budget = budget }) ls) [] used
unfolding lines
ended_lines used budget [] = record { log = refl; used = refl }
ended_lines used budget (l ∷ ls) = record { log = (ended_lines used budget ls).log; used = (ended_lines used budget ls).used }

abbrev DayGives : Took Lists Entry → Day → Type 0
DayGives k d = Gives k d.log d.used

bad_lines : (budget : ℕ) (r : Refusal) (ls : List (List ℕ))
    → DayGives (thereafter (badly (start budget) r) (lines on_lists (badly (start budget) r).state ls)) (bad_options r)
bad_lines budget r ls = let h = ended_lines 0 budget ls in record { log = ap (λ (x : List Entry). RefusedLine r 1 ∷ x) h.log; used = h.used }

made_lines : (budget : ℕ) (x : Making) (ls : List (List ℕ))
    → DayGives (thereafter (made (start budget) x) (lines on_lists (made (start budget) x).state ls)) (opened x budget ls)
made_lines budget (NotMade r) ls = bad_lines budget r ls
made_lines budget (Made p) ls =
    let h = going_lines p 0 budget ls in
    let z : budget - 0 ≡ budget = omega arith in
    record { log = rw z at h.log; used = h.used ∙ omega arith }

options_lines : (budget : ℕ) (x : Option Options) (ls : List (List ℕ))
    → DayGives (thereafter (options (start budget) x) (lines on_lists (options (start budget) x).state ls)) (chosen x budget ls)
options_lines budget none ls = bad_lines budget Malformed ls
options_lines budget (some o) ls = made_lines budget (make o) ls

pub day_lines : (budget : ℕ) (ls : List (List ℕ)) → DayGives (lines on_lists (start budget) ls) (day budget ls)
unfolding lines day
day_lines budget [] = record { log = refl; used = refl }
day_lines budget (l ∷ ls) = options_lines budget (options_of_line l) ls

-- ── The theorems ───────────────────────────────────────────────────────────────────────────────────────────────────────────

-- a whole text, fed and ended, is the definition's day: its log, and the frames used
pub feed_whole : (budget : ℕ) (text : List ℕ) → DayGives (ended on_lists (feed on_lists (emptied (start budget)) text)) (day budget (lines_of text))
feed_whole budget text =
    let h = day_lines budget (lines_of text) in
    let e = text_lines on_lists lists_tame (start budget) text in
    record { log = ap (λ (k : Took Lists Entry). k.out) e ∙ h.log; used = ap (λ (k : Took Lists Entry). k.state.used) e ∙ h.used }

-- and so are calls that read it all, whatever each is shown and whatever its room
pub calls_day : (budget : ℕ) (text : List ℕ) (cs : List Lend) → (calls on_lists cs (emptied (start budget)) text).rest ≡ []
    → DayGives (ended on_lists (calls on_lists cs (emptied (start budget)) text)) (day budget (lines_of text))
calls_day budget text cs e = rw (calls_whole on_lists cs (emptied (start budget)) text e) at (feed_whole budget text)
