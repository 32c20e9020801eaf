-- What the machine on slots says is the definition's log.
use Rattle.std.specs.Prelude.{◌≡◌, Bool, List, [], ◌∷◌, ◌++◌, ℕ, ◌+◌, ◌≤◌, length}
use Rattle.std.proofs.Math.Path.{refl, ap}
use Rattle.std.proofs.Common.{sym, subst, ◌∙◌, true≢false, append_assoc, append-nil, arith, le-ltb}
use Rattle.std.proofs.Math.Bool.{true, false}
use Rattle.std.proofs.lemmas.Bool.{false≢true}
use Rattle.std.specs.Prelude.{Option, None as none, Some as some}
use Rattle.definition.specs.Words.{when◌then◌else◌, ◌<?◌}
use Rattle.definition.specs.Pool.{Pool, with_defaults, in_range, fresh}
use Rattle.definition.specs.Refusals as R
use Rattle.definition.specs.Refusals.{enough_room, room_records, make, first}
use Rattle.definition.specs.Bytes.{line_of, frame_of_line, options_of_line}
use Rattle.definition.specs.Day.{Entry, RefusedLine, entry_bytes, text_of, lines_of, log_of, frames_used}
use Rattle.definition.specs.declared.Options.{Options}
use Rattle.definition.specs.declared.Frame.{Frame}
use Rattle.definition.specs.declared.Frame.TheVariants.{Good, Bad}
use Rattle.definition.specs.declared.Refusal.{Refusal}
use Rattle.definition.specs.declared.Refusal.TheVariants.{Malformed, OptionsOutOfRange}
use Rattle.slots.specs.View.{SlotPool}
use Rattle.slots.specs.Call.{World, call}
use Rattle.slots.specs.Outcome.{Outcome}
use Rattle.std.specs.declared.result.Result.TheVariants.{Ok, Err}
use Rattle.refinement.specs.Stands.{Stands}
use Rattle.refinement.specs.Call.{Refines}
use Rattle.refinement.proofs.Call.{call_refines}
use Rattle.refinement.proofs.Formed.{fresh_stands}
use Rattle.printing.specs.Printed.{printed}
use Rattle.refinement.specs.RecordRoom.{FewIn}
use Rattle.refinement.proofs.RecordRoom.{call_few}
use Rattle.first_line.specs.declared.Phase.{Phase}
use Rattle.first_line.specs.declared.Phase.TheVariants as phase
use Rattle.first_line.specs.Took.{Took, quiet}
use Rattle.first_line.specs.OnSlots as O
use Rattle.first_line.specs.OnSlots.{Play, begun, refused_line}
use Rattle.frame_lines.specs.OnSlots as F
use Rattle.frame_lines.specs.OnSlots.{said_of}
use Rattle.lines.specs.OnSlots as P
use Rattle.lines.specs.OnSlots.{line_slots, last_slots, on_slots}
use Rattle.pieces.specs.Feed.{Fed, emptied}
use Rattle.replay.specs.Calls.{Lend, feed, ended, calls, calls_whole}
use Rattle.replay.specs.Whole.{lines, text_lines, slots_tame}
use Rattle.replay.specs.Lists as L
use Rattle.replay.specs.Lists.{Lists, Stage, First, Going, Ended, on_lists, start, day_lines}
use Rattle.replay.specs.Laying.{printed_lay, length_lay}

-- ── A state on slots stands for one on lists ───────────────────────────────────────────────────────────────────────────────

abbrev pub Tied : Phase → SlotPool → Stage → Type 0
Tied phase.First p First = Unit {0}
Tied phase.First p (Going m) = ⊥
Tied phase.First p Ended = ⊥
Tied phase.Going p First = ⊥
Tied phase.Going p (Going m) = Stands p m
Tied phase.Going p Ended = ⊥
Tied phase.Ended p First = ⊥
Tied phase.Ended p (Going m) = ⊥
Tied phase.Ended p Ended = Unit {0}

pub record Plays (s : Play) (t : Lists) : Type 0 where
  pub used : s.used ≡ t.used
  pub budget : s.budget ≡ t.budget
  pub stage : Tied s.phase s.pool t.stage
  pub room : enough_room ≤ length s.scratch

-- what is said is the text of what is said
pub record Says (a : Took Play ℕ) (b : Took Lists Entry) : Type 0 where
  pub plays : Plays a.state b.state
  pub text : a.out ≡ text_of b.out

text_one : (e : Entry) → line_of (entry_bytes e) ≡ text_of (e ∷ [])
unfolding text_of
text_one e = sym (append-nil (line_of (entry_bytes e)))

text_none : [] ≡ text_of []
unfolding text_of
text_none = refl

text_append : (a b : List Entry) → text_of (a ++ b) ≡ text_of a ++ text_of b
unfolding text_of
text_append [] b = refl
text_append (e ∷ a) b = ap (λ (x : List ℕ). line_of (entry_bytes e) ++ x) (text_append a b) ∙ sym (append_assoc (line_of (entry_bytes e)) (text_of a) (text_of b))

-- ── A frame ────────────────────────────────────────────────────────────────────────────────────────────────────────────────

-- room that is enough is as good as any
step_room : (m : Pool) (f : Frame) (room : ℕ) → enough_room ≤ room → R.step m f room ≡ R.step m f enough_room
unfolding R.step R.tests first when◌then◌else◌
step_room m Bad room h = rw (le-ltb room enough_room h)
step_room m (Good e now) room h = rw (le-ltb room enough_room h)

module _ (s : Play) (t : Lists) (m : Pool) (st : Stands s.pool m) (h : Plays s t) where
  line_number : s.used + 2 ≡ t.used + 2
  line_number = ap (λ (x : ℕ). x + 2) h.used

  one_more : s.used + 1 ≡ t.used + 1
  one_more = ap (λ (x : ℕ). x + 1) h.used

  world_says : (w : World) (r : R.Result) → Refines s.pool s.scratch w r → FewIn w.outcome → Says (F.answered s w) (L.answered t m r)
  world_says w (R.Refused x) k few =
      let e = k.refuses x refl in
      let q : Says (F.answered s (record { pool = s.pool; out = s.scratch; outcome = Err x })) (L.answered t m (R.Refused x)) =
      record {
        plays = record { used = one_more; budget = h.budget; stage = st; room = h.room };
        text = ap (refused_line x) line_number ∙ text_one (RefusedLine x (t.used + 2));
      } in
      subst (λ (v : World). Says (F.answered s v) (L.answered t m (R.Refused x))) (sym e) q
  world_says w (R.Accepted o) k few =
      let a = k.accepts o refl in
      let n : length o.records ≤ room_records = subst FewIn a.outcome few in
      let long = length_lay s.pool.serial 0 o.records s.scratch (omega (arith, h.room)) in
      record {
        plays = record { used = one_more; budget = h.budget; stage = a.pool; room = omega (arith, h.room, ap length a.out, long) };
        text = ap (λ (x : Outcome). said_of x w.out (s.used + 2)) a.outcome ∙ ap (printed (length o.records)) a.out
            ∙ printed_lay s.pool.serial m.written o.records s.scratch st.alike.serial (omega (arith, h.room));
      }

  frame_says : (f : Frame) → Says (F.answered s (call s.pool s.scratch f)) (L.answered t m (R.step m f enough_room))
  frame_says f =
      subst (λ (r : R.Result). Says (F.answered s (call s.pool s.scratch f)) (L.answered t m r)) (step_room m f (length s.scratch) h.room)
      (world_says (call s.pool s.scratch f) (R.step m f (length s.scratch)) (call_refines s.pool m st f s.scratch)
      (call_few s.pool m s.scratch f st))

-- ── Any line ───────────────────────────────────────────────────────────────────────────────────────────────────────────────

module _ (s : Play) (t : Lists) (h : Plays s t) where
  quiet_says : Says (quiet s) (quiet t)
  quiet_says = record { plays = h; text = text_none }

  bad_says : (r : Refusal) → Says (O.badly s r) (L.badly t r)
  bad_says r = record { plays = record { used = h.used; budget = h.budget; stage = tt; room = h.room }; text = text_one (RefusedLine r 1) }

  made_says : (o : Options) → Says (O.made s (with_defaults o)) (L.made t (make o))
  unfolding make when◌then◌else◌
  made_says o = go (in_range (with_defaults o)) refl
    where
      go : (b : Bool) → in_range (with_defaults o) ≡ b
          → Says (when b then O.ready s (with_defaults o) else O.badly s OptionsOutOfRange)
          (L.made t (when b then R.Made (fresh (with_defaults o)) else R.NotMade OptionsOutOfRange))
      go true e = record { plays = record { used = h.used; budget = h.budget; stage = fresh_stands (with_defaults o) e; room = h.room }; text = text_none }
      go false e = bad_says OptionsOutOfRange

  options_says : (x : Option Options) → Says (O.options s x) (L.options t x)
  options_says none = bad_says Malformed
  options_says (some o) = made_says o

  line_in_lem : (g : Phase) (k : Stage) → Tied g s.pool k → (l : List ℕ) → Says (P.line_in s g l) (L.line_in t k l)
  unfolding when◌then◌else◌
  line_in_lem phase.First First e l = options_says (options_of_line l)
  line_in_lem phase.First (Going m) e l = absurd e
  line_in_lem phase.First Ended e l = absurd e
  line_in_lem phase.Going First e l = absurd e
  line_in_lem phase.Going (Going m) st l =
      let d : (s.used <? s.budget) ≡ (t.used <? t.budget) = ap (λ (x : ℕ). x <? s.budget) h.used ∙ ap (λ (x : ℕ). t.used <? x) h.budget in
      go (s.used <? s.budget) (t.used <? t.budget) d
    where
      go : (a b : Bool) → a ≡ b
          → Says (when a then F.answered s (call s.pool s.scratch (frame_of_line l)) else quiet s)
          (when b then L.answered t m (R.step m (frame_of_line l) enough_room) else quiet t)
      go true true d = frame_says s t m st h (frame_of_line l)
      go false false d = quiet_says
      go true false d = absurd (true≢false d)
      go false true d = absurd (false≢true d)
  line_in_lem phase.Going Ended e l = absurd e
  line_in_lem phase.Ended First e l = absurd e
  line_in_lem phase.Ended (Going m) e l = absurd e
  line_in_lem phase.Ended Ended e l = quiet_says

  last_in_lem : (g : Phase) (k : Stage) → Tied g s.pool k → Says (P.last_in s g) (L.last_in t k)
  last_in_lem phase.First First e = bad_says Malformed
  last_in_lem phase.First (Going m) e = absurd e
  last_in_lem phase.First Ended e = absurd e
  last_in_lem phase.Going First e = absurd e
  last_in_lem phase.Going (Going m) e = quiet_says
  last_in_lem phase.Going Ended e = absurd e
  last_in_lem phase.Ended First e = absurd e
  last_in_lem phase.Ended (Going m) e = absurd e
  last_in_lem phase.Ended Ended e = quiet_says

  -- line by line
  pub line_says : (l : List ℕ) → Says (line_slots s l) (on_lists.line t l)
  unfolding line_slots
  line_says l = line_in_lem s.phase t.stage h.stage l

  pub last_says : Says (last_slots s) (on_lists.last t)
  unfolding last_slots
  last_says = last_in_lem s.phase t.stage h.stage

pub lines_say : (s : Play) (t : Lists) (ls : List (List ℕ)) → Plays s t → Says (lines on_slots s ls) (lines on_lists t ls)
unfolding lines
lines_say s t [] h = last_says s t h
lines_say s t (l ∷ ls) h =
    let a = line_says s t h l in
    let b = lines_say (line_slots s l).state (on_lists.line t l).state ls a.plays in
    record {
      plays = b.plays;
      text = ap (λ (x : List ℕ). x ++ (lines on_slots (line_slots s l).state ls).out) a.text
          ∙ ap (λ (x : List ℕ). text_of (on_lists.line t l).out ++ x) b.text ∙ sym (text_append _ _);
    }

-- ── The theorem ────────────────────────────────────────────────────────────────────────────────────────────────────────────

-- what is written, and the frames used, are the definition's
pub record Writes (k : Took Play ℕ) (budget : ℕ) (text : List ℕ) : Type 0 where
  pub log : k.out ≡ log_of budget text
  pub used : k.state.used ≡ frames_used budget text

lines_write : (budget : ℕ) (p : SlotPool) (l text : List ℕ) → enough_room ≤ length l → Writes (lines on_slots (begun budget p l) (lines_of text)) budget text
unfolding log_of frames_used
lines_write budget p l text h =
    let a = lines_say (begun budget p l) (start budget) (lines_of text) (record { used = refl; budget = refl; stage = tt; room = h }) in
    let d = day_lines budget (lines_of text) in
    record { log = a.text ∙ ap text_of d.log; used = a.plays.used ∙ d.used }

-- a whole text at once
pub feed_writes : (budget : ℕ) (p : SlotPool) (l text : List ℕ) → enough_room ≤ length l
    → Writes (ended on_slots (feed on_slots (emptied (begun budget p l)) text)) budget text
feed_writes budget p l text h =
    subst (λ (k : Took Play ℕ). Writes k budget text) (sym (text_lines on_slots slots_tame (begun budget p l) text)) (lines_write budget p l text h)

-- calls that read it all, whatever each is shown and whatever its room
pub calls_write : (budget : ℕ) (p : SlotPool) (l text : List ℕ) (cs : List Lend) → enough_room ≤ length l
    → (calls on_slots cs (emptied (begun budget p l)) text).rest ≡ []
    → Writes (ended on_slots (calls on_slots cs (emptied (begun budget p l)) text)) budget text
calls_write budget p l text cs h e =
    subst (λ (k : Fed Play ℕ). Writes (ended on_slots k) budget text) (calls_whole on_slots cs (emptied (begun budget p l)) text e)
    (feed_writes budget p l text h)
