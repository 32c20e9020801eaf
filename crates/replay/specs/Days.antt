-- A whole day in one call: its log, where the output has room for it.
use Rattle.std.specs.Prelude.{◌≡◌, Bool, ◌&&◌, ℕ, ◌+◌, ◌-◌, ◌≤◌, drop, replicate}
use Rattle.std.proofs.Math.Path.{refl, subst}
use Rattle.std.proofs.Common.{sym, ap, ◌∙◌, arith, length-append}
use Rattle.std.proofs.Math.Bool.{true, false}
use Rattle.std.proofs.lemmas.Bool.{false≢true}
use mathlib.Core.List.{List, [], ◌++◌, append-nil, append_assoc}
use borrow.Author.Tests.{eq-eqb, eqb-true, le-leb}
use Rattle.std.proofs.Math.ListN.{length}
use Rattle.std.proofs.lemmas.List.{length-replicate}
use Rattle.definition.specs.Booleans.{and_left}
use Rattle.definition.specs.Laws.{no_length}
use Rattle.definition.specs.Words.{when◌then◌else◌, ◌=?◌, ◌≤?◌}
use Rattle.definition.specs.Day.{log_of}
use Rattle.definition.specs.Refusals.{enough_room}
use Rattle.refinement.specs.Alike.{fresh_slots}
use Rattle.first_line.specs.Took.{Took, line_room}
use Rattle.first_line.specs.OnSlots.{Play, no_options}
use Rattle.lines.specs.OnSlots.{on_slots}
use Rattle.pieces.specs.Feed.{Fed, stop, joined, go_on, finish}
use Rattle.session.specs.Code.{opening}
use Rattle.replay.specs.declared.Day.{Day}
use Rattle.replay.specs.Calls.{feed, feed_nil, and_then, ended, some_reads, go_stops}
use Rattle.replay.specs.Meaning.{Writes, feed_writes}

-- what a call says, and whether that is all
pub record Underway : Type 0 where
  pub whole : Bool
  pub took : Took Play ℕ

abbrev pub all? : (room : ℕ) → Fed Play ℕ → Bool
all? room k = (length k.rest =? 0) && (line_room ≤? room - length k.out)

abbrev pub told_of : Bool → Fed Play ℕ → Underway
told_of b k = when b then record { whole = true; took = ended on_slots k } else record { whole = false; took = record { state = k.view.state; out = k.out } }

-- the text is read as far as there is room, and ended where it is read to its end and there is room for one event more
unfoldable pub day_in : (room budget : ℕ) → (text : List ℕ) → Underway
day_in room budget text = told_of (all? room (go_on on_slots room (opening budget) text)) (go_on on_slots room (opening budget) text)

pub record Logged (t : Underway) (before after : List ℕ) (d : Day) : Type 0 where
  pub whole : d.whole ≡ t.whole
  pub used : d.used ≡ t.took.state.used
  pub written : d.written ≡ length t.took.out
  pub laid : after ≡ t.took.out ++ drop d.written before

-- ── What is said is the definition's log, where it is all ──────────────────────────────────────────────────────────────────

pub opening_writes : (budget : ℕ) (text : List ℕ) → Writes (ended on_slots (feed on_slots (opening budget) text)) budget text
opening_writes budget text = feed_writes budget (fresh_slots no_options) (replicate enough_room 0) text (simp length-replicate (omega arith))

-- one text is a beginning of another
pub record Prefix (a b : List ℕ) : Type 0 where
  pub rest : List ℕ
  pub same : a ++ rest ≡ b

all_read : (k : Fed Play ℕ) → k.rest ≡ [] → ended on_slots (and_then on_slots k k.rest) ≡ ended on_slots k
all_read k e =
    ap (λ (x : List ℕ). ended on_slots (and_then on_slots k x)) e ∙ ap (λ (f : Fed Play ℕ). ended on_slots (joined k.out f)) (feed_nil on_slots k.view)
    ∙ done k
  where
    done : (k : Fed Play ℕ) → ended on_slots (joined k.out (stop k.view [])) ≡ ended on_slots k
    done k = rw append-nil

module _ (room budget : ℕ) (text : List ℕ) where
  abbrev got : Fed Play ℕ
  got = go_on on_slots room (opening budget) text

  told_whole : (b : Bool) → all? room got ≡ b → (told_of b got).whole ≡ true → Writes (told_of b got).took budget text
  unfolding when◌then◌else◌
  told_whole true e h =
      let z : got.rest ≡ [] = no_length got.rest (eqb-true (length got.rest) 0 (and_left _ _ e)) in
      subst (λ (t : Took Play ℕ). Writes t budget text) (ap (ended on_slots) (some_reads on_slots room (opening budget) text) ∙ all_read got z)
      (opening_writes budget text)
  told_whole false e h = absurd (false≢true h)

  pub day_whole : (day_in room budget text).whole ≡ true → Writes (day_in room budget text).took budget text
  unfolding day_in
  day_whole h = told_whole (all? room got) refl h

  -- what is written, with what is still to come, is the log
  abbrev still : List ℕ
  still = (feed on_slots got.view got.rest).out ++ (finish on_slots (feed on_slots got.view got.rest).view.state (feed on_slots got.view got.rest).view.held).out

  written_then : got.out ++ still ≡ log_of budget text
  written_then =
      let f = feed on_slots got.view got.rest in
      let t = finish on_slots f.view.state f.view.held in
      sym (append_assoc got.out f.out t.out)
      ∙ ap (λ (k : Fed Play ℕ). (ended on_slots k).out) (sym (some_reads on_slots room (opening budget) text)) ∙ (opening_writes budget text).log

  written_less : length got.out ≤ length (log_of budget text)
  written_less = omega (arith, ap length written_then, length-append got.out still)

  told_begins : (b : Bool) → all? room got ≡ b → Prefix (told_of b got).took.out (log_of budget text)
  unfolding when◌then◌else◌
  told_begins true e = record { rest = []; same = append-nil _ ∙ (told_whole true e refl).log }
  told_begins false e = record { rest = still; same = written_then }

  -- with too little room, too, what is written is a beginning of the log
  pub day_begins : Prefix (day_in room budget text).took.out (log_of budget text)
  unfolding day_in
  day_begins = told_begins (all? room got) refl

  all_true : (b : Bool) → all? room got ≡ b → b ≡ true → (told_of b got).whole ≡ true
  unfolding when◌then◌else◌
  all_true true e h = refl
  all_true false e h = h

  -- room for the log and for one event more is enough
  pub day_room : length (log_of budget text) + line_room ≤ room → (day_in room budget text).whole ≡ true
  unfolding day_in
  day_room h =
      let w = written_less in
      let z : length got.rest ≡ 0 = go_stops on_slots room (opening budget) text (omega arith) in
      let e : all? room got ≡ true = rw (eq-eqb (length got.rest) 0 z, le-leb line_room (room - length got.out) (omega arith)) in
      all_true (all? room got) refl e
