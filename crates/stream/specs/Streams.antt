-- What the code says of a day that is read and written: the text fed so far, and how much of its log went out.
use Rattle.std.specs.Prelude.{◌≡◌, refl, List, [], ◌++◌, ℕ, ◌+◌, ◌≤◌, length, take}
use Rattle.std.proofs.Common.{sym, ap, ◌∙◌, arith, length-append}
use Rattle.definition.specs.Day.{log_of, frames_used}
use Rattle.first_line.specs.Took.{line_room}
use Rattle.first_line.specs.OnSlots.{Play}
use Rattle.lines.specs.OnSlots.{on_slots}
use Rattle.pieces.specs.Feed.{Fed, View, finish, joined}
use Rattle.runs.specs.declared.Session.{Session}
use Rattle.runs.specs.Code.{view_in, Ready}
use Rattle.session.specs.Code.{opening, Begins, Finishes}
use Rattle.replay.specs.Calls.{feed, feed_nil, feed_append, and_then}
use Rattle.replay.specs.Sessions.{SoFar, so_far_end}
use Rattle.sending.specs.declared.Flowed.{Flowed}
use Rattle.sending.specs.Flow.{Laws, Flows}
use Rattle.stream.specs.declared.Played.{Played}

-- from s₀ the text was fed whole, and this is its log
abbrev pub Feeds : Session → (text log : List ℕ) → Session → Type 0
Feeds s₀ text log s = feed on_slots (view_in s₀) text ≡ record { view = view_in s; out = log; rest = [] }

-- the text's end: what it lays, and the frames used
pub record Ended (s : Session) (rest : List ℕ) (used : ℕ) : Type 0 where
  pub before : List ℕ
  pub after : List ℕ
  pub n : ℕ
  pub finishes : Finishes (finish on_slots (view_in s).state (view_in s).held) before after used n
  pub laid : rest ≡ take n after

-- some text was read, as long as the count says; what went out has the length of its log, and the frames used are its own
pub record Plays (budget : ℕ) (r : Played) : Type 0 where
  pub text : List ℕ
  pub read : r.read ≡ length text
  pub sent : r.sent ≡ length (log_of budget text)
  pub used : r.used ≡ frames_used budget text

-- ── As what takes a text ───────────────────────────────────────────────────────────────────────────────────────────────────

pub feeds_more : (s : Session) (text log : List ℕ) (s' : Session) (next more : List ℕ) (s'' : Session) → Feeds s text log s' → Feeds s' next more s''
    → Feeds s (text ++ next) (log ++ more) s''
feeds_more s text log s' next more s'' f g =
    feed_append on_slots (view_in s) text next ∙ ap (λ (k : Fed Play ℕ). and_then on_slots k next) f ∙ ap (joined log) g

pub room_is_small : line_room ≤ 65536
room_is_small = omega arith

pub plays : (budget : ℕ) (s : Session) (text log : List ℕ) (s' : Session) (rest : List ℕ) (used read sent : ℕ) → Begins budget s → Feeds s text log s' → Ended s' rest used
    → read ≡ length text → sent ≡ length log + length rest → Plays budget (record { used = used; read = read; sent = sent })
plays budget s text log s' rest used read sent b f e p q =
    let t : SoFar budget text log s' = record { fed = ap (λ (v : View Play). feed on_slots v text) (sym b.view) ∙ f } in
    let w = so_far_end budget text log s' e.before e.after used e.n t e.finishes in
    record {
      text = text;
      read = p;
      sent = q ∙ ap (λ (x : List ℕ). length log + length x) e.laid ∙ sym (length-append log (take e.n e.after)) ∙ ap length w.0;
      used = w.1;
    }
