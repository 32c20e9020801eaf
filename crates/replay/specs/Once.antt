-- The contracts leave nothing open: two answers that one of them allows are equal.
use Rattle.std.specs.Prelude.{◌≡◌, Bool, List, ◌++◌, ℕ, ◌-◌, length, drop}
use Rattle.std.proofs.Common.{sym, ap, ◌∙◌, arith, length-drop}
use Rattle.slots.specs.View.{pool_in}
use Rattle.first_line.specs.declared.Phase.{Phase}
use Rattle.first_line.specs.declared.Pace.{Pace}
use Rattle.first_line.specs.Took.{Took}
use Rattle.first_line.specs.OnSlots.{Play}
use Rattle.first_line.specs.Code.{Lined}
use Rattle.pieces.specs.Feed.{View, Fed}
use Rattle.runs.specs.declared.Session.{Session}
use Rattle.runs.specs.Code.{view_in, Read}
use Rattle.session.specs.Code.{Finishes}
use Rattle.replay.specs.declared.Day.{Day}
use Rattle.replay.specs.Days.{Underway, Logged}

same_laid : (x b : List ℕ) {n n' : ℕ} {a a' : List ℕ} → n ≡ n' → a ≡ x ++ drop n b → a' ≡ x ++ drop n' b → a ≡ a'
same_laid x b e f g = f ∙ ap (λ (m : ℕ). x ++ drop m b) e ∙ sym g

-- take_line, finish
pub lined_once : (k : Took Play ℕ) (b : List ℕ) {a a' : List ℕ} {s s' : Play} {n n' : ℕ} → Lined k b a s n → Lined k b a' s' n' → (s ≡ s') × (n ≡ n') × (a ≡ a')
lined_once k b f g =
    let e = f.written ∙ sym g.written in
    (f.state ∙ sym g.state, e, same_laid k.out b e f.laid g.laid)

-- a session's end
pub finishes_once : (k : Took Play ℕ) (b : List ℕ) {a a' : List ℕ} {u u' n n' : ℕ} → Finishes k b a u n → Finishes k b a' u' n' → (u ≡ u') × (n ≡ n') × (a ≡ a')
finishes_once k b f g =
    let e = f.written ∙ sym g.written in
    (f.used ∙ sym g.used, e, same_laid k.out b e f.laid g.laid)

-- replay_day
same_day : (d d' : Day) → d.whole ≡ d'.whole → d.used ≡ d'.used → d.written ≡ d'.written → d ≡ d'
same_day d d' e f g =
    ap (λ (x : Bool). record { whole = x; used = d.used; written = d.written }) e
    ∙ ap (λ (x : ℕ). record { whole = d'.whole; used = x; written = d.written }) f
    ∙ ap (λ (x : ℕ). record { whole = d'.whole; used = d'.used; written = x }) g

pub logged_once : (t : Underway) (b : List ℕ) {a a' : List ℕ} (d d' : Day) → Logged t b a d → Logged t b a' d' → (d ≡ d') × (a ≡ a')
logged_once t b d d' f g =
    let e = f.written ∙ sym g.written in
    (same_day d d' (f.whole ∙ sym g.whole) (f.used ∙ sym g.used) e, same_laid t.took.out b e f.laid g.laid)

-- replay_some, and a session's going on
same_pace : (r r' : Pace) → r.phase ≡ r'.phase → r.used ≡ r'.used → r.budget ≡ r'.budget → r ≡ r'
same_pace r r' e f g =
    ap (λ (x : Phase). record { phase = x; used = r.used; budget = r.budget }) e
    ∙ ap (λ (x : ℕ). record { phase = r'.phase; used = x; budget = r.budget }) f
    ∙ ap (λ (x : ℕ). record { phase = r'.phase; used = r'.used; budget = x }) g

-- what a call leaves
pub record Same (s s' : Session) (a a' : List ℕ) (n n' w w' : ℕ) : Type 0 where
  pub pace : s.replayer.pace ≡ s'.replayer.pace
  pub pool : pool_in s.replayer.worker ≡ pool_in s'.replayer.worker
  pub scratch : s.replayer.scratch ≡ s'.replayer.scratch
  pub held : s.held ≡ s'.held
  pub out : a ≡ a'
  pub read : n ≡ n'
  pub written : w ≡ w'

pub read_once : (k : Fed Play ℕ) (text b a a' : List ℕ) (s s' : Session) (n n' w w' : ℕ) → Read k text b a s n w → Read k text b a' s' n' w'
    → Same s s' a a' n n' w w'
read_once k text b a a' s s' n n' w w' f g =
    let v : view_in s ≡ view_in s' = f.view ∙ sym g.view in
    let e = f.written ∙ sym g.written in
    let d : drop n text ≡ drop n' text = f.rest ∙ sym g.rest in
    record {
      pace =
          same_pace s.replayer.pace s'.replayer.pace (ap (λ (z : View Play). z.state.phase) v) (ap (λ (z : View Play). z.state.used) v)
          (ap (λ (z : View Play). z.state.budget) v);
      pool = ap (λ (z : View Play). z.state.pool) v;
      scratch = ap (λ (z : View Play). z.state.scratch) v;
      held = ap (λ (z : View Play). z.held) v;
      out = same_laid k.out b e f.laid g.laid;
      read = omega (arith, f.within, g.within, ap length d, length-drop n text, length-drop n' text);
      written = e;
    }
