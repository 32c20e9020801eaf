-- One law for each function: what it calls gives its answer.
use Rattle.std.specs.Prelude.{◌≡◌, [], List, ℕ, ◌+◌, ◌-◌, ◌≤◌, ◌<◌, length, take, drop, replicate}
use Rattle.std.proofs.Common.{sym, ap, subst, ◌∙◌, arith, length-take, length-drop}
use Rattle.definition.specs.Refusals.{enough_room}
use Rattle.refinement.specs.Alike.{fresh_slots}
use Rattle.first_line.specs.Took.{Took}
use Rattle.first_line.specs.OnSlots.{Play, begun, no_options}
use Rattle.first_line.specs.Code.{play_in, Able, Lined}
use Rattle.lines.specs.OnSlots.{on_slots}
use Rattle.pieces.specs.Feed.{View, emptied, go_on}
use Rattle.runs.specs.Code.{view_in, Read}
use Rattle.runs.specs.Resumed.{read_some}
use Rattle.runs.specs.declared.Session.{Session}
use Rattle.session.specs.Code.{opening, Begins, Went, Finishes}

pub begins : (budget : ℕ) (s : Session) → play_in s.replayer ≡ begun budget (fresh_slots no_options) (replicate enough_room 0) → s.held ≡ [] → Begins budget s
begins budget s e h =
    record {
      view = ap (λ (x : Play). record { state = x; held = s.held }) e
          ∙ ap (λ (x : List ℕ). record { state = begun budget (fresh_slots no_options) (replicate enough_room 0); held = x }) h;
      ready = subst (λ (x : Play). Able x.phase x.pool) (sym e) tt;
    }

pub went : (s₀ : Session) (text before after : List ℕ) (s : Session) (n w : ℕ)
    → Read (go_on on_slots (length before) (view_in s₀) text) text before after s n w → Went s₀ text before after s n w
went s₀ text before after s n w k =
    record { read = k; ready = k.ready; within = k.within; fits = k.fits; moves = read_some (view_in s₀) text before after s n w k }

pub finishes : (k : Took Play ℕ) (before after : List ℕ) (s : Play) (n : ℕ) → Lined k before after s n → Finishes k before after s.used n
finishes k before after s n l = record { used = ap (λ (x : Play). x.used) l.state; written = l.written; few = l.few; laid = l.laid }

-- of the piece of a text from `at` up to e, some was read, and no more than there is
pub fed : (t : List ℕ) (at e n : ℕ) → at < e → e ≤ length t → n ≤ length (take (e - at) (drop at t)) → (0 < length (take (e - at) (drop at t)) → 0 < n)
    → (0 < n) × (at + n ≤ e)
fed t at e n h g k m =
    let l : length (take (e - at) (drop at t)) ≡ e - at = simp (length-take, length-drop) (omega arith) in
    (m (omega arith), omega arith)
