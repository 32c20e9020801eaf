-- A whole day in one call: one law for each exit.
use Rattle.std.specs.Prelude.{◌≡◌, refl, Bool, List, ◌++◌, take}
use Rattle.std.proofs.Math.Path.{sym, ap, subst}
use Rattle.std.proofs.Common.{◌∙◌, arith, length-append, length-drop}
use Rattle.std.proofs.Math.Bool.{true, false}
use Prim.Native.Nat.{ℕ, ◌+◌, ◌-◌, ◌≤◌, ◌<◌}
use borrow.Author.Tests.{eq-eqb, ne_eqb, le-leb, lt-leb}
use Rattle.std.proofs.Math.ListN.{length, drop}
use Rattle.definition.specs.Booleans.{no_first, no_second}
use Rattle.definition.specs.Words.{when◌then◌else◌, ◌=?◌, ◌≤?◌}
use Rattle.big_endian.specs.Laws.{tail_more}
use Rattle.first_line.specs.Took.{Took, line_room}
use Rattle.first_line.specs.OnSlots.{Play}
use Rattle.lines.specs.OnSlots.{on_slots}
use Rattle.pieces.specs.Feed.{View, Fed, go_on, finish}
use Rattle.runs.specs.Code.{view_in, Read}
use Rattle.runs.specs.declared.Session.{Session}
use Rattle.session.specs.Code.{opening, Begins, Went, Finishes}
use Rattle.replay.specs.declared.Day.{Day}
use Rattle.replay.specs.Days.{all?, told_of, day_in, Logged}

module _ (budget : ℕ) (text o o' : List ℕ) (s₀ s : Session) (n w : ℕ) (begins : Begins budget s₀) (went : Went s₀ text o o' s n w)
    (long : length o' ≡ length o) where
  abbrev got : Fed Play ℕ
  got = go_on on_slots (length o) (opening budget) text

  reading : Read got text o o' s n w
  reading = subst (λ (v : View Play). Read (go_on on_slots (length o) v text) text o o' s n w) begins.view went.read

  left : length got.rest ≡ length text - n
  left = sym (ap length reading.rest) ∙ length-drop n text

  told : (b : Bool) (d : Day) (a : List ℕ) → all? (length o) got ≡ b → Logged (told_of b got) o a d → Logged (day_in (length o) budget text) o a d
  unfolding day_in
  told b d a e g = subst (λ (x : Bool). Logged (told_of x got) o a d) (sym e) g

  -- read to its end, and ended
  pub day_done : n ≡ length text → line_room ≤ length o' - w → (y : List ℕ) (u m : ℕ)
      → Finishes (finish on_slots (view_in s).state (view_in s).held) (take (length o' - w) (drop w o')) y u m
      → Logged (day_in (length o) budget text) o (take w o' ++ (y ++ drop (length o' - w) (drop w o'))) (record { whole = true; used = u; written = w + m })
  unfolding when◌then◌else◌
  day_done e h y u m q =
      let k = reading in
      let f : Took Play ℕ = finish on_slots got.view.state got.view.held in
      let q' : Finishes f (take (length o' - w) (drop w o')) y u m =
      subst (λ (v : View Play). Finishes (finish on_slots v.state v.held) (take (length o' - w) (drop w o')) y u m) k.view q in
      let z : length got.rest ≡ 0 = omega (arith, left) in
      let g : all? (length o) got ≡ true = rw (eq-eqb (length got.rest) 0 z, le-leb line_room (length o - length got.out) (omega (arith, k.written))) in
      told true (record { whole = true; used = u; written = w + m }) (take w o' ++ (y ++ drop (length o' - w) (drop w o'))) g
      (record {
        whole = refl;
        used = q'.used;
        written = sym (length-append got.out f.out ∙ omega (arith, k.written, q'.written));
        laid = tail_more w m got.out f.out o o' y (sym k.written) k.laid q'.laid;
      })

  abbrev part : Day
  part = record { whole = false; used = s.replayer.pace.used; written = w }

  partly : all? (length o) got ≡ false → Logged (day_in (length o) budget text) o o' part
  unfolding when◌then◌else◌
  partly g =
      let k = reading in
      told false part o' g (record { whole = refl; used = ap (λ (v : View Play). v.state.used) k.view; written = k.written; laid = k.laid })

  -- not read to its end
  pub day_left : (n ≡ length text → ⊥) → Logged (day_in (length o) budget text) o o' part
  day_left e =
      partly
      (no_first (length got.rest =? 0) (line_room ≤? length o - length got.out)
      (ne_eqb (length got.rest) 0 (λ z. e (omega (arith, left, went.within, z)))))

  -- no room to end it
  pub day_short : length o' - w < line_room → Logged (day_in (length o) budget text) o o' part
  day_short h =
      partly
      (no_second (length got.rest =? 0) (line_room ≤? length o - length got.out)
      (lt-leb line_room (length o - length got.out) (omega (arith, reading.written))))
