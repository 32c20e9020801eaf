-- A text read whole, with no bound on the output, and in calls that have as much room as they have: the two say the same.
use Rattle.std.specs.Prelude.{◌≡◌, Bool, ℕ, ◌+◌, ◌-◌, ◌≤◌, length}
use Rattle.std.proofs.Math.Path.{refl, sym, ap}
use Rattle.std.proofs.Common.{subst, ◌∙◌, arith, take-append-drop, length-append}
use Rattle.std.proofs.Math.Bool.{true, false}
use mathlib.Core.List.{List, [], ◌∷◌, ◌++◌, append_assoc, append-nil}
use borrow.Author.Tests.{ltb-true}
use Rattle.std.proofs.Math.ListN.{take, drop}
use Rattle.definition.specs.Words.{when◌then◌else◌, ◌<?◌, ◌=?◌}
use Rattle.definition.specs.Bytes.{newline}
use Rattle.first_line.specs.Took.{Took, line_room}
use Rattle.lines.specs.Machine.{Machine, thereafter}
use Rattle.pieces.specs.Feed.{View, Fed, stop, joined, emptied, push, line_at, finish, feed_in, go_on, in_true, in_false, in_nil}

module _ {S O : Type 0} (m : Machine S O) where
  -- the whole text
  unfoldable pub feed : View S → List ℕ → Fed S O
  feed v [] = stop v []
  feed v (c ∷ t) =
      when c =? newline
      then joined (line_at m v c).out (feed (emptied (line_at m v c).state) t)
      else feed (push v c) t

  abbrev pub ended : Fed S O → Took S O
  ended k = thereafter (record { state = k.view.state; out = k.out }) (finish m k.view.state k.view.held)

  -- ── In pieces ──────────────────────────────────────────────────────────────────────────────────────────────────────────

  -- a text after what was read before it
  abbrev pub and_then : Fed S O → List ℕ → Fed S O
  and_then k t = joined k.out (feed k.view t)

  joined_then : (o : List O) (k : Fed S O) (t : List ℕ) → joined o (and_then k t) ≡ and_then (joined o k) t
  joined_then o k t = rw append_assoc

  pub feed_true : (v : View S) (c : ℕ) (t : List ℕ) → c =? newline ≡ true → feed v (c ∷ t) ≡ joined (line_at m v c).out (feed (emptied (line_at m v c).state) t)
  unfolding feed when◌then◌else◌
  feed_true v c t e = rw e

  pub feed_false : (v : View S) (c : ℕ) (t : List ℕ) → c =? newline ≡ false → feed v (c ∷ t) ≡ feed (push v c) t
  unfolding feed when◌then◌else◌
  feed_false v c t e = rw e

  pub feed_nil : (v : View S) → feed v [] ≡ stop v []
  unfolding feed
  feed_nil v = refl

  append_case : (v : View S) (c : ℕ) (a b : List ℕ) (k : Bool) → c =? newline ≡ k → ((w : View S) → feed w (a ++ b) ≡ and_then (feed w a) b)
      → feed v (c ∷ (a ++ b)) ≡ and_then (feed v (c ∷ a)) b
  append_case v c a b true e ih =
      feed_true v c (a ++ b) e ∙ ap (joined (line_at m v c).out) (ih (emptied (line_at m v c).state))
      ∙ joined_then (line_at m v c).out (feed (emptied (line_at m v c).state) a) b
      ∙ ap (λ (k : Fed S O). and_then k b) (sym (feed_true v c a e))
  append_case v c a b false e ih = feed_false v c (a ++ b) e ∙ ih (push v c) ∙ ap (λ (k : Fed S O). and_then k b) (sym (feed_false v c a e))

  -- a text in two pieces
  pub feed_append : (v : View S) (a b : List ℕ) → feed v (a ++ b) ≡ and_then (feed v a) b
  feed_append v [] b = sym (ap (λ (k : Fed S O). and_then k b) (feed_nil v))
  feed_append v (c ∷ a) b = append_case v c a b (c =? newline) refl (λ w. feed_append w a b)

  -- what was read, and then the rest, is the whole
  abbrev pub Reads : View S → List ℕ → Fed S O → Type 0
  Reads v t k = feed v t ≡ and_then k k.rest

  go_reads : (room : ℕ) (v : View S) (t : List ℕ) → Reads v t (feed_in m room v t) → Reads v t (go_on m room v t)
  unfolding go_on when◌then◌else◌
  go_reads room v t w = go (room <? line_room)
    where
      go : (b : Bool) → Reads v t (when b then stop v t else feed_in m room v t)
      go true = refl
      go false = w

  in_case : (room : ℕ) (v : View S) (c : ℕ) (t : List ℕ) (b : Bool) → c =? newline ≡ b → ((r : ℕ) (w : View S) → Reads w t (feed_in m r w t))
      → Reads v (c ∷ t) (feed_in m room v (c ∷ t))
  in_case room v c t true e ih =
      let k : Fed S O = go_on m (room - length (line_at m v c).out) (emptied (line_at m v c).state) t in
      feed_true v c t e ∙ ap (joined (line_at m v c).out) (go_reads _ (emptied (line_at m v c).state) t (ih _ _))
      ∙ joined_then (line_at m v c).out k k.rest ∙ ap (λ (f : Fed S O). and_then f f.rest) (sym (in_true m room v c t e))
  in_case room v c t false e ih = feed_false v c t e ∙ ih room (push v c) ∙ ap (λ (f : Fed S O). and_then f f.rest) (sym (in_false m room v c t e))

  in_reads : (room : ℕ) (v : View S) (t : List ℕ) → Reads v t (feed_in m room v t)
  in_reads room v [] = feed_nil v ∙ sym (ap (λ (f : Fed S O). and_then f f.rest) (in_nil m room v) ∙ feed_nil v)
  in_reads room v (c ∷ t) = in_case room v c t (c =? newline) refl (λ r w. in_reads r w t)

  -- one call is a step of the whole reading
  pub some_reads : (room : ℕ) (v : View S) (t : List ℕ) → Reads v t (go_on m room v t)
  some_reads room v t = go_reads room v t (in_reads room v t)

-- a call: how much of the text that is left it is shown, and the room of its output
pub record Lend : Type 0 where
  pub shown : ℕ
  pub room : ℕ

module _ {S O : Type 0} (m : Machine S O) where
  -- calls one after the other: what a call was shown and did not read stands before what comes next
  unfoldable pub calls : List Lend → View S → List ℕ → Fed S O
  calls [] v t = stop v t
  calls (c ∷ cs) v t =
      let k = go_on m c.room v (take c.shown t) in
      joined k.out (calls cs k.view (k.rest ++ drop c.shown t))

  -- whatever the calls, what they read and then the rest is the whole
  pub calls_reads : (cs : List Lend) (v : View S) (t : List ℕ) → Reads m v t (calls cs v t)
  unfolding calls
  calls_reads [] v t = refl
  calls_reads (c ∷ cs) v t =
      let a = take c.shown t in
      let b = drop c.shown t in
      let k = go_on m c.room v a in
      let f = calls cs k.view (k.rest ++ b) in
      ap (feed m v) (sym (take-append-drop c.shown t)) ∙ feed_append m v a b ∙ ap (λ (x : Fed S O). and_then m x b) (some_reads m c.room v a)
      ∙ sym (joined_then m k.out (feed m k.view k.rest) b) ∙ ap (joined k.out) (sym (feed_append m k.view k.rest b))
      ∙ ap (joined k.out) (calls_reads cs k.view (k.rest ++ b)) ∙ joined_then m k.out f f.rest

  -- and so, where nothing is left to read, they are the reading of the whole at once
  pub calls_whole : (cs : List Lend) (v : View S) (t : List ℕ) → (calls cs v t).rest ≡ [] → feed m v t ≡ calls cs v t
  calls_whole cs v t e =
      let k = calls cs v t in
      calls_reads cs v t ∙ ap (λ (x : List ℕ). and_then m k x) e ∙ ap (joined k.out) (feed_nil m k.view) ∙ done k e
    where
      done : (k : Fed S O) → k.rest ≡ [] → joined k.out (stop k.view []) ≡ k
      done k e = rw (append-nil, ← e)

-- ── Where a call stops ─────────────────────────────────────────────────────────────────────────────────────────────────────

module _ {S O : Type 0} (m : Machine S O) where
  -- all is read, or there is no room
  abbrev Stops : ℕ → Fed S O → Type 0
  Stops room k = line_room ≤ room - length k.out → length k.rest ≡ 0

  go_stop : (room : ℕ) (v : View S) (t : List ℕ) → Stops room (feed_in m room v t) → Stops room (go_on m room v t)
  unfolding go_on when◌then◌else◌
  go_stop room v t h = go (room <? line_room) refl
    where
      go : (b : Bool) → (room <? line_room) ≡ b → Stops room (when b then stop v t else feed_in m room v t)
      go true e r = absurd (omega (arith, ltb-true room line_room e))
      go false e r = h r

  stop_one : (room : ℕ) (v : View S) (c : ℕ) (t : List ℕ) (b : Bool) → c =? newline ≡ b → ((r : ℕ) (w : View S) → Stops r (feed_in m r w t))
      → Stops room (feed_in m room v (c ∷ t))
  stop_one room v c t true e ih =
      let o = (line_at m v c).out in
      let k = go_on m (room - length o) (emptied (line_at m v c).state) t in
      let n : length (o ++ k.out) ≡ length o + length k.out = length-append o k.out in
      subst (Stops room) (sym (in_true m room v c t e)) (λ r. go_stop (room - length o) _ t (ih _ _) (omega (arith, n, r)))
  stop_one room v c t false e ih = subst (Stops room) (sym (in_false m room v c t e)) (ih room (push v c))

  in_stop : (room : ℕ) (v : View S) (t : List ℕ) → Stops room (feed_in m room v t)
  in_stop room v [] = subst (Stops room) (sym (in_nil m room v)) (λ r. refl)
  in_stop room v (c ∷ t) = stop_one room v c t (c =? newline) refl (λ r w. in_stop r w t)

  pub go_stops : (room : ℕ) (v : View S) (t : List ℕ) → line_room ≤ room - length (go_on m room v t).out → length (go_on m room v t).rest ≡ 0
  go_stops room v t r = go_stop room v t (in_stop room v t) r
