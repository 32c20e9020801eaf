-- Reading a text on, line by line: what holds in the middle, and one law for each way on and out.
use Rattle.std.specs.Prelude.{◌≡◌, refl, true, false, List, [], ◌++◌, ℕ, ◌+◌, ◌-◌, ◌≤◌, ◌<◌, length, take, drop}
use Rattle.std.proofs.Common.{sym, ap, subst, ◌∙◌, append-nil, arith, leb-true, leb-false, length-append, length-drop, drop-drop}
use Rattle.definition.specs.Words.{◌≤?◌}
use Rattle.big_endian.specs.Laws.{tail_more}
use Rattle.first_line.specs.Took.{line_room}
use Rattle.first_line.specs.OnSlots.{Play}
use Rattle.first_line.specs.Code.{Able}
use Rattle.lines.specs.OnSlots.{on_slots}
use Rattle.newlines.specs.Newlines.{line_len, len_positive}
use Rattle.pieces.specs.Feed.{View, Fed, stop, joined, joined_joined, go_on}
use Rattle.pieces.specs.Chunks.{chunk_of, in_chunk, go_room, go_short, go_out}
use Rattle.pieces.specs.Code.{Pieced}
use Rattle.runs.specs.declared.Session.{Session}
use Rattle.runs.specs.Code.{view_in, Ready, Read}

-- in the middle: what was said, and what is left is the reading of the rest
pub record Doing (text o₀ : List ℕ) (v₀ v : View Play) (at w : ℕ) (o : List ℕ) : Type 0 where
  pub within : at ≤ length text
  pub able : Able v.state.phase v.state.pool
  pub done : List ℕ
  pub wrote : w ≡ length done
  pub fits : w ≤ length o₀
  pub long : length o ≡ length o₀
  pub laid : o ≡ done ++ drop w o₀
  pub left : go_on on_slots (length o₀) v₀ text ≡ joined done (go_on on_slots (length o₀ - w) v (drop at text))

-- the next piece, up to e: there is more of the text, and there is room
pub record Next (text o : List ℕ) (at w e : ℕ) : Type 0 where
  pub room : line_room ≤ length o - w
  pub end : e ≡ at + line_len (drop at text)
  pub further : at < e
  pub within : e ≤ length text

pub next : (text o : List ℕ) (at w e : ℕ) → at < length text → (line_room ≤? length o - w) ≡ true → e ≡ at + line_len (drop at text) → e ≤ length text
    → Next text o at w e
next text o at w e h r q k =
    let pos : 0 < line_len (drop at text) = len_positive (drop at text) (simp length-drop (omega arith)) in
    record { room = leb-true line_room (length o - w) r; end = q; further = omega arith; within = k }

pub doing_start : (text o : List ℕ) (s : Session) → Ready s → Doing text o (view_in s) (view_in s) 0 0 o
doing_start text o s k =
    let z : length o - 0 ≡ length o = omega arith in
    record { within = omega arith; able = k; done = []; wrote = refl; fits = omega arith; long = refl; laid = refl; left = rw z }

-- a piece more
pub doing_step : (text o₀ : List ℕ) (v₀ v : View Play) (at w : ℕ) (o : List ℕ) → Doing text o₀ v₀ v at w o → (e : ℕ) → Next text o at w e
    → (y : List ℕ) (v' : View Play) (n : ℕ) → Pieced (chunk_of on_slots v (take (e - at) (drop at text))) (take (length o - w) (drop w o)) y v' n
    → Doing text o₀ v₀ v' e (w + n) (take w o ++ (y ++ drop (length o - w) (drop w o)))
doing_step text o₀ v₀ v at w o d e x y v' n p =
    let l : List ℕ = drop at text in
    let room : line_room ≤ length o₀ - w = omega (arith, x.room, d.long) in
    let m : e - at ≡ line_len l = omega (arith, x.end) in
    let pos : 0 < length l = simp length-drop (omega (arith, x.further, x.within)) in
    let k : Fed Play ℕ = chunk_of on_slots v (take (line_len l) l) in
    let p' : Pieced k (take (length o - w) (drop w o)) y v' n = rw m at p in
    let r : length o₀ - w - length k.out ≡ length o₀ - (w + n) = omega (arith, p'.written) in
    let o' : List ℕ = take w o ++ (y ++ drop (length o - w) (drop w o)) in
    let laid : o' ≡ (d.done ++ k.out) ++ drop (w + n) o₀ = tail_more w n d.done k.out o₀ o y (sym d.wrote) d.laid p'.laid in
    let wrote : w + n ≡ length (d.done ++ k.out) = simp length-append (omega (arith, d.wrote, p'.written)) in
    let fits : w + n ≤ length o₀ = omega (arith, p'.few, d.fits) in
    let f : drop (line_len l) l ≡ drop e text = drop-drop (line_len l) at text ∙ ap (λ (i : ℕ). drop i text) (sym x.end) in
    record {
      within = x.within;
      able = p.able;
      done = d.done ++ k.out;
      wrote = wrote;
      fits = fits;
      long = ap length laid ∙ length-append (d.done ++ k.out) (drop (w + n) o₀) ∙ omega (arith, length-drop (w + n) o₀);
      laid = laid;
      left = d.left ∙ ap (joined d.done) (go_room on_slots (length o₀ - w) v l room ∙ in_chunk on_slots (length o₀ - w) v l pos)
          ∙ joined_joined d.done k.out (go_on on_slots (length o₀ - w - length k.out) k.view (drop (line_len l) l))
          ∙ ap (joined (d.done ++ k.out)) (rw (r, f, p'.view));
    }

module _ (text o₀ : List ℕ) (v₀ : View Play) (s : Session) (at w : ℕ) (o : List ℕ) (d : Doing text o₀ v₀ (view_in s) at w o) where
  doing_end : go_on on_slots (length o₀ - w) (view_in s) (drop at text) ≡ stop (view_in s) (drop at text)
      → Read (go_on on_slots (length o₀) v₀ text) text o₀ o s at w
  doing_end z =
      let e : go_on on_slots (length o₀) v₀ text ≡ joined d.done (stop (view_in s) (drop at text)) = d.left ∙ ap (joined d.done) z in
      let n : d.done ≡ d.done ++ [] = sym (append-nil d.done) in
      subst (λ (k : Fed Play ℕ). Read k text o₀ o s at w) (sym e)
      (record {
        view = refl;
        ready = d.able;
        rest = refl;
        within = d.within;
        written = d.wrote ∙ ap length n;
        fits = d.fits;
        laid = d.laid ∙ ap (λ (x : List ℕ). x ++ drop w o₀) n;
      })

  -- no room for one event more
  pub doing_short : (line_room ≤? length o - w) ≡ false → Read (go_on on_slots (length o₀) v₀ text) text o₀ o s at w
  doing_short h = doing_end (go_short on_slots (length o₀ - w) (view_in s) (drop at text) (omega (arith, d.long, leb-false line_room (length o - w) h)))

  -- nothing is left to read
  pub doing_all : length text ≤ at → Read (go_on on_slots (length o₀) v₀ text) text o₀ o s at w
  doing_all h = doing_end (go_out on_slots (length o₀ - w) (view_in s) text at h)
