-- What the writer's exits rest on: bytes that are frames, and one law for each exit, over variables.
use Rattle.std.specs.Prelude.{◌≡◌, Bool, true, get_or}
use Rattle.std.proofs.Math.Path.{refl, ap, sym}
use Rattle.std.proofs.Common.{◌∙◌, true≢false, add-one, length-take, length-drop, eq-eqb, ne_eqb, eqb-true}
use Rattle.std.proofs.Math.Bool.{false}
use mathlib.Core.List.{List, [], ◌∷◌, ◌++◌}
use Prim.Native.Nat.{ℕ, zero, suc, ◌+◌, ◌-◌, ◌*◌, ◌/◌, ◌%◌, ◌≤◌, ◌<◌}
use native.Mathlib.Omega.{arith}
use Rattle.std.proofs.Math.ListN.{length, take, drop}
use Rattle.std.proofs.Math.Seq.{drop-drop}
use Rattle.definition.specs.Words.{when◌then◌else◌, ◌=?◌, any?}
use Rattle.definition.specs.Booleans.{by_bool}
use Rattle.definition.specs.Refusals.{malformed}
use Rattle.definition.specs.Bytes.{frame_length, options_bytes, frame_of, line_of}
use Rattle.definition.specs.Writing.{frames_count, frames_from, frames_in, options_line, event_line, event_lines, day_text, write_options, write_event, write_day}
use Rattle.definition.specs.HexLaws.{Bytes, none8, more8}
use Rattle.definition.specs.RoundTrip.{frame_read, options_length}
use Rattle.definition.specs.DayRoundTrip.{sound_first, length_options, length_event, day_length, short_first, malformed_next, all_pass}
use Rattle.definition.specs.declared.Options.{Options}
use Rattle.definition.specs.declared.Frame.{Frame}
use Rattle.definition.specs.declared.Frame.TheVariants.{Good, Bad}
use Rattle.definition.specs.declared.Refusal.TheVariants.{OutputShort, Malformed}
use Rattle.big_endian.specs.Laws.{tail_more}
use Rattle.printing.specs.Printed.{printed_by}
use Rattle.std.specs.Prelude.{Ok, Err}
use Rattle.writing.specs.Writes.{Writes}

-- ── Bytes and frames ───────────────────────────────────────────────────────────────────────────────────────────────────────

-- each is a byte, place by place
pub bytes_of : (b : List ℕ) → ((k : ℕ) → get_or b k 0 < 256) → Bytes b
bytes_of [] g = none8
bytes_of (x ∷ b) g = more8 x (g 0) (bytes_of b (λ k. g (suc k)))

pub bytes_take : {b : List ℕ} → Bytes b → (n : ℕ) → Bytes (take n b)
bytes_take none8 zero = none8
bytes_take none8 (suc n) = none8
bytes_take (more8 x h r) zero = none8
bytes_take (more8 x h r) (suc n) = more8 x h (bytes_take r n)

pub bytes_drop : {b : List ℕ} → Bytes b → (n : ℕ) → Bytes (drop n b)
bytes_drop none8 zero = none8
bytes_drop none8 (suc n) = none8
bytes_drop (more8 x h r) zero = more8 x h r
bytes_drop (more8 x h r) (suc n) = bytes_drop r n

-- of another length than 24 they are no event
pub other_length : (b : List ℕ) → (length b ≡ 24 → ⊥) → frame_of b ≡ Bad
unfolding frame_of when◌then◌else◌
other_length b n = rw (ne_eqb (length b) 24 n)

pub sound_length : (b : List ℕ) → malformed (frame_of b) ≡ false → length b ≡ 24
sound_length b h =
    by_bool (length b =? 24) (eqb-true (length b) 24) (λ t.
    absurd (true≢false (ap malformed (sym (other_length b (λ e. true≢false (sym (eq-eqb (length b) 24 e) ∙ t)))) ∙ h)))

sound_cases : (b : List ℕ) (f : Frame) → Bytes b → frame_of b ≡ f → malformed f ≡ false → event_line f ≡ line_of b
unfolding event_line
sound_cases b Bad h q s = absurd (true≢false s)
sound_cases b (Good e now) h q s = ap line_of (sym (frame_read b e now h q).same)

-- bytes that are an event are the bytes of its line
pub sound_line : (b : List ℕ) → Bytes b → malformed (frame_of b) ≡ false → event_line (frame_of b) ≡ line_of b
sound_line b h s = sound_cases b (frame_of b) h refl s

-- ── Many frames ────────────────────────────────────────────────────────────────────────────────────────────────────────────

pub count_whole : (n : ℕ) → n % 24 ≡ 0 → frames_count n ≡ n / 24
unfolding frames_count when◌then◌else◌
count_whole n h = rw (eq-eqb (n % 24) 0 h) (omega arith)

pub count_part : (n : ℕ) → (n % 24 ≡ 0 → ⊥) → frames_count n ≡ n / 24 + 1
unfolding frames_count when◌then◌else◌
count_part n h = rw (ne_eqb (n % 24) 0 h)

pub length_frames : (n : ℕ) (b : List ℕ) → length (frames_from n b) ≡ n
unfolding frames_from
length_frames zero b = refl
length_frames (suc n) b = ap suc (length_frames n (drop frame_length b))

pub length_frames_in : (b : List ℕ) → length (frames_in b) ≡ frames_count (length b)
unfolding frames_in
length_frames_in b = length_frames (frames_count (length b)) b

-- a piece that is too short is the last of them, and no event
short_last : (n : ℕ) (b : List ℕ) → length b < 24 * suc n → any? malformed (frames_from (suc n) b) ≡ true
unfolding frames_from when◌then◌else◌
short_last zero b h =
    let l : length (take 24 b) ≡ 24 → ⊥ = λ e. omega (arith, length-take 24 b, e) in
    rw (other_length (take 24 b) l)
short_last (suc n) b h =
    by_bool (malformed (frame_of (take 24 b))) (λ t. rw t)
    (λ t. rw t (short_last n (drop 24 b) (simp length-drop (omega arith))))

pub part_malformed : (b : List ℕ) → (length b % 24 ≡ 0 → ⊥) → any? malformed (frames_in b) ≡ true
unfolding frames_in
part_malformed b h =
    rw (count_part (length b) h, add-one (length b / 24)) (short_last (length b / 24) b (omega arith))

pub whole_frames : (b : List ℕ) → length b % 24 ≡ 0 → frames_in b ≡ frames_from (length b / 24) b
unfolding frames_in
whole_frames b h = rw (count_whole (length b) h)

-- frames that are all events are their lines' bytes
pub frames_printed : (n : ℕ) (b : List ℕ) → Bytes b → any? malformed (frames_from n b) ≡ false → event_lines (frames_from n b) ≡ printed_by 24 n b
unfolding frames_from event_lines printed_by
frames_printed zero b h s = refl
frames_printed (suc n) b h s =
    let f : Frame = frame_of (take 24 b) in
    let m = sound_first f (frames_from n (drop 24 b)) s in
    rw (sound_line (take 24 b) (bytes_take h 24) m.0, frames_printed n (drop 24 b) (bytes_drop h 24) m.1)

-- ── The search for what is no event ────────────────────────────────────────────────────────────────────────────────────────

-- before turn i: none of the first i, so what holds of all holds of the others
pub record Looking (b : List ℕ) (n i : ℕ) : Type 0 where
  pub low : i ≤ n
  pub same : any? malformed (frames_from n b) ≡ any? malformed (frames_from (n - i) (drop (24 * i) b))

pub looking_start : (b : List ℕ) (n : ℕ) → Looking b n 0
looking_start b n = let z : n - 0 ≡ n = omega arith in record { low = omega arith; same = rw z }

module _ (b : List ℕ) (n i : ℕ) (e : Looking b n i) where
  -- m is the answer of the test of frame i, which was lent as k bytes
  module _ (m : Bool) (k : ℕ) (f : Frame) (h : i < n) (z : k ≡ 24) (q : f ≡ frame_of (take k (drop (i * 24) b))) (a : m ≡ malformed f) where
    next : any? malformed (frames_from n b) ≡ (when m then true else any? malformed (frames_from (n - (i + 1)) (drop (24 * (i + 1)) b)))
    unfolding frames_from
    next =
        let j : n - i ≡ suc (n - (i + 1)) = omega arith in
        let x : 24 * i + 24 ≡ 24 * (i + 1) = omega arith in
        let d : drop 24 (drop (24 * i) b) ≡ drop (24 * (i + 1)) b = drop-drop 24 (24 * i) b ∙ ap (λ (t : ℕ). drop t b) x in
        let y : i * 24 ≡ 24 * i = omega arith in
        e.same ∙ rw (j, d, a, q, z, y)

    pub looking_found : m ≡ true → true ≡ any? malformed (frames_from n b)
    unfolding when◌then◌else◌
    looking_found t = sym (next ∙ rw t)

    pub looking_more : m ≡ false → Looking b n (i + 1)
    unfolding when◌then◌else◌
    looking_more t = record { low = omega arith; same = next ∙ rw t }

  pub looking_end : n ≤ i → false ≡ any? malformed (frames_from n b)
  unfolding frames_from
  looking_end h = let z : n - i ≡ 0 = omega arith in sym (e.same ∙ rw z)

-- ── A line written ─────────────────────────────────────────────────────────────────────────────────────────────────────────

module _ (o : Options) (l : List ℕ) where
  pub options_short : length l < 49 → Writes (write_options (length l) o) l (Err OutputShort) l
  unfolding write_options
  options_short h = rw (short_first (length l) 1 [] h) (record { answer = refl; out = refl })

  pub options_laid : (b x : List ℕ) → 49 ≤ length l → b ≡ options_bytes o → x ≡ line_of b ++ drop (2 * length b + 1) l
      → Writes (write_options (length l) o) l (Ok 49) x
  unfolding write_options options_line
  options_laid b x h e q =
      let n : length (line_of (options_bytes o)) ≡ 49 = length_options o in
      let m : 2 * length (options_bytes o) + 1 ≡ 49 = omega (arith, options_length o) in
      rw (all_pass (length l) 1 [] h refl) (record { answer = ap Ok (sym n); out = q ∙ rw (e, m, n) })

-- a frame alone
pub one_alone : (f : Frame) → any? malformed (f ∷ []) ≡ malformed f
unfolding when◌then◌else◌
one_alone f = by_bool (malformed f) (λ t. rw t) (λ t. rw t)

module _ (f : Frame) (l : List ℕ) where
  pub event_short : length l < 49 → Writes (write_event (length l) f) l (Err OutputShort) l
  unfolding write_event
  event_short h = rw (short_first (length l) 1 (f ∷ []) h) (record { answer = refl; out = refl })

  pub event_malformed : 49 ≤ length l → malformed f ≡ true → Writes (write_event (length l) f) l (Err Malformed) l
  unfolding write_event
  event_malformed h t = rw (malformed_next (length l) 1 (f ∷ []) h (one_alone f ∙ t)) (record { answer = refl; out = refl })

  event_written : (x : List ℕ) → 49 ≤ length l → malformed f ≡ false → x ≡ event_line f ++ drop 49 l → Writes (write_event (length l) f) l (Ok 49) x
  unfolding write_event
  event_written x h t q =
      let n : length (event_line f) ≡ 49 = length_event f t in
      rw (all_pass (length l) 1 (f ∷ []) h (one_alone f ∙ t)) (record { answer = ap Ok (sym n); out = q ∙ rw n })

pub event_laid : (b l x : List ℕ) → ((k : ℕ) → get_or b k 0 < 256) → 49 ≤ length l → malformed (frame_of b) ≡ false → x ≡ line_of b ++ drop (2 * length b + 1) l
    → Writes (write_event (length l) (frame_of b)) l (Ok 49) x
event_laid b l x g h t q =
    let m : 2 * length b + 1 ≡ 49 = omega (arith, sound_length b t) in
    event_written (frame_of b) l x h t (q ∙ ap (λ (j : ℕ). line_of b ++ drop j l) m ∙ ap (λ (y : List ℕ). y ++ drop 49 l) (sym (sound_line b (bytes_of b g) t)))

-- ── A day written ──────────────────────────────────────────────────────────────────────────────────────────────────────────

-- c is the count of the frames
module _ (o : Options) (b l : List ℕ) (c : ℕ) (e : c ≡ frames_count (length b)) where
  pub day_short : length l / 49 ≤ c → Writes (write_day (length l) o (frames_in b)) l (Err OutputShort) l
  unfolding write_day
  day_short h =
      let s : length l < 49 * (length (frames_in b) + 1) = omega (arith, length_frames_in b) in
      rw (short_first (length l) (length (frames_in b) + 1) (frames_in b) s) (record { answer = refl; out = refl })

  module _ (h : c < length l / 49) where
    room : 49 * (length (frames_in b) + 1) ≤ length l
    room = omega (arith, length_frames_in b)

    pub day_malformed : any? malformed (frames_in b) ≡ true → Writes (write_day (length l) o (frames_in b)) l (Err Malformed) l
    unfolding write_day
    day_malformed t = rw (malformed_next (length l) (length (frames_in b) + 1) (frames_in b) room t) (record { answer = refl; out = refl })

    day_written : (x : List ℕ) (n : ℕ) → n ≡ 49 * (length (frames_in b) + 1) → any? malformed (frames_in b) ≡ false
        → x ≡ day_text o (frames_in b) ++ drop n l → Writes (write_day (length l) o (frames_in b)) l (Ok n) x
    unfolding write_day
    day_written x n z t q =
        let k : n ≡ length (day_text o (frames_in b)) = z ∙ sym (day_length o (frames_in b) t) in
        rw (all_pass (length l) (length (frames_in b) + 1) (frames_in b) room t)
        (record { answer = ap Ok k; out = q ∙ ap (λ (j : ℕ). day_text o (frames_in b) ++ drop j l) k })

    module _ (w : length b % 24 ≡ 0) where
      -- m is the answer of the search
      pub day_any_malformed : (m : Bool) → m ≡ any? malformed (frames_from (length b / 24) b) → m ≡ true
          → Writes (write_day (length l) o (frames_in b)) l (Err Malformed) l
      day_any_malformed m a t = day_malformed (ap (any? malformed) (whole_frames b w) ∙ sym a ∙ t)

      -- the line of the options, whose bytes are ob, left x; the lines of the events were laid in its tail, which came back as y
      pub day_laid : (m : Bool) (ob x y : List ℕ) → m ≡ any? malformed (frames_from (length b / 24) b) → m ≡ false → ((k : ℕ) → get_or b k 0 < 256)
          → ob ≡ options_bytes o → x ≡ line_of ob ++ drop (2 * length ob + 1) l
          → y ≡ printed_by 24 (length b / 24) b ++ drop (49 * (length b / 24)) (take (length x - 49) (drop 49 x))
          → Writes (write_day (length l) o (frames_in b)) l (Ok (49 * (length b / 24 + 1))) (take 49 x ++ (y ++ drop (length x - 49) (drop 49 x)))
      unfolding day_text options_line
      day_laid m ob x y a t g p q r =
          let n : ℕ = length b / 24 in
          let u : any? malformed (frames_from n b) ≡ false = sym a ∙ t in
          let f : frames_in b ≡ frames_from n b = whole_frames b w in
          let k : length (options_bytes o) ≡ 24 = options_length o in
          let lo : length (line_of ob) ≡ 49 = ap (λ (z : List ℕ). length (line_of z)) p ∙ length_options o in
          let v' : 2 * length ob + 1 ≡ 49 = omega (arith, ap length p, k) in
          let x' : x ≡ line_of ob ++ drop 49 l = q ∙ ap (λ (j : ℕ). line_of ob ++ drop j l) v' in
          let z : take 49 x ++ (y ++ drop (length x - 49) (drop 49 x)) ≡ (line_of ob ++ printed_by 24 n b) ++ drop (49 + 49 * n) l =
          tail_more 49 (49 * n) (line_of ob) (printed_by 24 n b) l x y lo x' r in
          let v : 49 + 49 * n ≡ 49 * (n + 1) = omega arith in
          let d : line_of ob ++ printed_by 24 n b ≡ day_text o (frames_in b) =
          rw (p, f, frames_printed n b (bytes_of b g) u) in
          let c' : 49 * (n + 1) ≡ 49 * (length (frames_in b) + 1) = omega (arith, ap length f, length_frames n b) in
          day_written (take 49 x ++ (y ++ drop (length x - 49) (drop 49 x))) (49 * (n + 1)) c' (ap (any? malformed) f ∙ u) (z ∙ rw (d, v))
