-- Laws that the proofs cite: of a lent tail, and of a record laid down in one.
use Rattle.std.proofs.Common.{Bool, true, false, length-take, ◌+◌, ◌*◌, ◌≡◌, ℕ, ◌-◌, ◌%◌, ◌≤◌, List, [], ◌∷◌, ◌++◌, length, take, drop, set, sym, refl, ap, ◌∙◌, append_assoc, append-nil, arith, length-append, length-drop, take-append-drop, drop_of_length-le, length-take-le, take_all, drop-drop, drop_at}
use lib.Seq.{sets-eq}
use mir.Val.{bool_byte}
use Rattle.definition.specs.Words.{when◌then◌else◌}
use Rattle.definition.specs.Records.{Fields, fields, reply_fields}
use Rattle.definition.specs.declared.Reply.{Reply}
use Rattle.definition.specs.declared.Reply.TheVariants.{Pooled, Establishing, Warmed, Cleared, Gone, Unheard}
use Rattle.definition.specs.declared.Record.TheVariants.{Replied}
use Rattle.records.specs.declared.Records.{Records}
use Rattle.records.specs.Output.{Emits}
use Rattle.records.specs.Numbers.{numbers}
use Rattle.records.specs.declared.Fields.{Fields as Coded}
use Rattle.definition.specs.Bytes.{be4, serial_of, record_bytes}
use Rattle.big_endian.specs.Laws.{tail_more, be4_low}
use Rattle.records.specs.Laid.{laid}

-- what a lent tail `&mut out[off..]` leaves
pub tail_laid : (l : List ℕ) (off : ℕ) (bs y : List ℕ) → y ≡ bs ++ drop (length bs) (take (length l - off) (drop off l))
    → take off l ++ (y ++ drop (length l - off) (drop off l)) ≡ laid l off bs
unfolding laid
tail_laid l off bs y e =
    let k : ℕ = length l - off in
    let all : take k (drop off l) ≡ drop off l = take_all k (drop off l) (simp length-drop (omega arith)) in
    let none : drop k (drop off l) ≡ [] = drop_of_length-le (drop off l) {i = k} (simp length-drop (omega arith)) in
    rw (e, all, none, append-nil, drop-drop)

-- the list after its tail from a on was lent, and came back as y
abbrev back : ℕ → List ℕ → List ℕ → List ℕ
back a l y = take a l ++ (y ++ drop (length l - a) (drop a l))

-- three lists of four bytes laid behind the first four of o, one after the other, and then these four stored
module _ (o a b c x y z : List ℕ) (room : 16 ≤ length o) (la : length a ≡ 4) (lb : length b ≡ 4)
    (ex : x ≡ a ++ drop 4 (take (length o - 4) (drop 4 o)))
    (ey : y ≡ b ++ drop 4 (take (length (back 4 o x) - 8) (drop 8 (back 4 o x))))
    (ez : z ≡ c ++ drop 4 (take (length (back 8 (back 4 o x) y) - 12) (drop 12 (back 8 (back 4 o x) y)))) where
  front : length (take 4 o) ≡ 4
  front = length-take-le 4 o (omega arith)

  laid_behind : back 12 (back 8 (back 4 o x) y) z ≡ take 4 o ++ (a ++ (b ++ (c ++ drop 16 o)))
  laid_behind =
      let m : length (take 4 o ++ a) ≡ 8 = length-append (take 4 o) a ∙ omega (arith, front) in
      let n : length ((take 4 o ++ a) ++ b) ≡ 12 = length-append (take 4 o ++ a) b ∙ omega arith in
      let e = tail_more 4 4 (take 4 o) a o o x front (sym (take-append-drop 4 o)) ex in
      let f = tail_more 8 4 (take 4 o ++ a) b o (back 4 o x) y m e ey in
      tail_more 12 4 ((take 4 o ++ a) ++ b) c o (back 8 (back 4 o x) y) z n f ez ∙ simp append_assoc

  sixteen_laid : (k r : ℕ) → set (set (set (set (back 12 (back 8 (back 4 o x) y) z) 0 k) 1 r) 2 0) 3 0 ≡ k ∷ r ∷ 0 ∷ 0 ∷ (a ++ (b ++ (c ++ drop 16 o)))
  sixteen_laid k r =
      let l : List ℕ = take 4 o ++ (a ++ (b ++ (c ++ drop 16 o))) in
      let long : 4 ≤ length l = simp length-append (omega (arith, front)) in
      rw laid_behind
      (sets-eq (k ∷ r ∷ 0 ∷ 0 ∷ []) l 0 long
      ∙ ap (λ (t : List ℕ). k ∷ r ∷ 0 ∷ 0 ∷ t) (drop_at (take 4 o) (a ++ (b ++ (c ++ drop 16 o))) 4 front))

-- a record: its three numbers, and then its first four bytes
pub record_laid : (kind reason serial id other : ℕ) (o x y z : List ℕ) → 16 ≤ length o
    → x ≡ be4 serial ++ drop 4 (take (length o - 4) (drop 4 o))
    → y ≡ be4 (id % 4294967296) ++ drop 4 (take (length (back 4 o x) - 8) (drop 8 (back 4 o x)))
    → z ≡ be4 other ++ drop 4 (take (length (back 8 (back 4 o x) y) - 12) (drop 12 (back 8 (back 4 o x) y)))
    → set (set (set (set (back 12 (back 8 (back 4 o x) y) z) 0 kind) 1 reason) 2 0) 3 0 ≡ record_bytes serial (fields kind reason id other) ++ drop 16 o
unfolding record_bytes
record_laid kind reason serial id other o x y z room ex ey ez =
    sixteen_laid o (be4 serial) (be4 (id % 4294967296)) (be4 other) x y z room refl refl ex ey ez kind reason
    ∙ ap (λ (l : List ℕ). kind ∷ reason ∷ 0 ∷ 0 ∷ (be4 serial ++ (l ++ (be4 other ++ drop 16 o)))) (be4_low id)

pub laid_long : (l : List ℕ) (off : ℕ) (bs : List ℕ) → off + length bs ≤ length l → length (laid l off bs) ≡ length l
unfolding laid
laid_long l off bs h = simp (length-append, length-take, length-drop) (omega arith)

pub record_long : (s : ℕ) (f : Fields) → length (record_bytes s f) ≡ 16
unfolding record_bytes
record_long s f = refl

-- of a clear, the reason is whether it was a timeout
pub cleared_numbers : (b : Bool) (f : Coded) (cause generation : ℕ) → numbers f ≡ fields 6 0 cause generation
    → numbers (record { kind = f.kind; reason = bool_byte b; id = f.id; other = f.other }) ≡ fields 6 (when b then 1 else 0) cause generation
unfolding when◌then◌else◌
cleared_numbers true f cause generation e = ap (λ (x : Fields). fields x.kind 1 x.id x.other) e
cleared_numbers false f cause generation e = ap (λ (x : Fields). fields x.kind 0 x.id x.other) e

-- a serial wraps, so of the count only the low four bytes are added
pub serial_low : (s n : ℕ) → serial_of (s + n % 4294967296) ≡ serial_of (s + n)
serial_low s n = omega arith

-- ── A request's number is printed in four bytes ──

fields_low : (s kind n other : ℕ) → record_bytes s (fields kind 0 (n % 4294967296) other) ≡ record_bytes s (fields kind 0 n other)
unfolding record_bytes
fields_low s kind n other = ap (λ (l : List ℕ). kind ∷ 0 ∷ 0 ∷ 0 ∷ (be4 s ++ (l ++ be4 other))) (be4_low n)

reply_low : (s n : ℕ) (a : Reply) → record_bytes s (reply_fields (n % 4294967296) a) ≡ record_bytes s (reply_fields n a)
reply_low s n (Pooled c) = fields_low s 16 n c
reply_low s n (Establishing c) = fields_low s 17 n c
reply_low s n Warmed = fields_low s 18 n 0
reply_low s n (Cleared cause) = fields_low s 19 n cause
reply_low s n Gone = fields_low s 20 n 0
reply_low s n Unheard = fields_low s 21 n 0

pub emits_low : (n : ℕ) (a : Reply) {o o' : Records} → Emits (Replied (n % 4294967296) a) o o' → Emits (Replied n a) o o'
emits_low n a {o} e = record {
  count = e.count;
  out = e.out ∙ ap (laid o.out.now (16 * o.count)) (reply_low (serial_of (o.serial + o.count)) n a);
  kept = e.kept;
}
