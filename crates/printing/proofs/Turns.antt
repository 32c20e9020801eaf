-- One turn of a loop that prints pieces of w bytes each, over variables.
use Rattle.std.specs.Prelude.{◌≡◌, List, ◌++◌, ℕ, ◌+◌, ◌*◌, ◌-◌, ◌≤◌, ◌<◌, length, take, drop}
use Rattle.std.proofs.Common.{sym, ap, subst, ◌∙◌, mul-zero, mul_comm, mul-suc, mul-le-mul_left, add-one, arith, length-take, length-drop}
use Rattle.definition.specs.Bytes.{line_of}
use Rattle.big_endian.specs.Laws.{tail_more}
use Rattle.printing.specs.Printed.{printed_by, printed_more, length_printed}

-- the length of a line of so many bytes
abbrev long : ℕ → ℕ
long w = 2 * w + 1

-- so many, and one more
pub one_more : (c i : ℕ) → i * c + c ≡ c * (i + 1)
one_more c i = ap (λ (j : ℕ). j + c) (mul_comm i c) ∙ sym (mul-suc c i) ∙ ap (λ (j : ℕ). c * j) (sym (add-one i))

-- one line more: it is laid at the front of the tail behind the first i
line_laid : (w : ℕ) (s o l y : List ℕ) (i k : ℕ) → w * (i + 1) ≤ length s → k ≡ w → l ≡ printed_by w i s ++ drop (long w * i) o
    → y ≡ line_of (take k (drop (i * w) s)) ++ drop (2 * length (take k (drop (i * w) s)) + 1) (take (length l - i * long w) (drop (i * long w) l))
    → take (i * long w) l ++ (y ++ drop (length l - i * long w) (drop (i * long w) l)) ≡ printed_by w (i + 1) s ++ drop (long w * (i + 1)) o
line_laid w s o l y i k h z e q =
    let t : List ℕ = take k (drop (i * w) s) in
    let r : List ℕ = line_of t in
    let a : long w * i ≡ i * long w = mul_comm (long w) i in
    let b : w * i ≡ i * w = mul_comm w i in
    let m : i * w + w ≡ w * (i + 1) = one_more w i in
    let n : length t ≡ w = simp (length-take, length-drop) (omega arith) in
    let p : printed_by w (i + 1) s ≡ printed_by w i s ++ r = ap (λ (j : ℕ). printed_by w j s) (add-one i) ∙ printed_more w i s ∙ rw (b, z) in
    tail_more (i * long w) (long w) (printed_by w i s) r o l y (length_printed w i s (omega arith) ∙ a) (e ∙ rw a)
    (q ∙ ap (λ (j : ℕ). r ++ drop (long j) (take (length l - i * long w) (drop (i * long w) l))) n) ∙ rw (p, one_more (long w) i)

-- before turn i: the first i lines stand at the front of o, which was o₀
abbrev pub Printing : (w : ℕ) (s o₀ o : List ℕ) (i : ℕ) → Type 0
Printing w s o₀ o i = o ≡ printed_by w i s ++ drop ((2 * w + 1) * i) o₀

-- i + 1 is at most n, so there is a piece, and room for its line
pub piece_low : (w n i : ℕ) → i < n → i * w + w ≤ w * n
piece_low w n i h =
    let g : i + 1 ≤ n = omega arith in
    omega (arith, one_more w i, mul-le-mul_left w g)

-- m is how far the lines stand apart
pub printing_more : (w n : ℕ) (s o₀ o y : List ℕ) (i k m : ℕ) → i < n → w * n ≤ length s → k ≡ w → m ≡ 2 * w + 1 → Printing w s o₀ o i
    → y ≡ line_of (take k (drop (i * w) s)) ++ drop (2 * length (take k (drop (i * w) s)) + 1) (take (length o - i * m) (drop (i * m) o))
    → Printing w s o₀ (take (i * m) o ++ (y ++ drop (length o - i * m) (drop (i * m) o))) (i + 1)
printing_more w n s o₀ o y i k m h a z f e q =
    subst
    (λ (x : ℕ). y ≡ line_of (take k (drop (i * w) s)) ++ drop (2 * length (take k (drop (i * w) s)) + 1) (take (length o - i * x) (drop (i * x) o))
    → Printing w s o₀ (take (i * x) o ++ (y ++ drop (length o - i * x) (drop (i * x) o))) (i + 1)) (sym f)
    (line_laid w s o₀ o y i k (omega (arith, one_more w i, piece_low w n i h)) z e) q

pub printing_start : (w : ℕ) (s o : List ℕ) → Printing w s o o 0
unfolding printed_by
printing_start w s o = rw (mul-zero (2 * w + 1))
