-- What stands at the front of a list after its tail was lent, and the four bytes of a number above 2³².
use Rattle.std.specs.Prelude.{◌≡◌, List, [], ◌++◌, ℕ, ◌+◌, ◌-◌, ◌/◌, ◌%◌, length, take, drop}
use Rattle.std.proofs.Common.{sym, ap, ◌∙◌, append_assoc, append-nil, arith, length-drop, drop_of_length-le, take_all, take_at, drop_at, drop-drop}
use Rattle.definition.specs.Bytes.{be4}

-- h stands at the front of o, and the tail after it was lent, to have bs laid at its front
pub tail_more : (a b : ℕ) (h bs o l y : List ℕ) → length h ≡ a → l ≡ h ++ drop a o → y ≡ bs ++ drop b (take (length l - a) (drop a l))
    → take a l ++ (y ++ drop (length l - a) (drop a l)) ≡ (h ++ bs) ++ drop (a + b) o
tail_more a b h bs o l y n e q =
    let k : ℕ = length l - a in
    let all : take k (drop a l) ≡ drop a l = take_all k (drop a l) (simp length-drop (omega arith)) in
    let none : drop k (drop a l) ≡ [] = drop_of_length-le (drop a l) {i = k} (simp length-drop (omega arith)) in
    let t : take a l ≡ h = ap (take a) e ∙ take_at h (drop a o) a n in
    let d : drop a l ≡ drop a o = ap (drop a) e ∙ drop_at h (drop a o) a n in
    rw (q, all, none, t, d, append-nil, drop-drop) (sym (append_assoc h bs (drop (a + b) o)))

-- only the low four bytes count
pub be4_low : (x : ℕ) → be4 (x % 4294967296) ≡ be4 x
be4_low x =
    let a : x % 4294967296 / 16777216 % 256 ≡ x / 16777216 % 256 = omega arith in
    let b : x % 4294967296 / 65536 % 256 ≡ x / 65536 % 256 = omega arith in
    let c : x % 4294967296 / 256 % 256 ≡ x / 256 % 256 = omega arith in
    let d : x % 4294967296 % 256 ≡ x % 256 = omega arith in
    rw (a, b, c, d)
