-- One turn and the end of the loop over digits, and the end of a line, over variables.
use mathlib.Core.Path.{◌≡◌, refl, sym, ap, ◌∙◌}
use mathlib.Core.List.{List, [], ◌∷◌, ◌++◌, append_assoc}
use Prim.Native.Nat.{ℕ, suc, ◌+◌, ◌*◌, ◌/◌, ◌%◌, ◌≤◌, ◌<◌}
use native.Mathlib.Numerals.{add-one}
use native.Mathlib.Omega.{arith}
use lib.ListN.{length, take, drop, get_or, set, length-append, length-take}
use lib.Seq.{drop-cons, take-suc, set_at, append_snoc}
use Rattle.definition.specs.Bytes.{digit_of, hex_of, line_of}
use Rattle.definition.specs.HexLaws.{length_hex_of}

-- ── Digits ──

hex_append : (xs ys : List ℕ) → hex_of (xs ++ ys) ≡ hex_of xs ++ hex_of ys
unfolding hex_of
hex_append [] ys = refl
hex_append (x ∷ xs) ys = rw (hex_append xs ys)

-- two stores after what is written
hex_stored : (s o : List ℕ) (i : ℕ) → i < length s → 2 * length s ≤ length o
    → set (set (hex_of (take i s) ++ drop (2 * i) o) (i * 2) (digit_of (get_or s i 0 / 16))) (i * 2 + 1) (digit_of (get_or s i 0 % 16))
    ≡ hex_of (take (i + 1) s) ++ drop (2 * (i + 1)) o
unfolding hex_of
hex_stored s o i h g =
    let x : ℕ = digit_of (get_or s i 0 / 16) in
    let y : ℕ = digit_of (get_or s i 0 % 16) in
    let p : List ℕ = hex_of (take i s) in
    let r : List ℕ = drop (suc (suc (2 * i))) o in
    let n : 2 * (i + 1) ≡ suc (suc (2 * i)) = omega arith in
    let d₁ : drop (2 * i) o ≡ get_or o (2 * i) 0 ∷ drop (suc (2 * i)) o = drop-cons o (2 * i) 0 (omega arith) in
    let d₂ : drop (suc (2 * i)) o ≡ get_or o (suc (2 * i)) 0 ∷ r = drop-cons o (suc (2 * i)) 0 (omega arith) in
    let lp : length p ≡ i * 2 = length_hex_of (take i s) ∙ simp length-take (omega arith) in
    let lq : length (p ++ x ∷ []) ≡ i * 2 + 1 = length-append p (x ∷ []) ∙ omega arith in
    let e₁ = set_at p (get_or o (2 * i) 0) (get_or o (suc (2 * i)) 0 ∷ r) x (i * 2) lp in
    let e₂ = set_at (p ++ x ∷ []) (get_or o (suc (2 * i)) 0) r y (i * 2 + 1) lq in
    let t : hex_of (take (suc i) s) ≡ p ++ x ∷ y ∷ [] = ap hex_of (take-suc s i 0 h) ∙ hex_append (take i s) (get_or s i 0 ∷ []) in
    rw (n, add-one i, t, d₁, d₂, e₁, ← append_snoc p x, e₂) (append_assoc p (x ∷ []) (y ∷ r) ∙ sym (append_assoc p (x ∷ y ∷ []) r))

-- before turn i: the digits of the first i bytes stand at the front of o, which was o₀
abbrev pub Encoding : (s o₀ o : List ℕ) (i : ℕ) → Type 0
Encoding s o₀ o i = o ≡ hex_of (take i s) ++ drop (2 * i) o₀

pub encoding_more : (s o₀ o : List ℕ) (i x y : ℕ) → i < length s → 2 * length s ≤ length o₀ → x ≡ digit_of (get_or s i 0 / 16) → y ≡ digit_of (get_or s i 0 % 16)
    → Encoding s o₀ o i → Encoding s o₀ (set (set o (i * 2) x) (i * 2 + 1) y) (i + 1)
encoding_more s o₀ o i x y h g p q e = rw (e, p, q) (hex_stored s o₀ i h g)

-- ── Lines ──

pub line_end : (bs o x : List ℕ) → 2 * length bs + 1 ≤ length o → x ≡ hex_of bs ++ drop (2 * length bs) o
    → set x (length bs * 2) 10 ≡ line_of bs ++ drop (2 * length bs + 1) o
unfolding line_of
line_end bs o x h e =
    let n : ℕ = 2 * length bs in
    let m : length bs * 2 ≡ n = omega arith in
    let d : drop n o ≡ get_or o n 0 ∷ drop (suc n) o = drop-cons o n 0 (omega arith) in
    rw (e, m, add-one n, d, set_at (hex_of bs) (get_or o n 0) (drop (suc n) o) 10 n (length_hex_of bs)) (sym (append_assoc (hex_of bs) (10 ∷ []) (drop (suc n) o)))
