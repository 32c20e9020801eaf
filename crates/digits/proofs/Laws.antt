-- One turn of each loop and its end, over variables; and the bytes of digits.
use mathlib.Core.Path.{◌≡◌, refl, sym, ◌∙◌}
use mathlib.Core.Bool.{Bool, true, false}
use mathlib.Core.List.{List, [], ◌∷◌, ◌++◌, map, append_assoc, append-nil}
use Rattle.std.specs.Prelude.{Option, None as none, Some as some}
use Prim.Native.Nat.{ℕ, zero, suc, ◌+◌, ◌*◌, ◌-◌, ◌%◌, ◌≤◌, ◌<◌}
use native.Mathlib.Numerals.{add-one}
use native.Mathlib.Omega.{arith}
use lib.ListN.{length, length-take, take, drop, get_or, set, drop_of_length-le}
use lib.Seq.{drop-cons, take_all}
use Rattle.std.specs.Prelude.{fold, ◌&&◌}
use Rattle.std.proofs.lemmas.List.{take_more_set, map_more}
use borrow.Author.Tests.{lt-ltb, le-ltb, eq-eqb, ne_eqb}
use Rattle.definition.specs.Words.{when◌then◌else◌, ◌<?◌}
use Rattle.definition.specs.Bytes.{value_of, unhex, paired, bytes_of}
use Rattle.definition.specs.HexLaws.{value_digit}
use Rattle.digits.specs.Decode.{number, or_sixteen, digits?, pairs_of}

-- ── Reading 48 ──

pub numbers_more : (s ns : List ℕ) (i : ℕ) → i < length s → i < length ns → take i ns ≡ map number (take i s)
    → take (i + 1) (set ns i (number (get_or s i 0))) ≡ map number (take (i + 1) s)
numbers_more s ns i h k e = take_more_set ns i (number (get_or s i 0)) k ∙ rw e (sym (map_more number s i 0 h))

-- one that is none is enough
none_more : (vs : List ℕ) → fold (λ (good : Bool) (v : ℕ). good && v <? 16) false vs ≡ false
none_more [] = refl
none_more (v ∷ vs) = none_more vs

-- ── Pairs of numbers ──

pairs_turn : (v : List ℕ) (i : ℕ) → i * 2 + 1 < length v
    → pairs_of (drop (i * 2) v) ≡ (get_or v (i * 2) 0 % 16 * 16 + get_or v (i * 2 + 1) 0 % 16) ∷ pairs_of (drop ((i + 1) * 2) v)
unfolding pairs_of
pairs_turn v i h =
    let n : (i + 1) * 2 ≡ suc (suc (i * 2)) = omega arith in
    let e₁ : drop (i * 2) v ≡ get_or v (i * 2) 0 ∷ drop (suc (i * 2)) v = drop-cons v (i * 2) 0 (omega arith) in
    let e₂ : drop (suc (i * 2)) v ≡ get_or v (suc (i * 2)) 0 ∷ drop (suc (suc (i * 2))) v = drop-cons v (suc (i * 2)) 0 (omega arith) in
    rw (n, add-one, e₁, e₂)

-- before turn i: i bytes are made
abbrev pub Pairing : (v b : List ℕ) (i : ℕ) → Type 0
Pairing v b i = take i b ++ pairs_of (drop (i * 2) v) ≡ pairs_of v

pub pairing_more : (v b : List ℕ) (i : ℕ) → i * 2 + 1 < length v → i < length b → Pairing v b i
    → Pairing v (set b i (get_or v (i * 2) 0 % 16 * 16 + get_or v (i * 2 + 1) 0 % 16)) (i + 1)
pairing_more v b i h k p =
    let x : ℕ = get_or v (i * 2) 0 % 16 * 16 + get_or v (i * 2 + 1) 0 % 16 in
    rw (take_more_set b i x k) (append_assoc (take i b) (x ∷ []) (pairs_of (drop ((i + 1) * 2) v)) ∙ rw (← pairs_turn v i h) p)

pub pairing_end : (v b : List ℕ) (i : ℕ) → i ≡ 24 → length v ≡ 48 → length b ≡ 24 → Pairing v b i → b ≡ pairs_of v
unfolding pairs_of
pairing_end v b i e h k p =
    let d : drop (i * 2) v ≡ [] = drop_of_length-le v {i = i * 2} (omega arith) in
    let t : take i b ≡ b = take_all i b (omega arith) in
    rw (d, t, append-nil) at p

-- ── The bytes of digits ──

abbrev Small : Option ℕ → Type 0
Small x = (v : ℕ) → x ≡ some v → v < 16

small : (c : ℕ) → Small (value_of c)
small c v e = (value_digit c v e).small

one_byte : (g : Bool) (x h l : ℕ) (bs : List ℕ) (r : Option (List ℕ)) → x ≡ h * 16 + l → (when g then some bs else none) ≡ r
    → (when g then some (x ∷ bs) else none) ≡ paired (some h) (some l) r
unfolding when◌then◌else◌
one_byte true x h l bs r e q = rw (← q, e)
one_byte false x h l bs r e q = rw (← q)

two_digits : (x y : Option ℕ) (vs : List ℕ) (r : Option (List ℕ)) → Small x → Small y → (when digits? vs then some (pairs_of vs) else none) ≡ r
    → (when digits? (or_sixteen x ∷ or_sixteen y ∷ vs) then some (pairs_of (or_sixteen x ∷ or_sixteen y ∷ vs)) else none) ≡ paired x y r
unfolding pairs_of when◌then◌else◌
two_digits none y vs r a b e = rw (none_more vs)
two_digits (some h) none vs r a b e = rw (lt-ltb h 16 (a h refl), none_more vs)
two_digits (some h) (some l) vs r a b e =
    let m : h < 16 = a h refl in let n : l < 16 = b l refl in
    rw (lt-ltb h 16 m, lt-ltb l 16 n) (one_byte (digits? vs) _ h l (pairs_of vs) r (omega arith) e)

decoded : (n : ℕ) (cs : List ℕ) → length cs ≡ n * 2 → (when digits? (map number cs) then some (pairs_of (map number cs)) else none) ≡ unhex cs
unfolding unhex number pairs_of when◌then◌else◌
decoded zero [] e = refl
decoded (suc n) [] e = refl
decoded zero (a ∷ cs) e = absurd (omega arith)
decoded (suc n) (a ∷ []) e = absurd (omega arith)
decoded (suc n) (a ∷ b ∷ cs) e = two_digits (value_of a) (value_of b) (map number cs) (unhex cs) (small a) (small b) (decoded n cs (omega arith))

module _ (s : List ℕ) (h : 48 ≤ length s) where
  in_all : (when digits? (map number (take 48 s)) then some (pairs_of (map number (take 48 s))) else none) ≡ unhex (take 48 s)
  in_all = decoded 24 (take 48 s) (simp length-take (omega arith))

  pub decoded_good : digits? (map number (take 48 s)) ≡ true → unhex (take 48 s) ≡ some (pairs_of (map number (take 48 s)))
  unfolding when◌then◌else◌
  decoded_good g = sym in_all ∙ rw g

  pub decoded_bad : digits? (map number (take 48 s)) ≡ false → unhex (take 48 s) ≡ none
  unfolding when◌then◌else◌
  decoded_bad g = sym in_all ∙ rw g

  -- what digits make, they make whether they were looked at or not
  pub made : (bs : List ℕ) → unhex (take 48 s) ≡ some bs → pairs_of (map number (take 48 s)) ≡ bs
  made bs q = pick (digits? (map number (take 48 s))) refl
    where
      pick : (b : Bool) → digits? (map number (take 48 s)) ≡ b → pairs_of (map number (take 48 s)) ≡ bs
      pick true g = let d = decoded_good g in cc
      pick false g = let d = decoded_bad g in cc

pub ruleset decoding = (decoded_good, decoded_bad)
