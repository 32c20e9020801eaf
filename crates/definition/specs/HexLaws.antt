-- Reading digits undoes writing them, and the other way round; numbers as bytes likewise.
use Rattle.std.specs.Prelude.{◌≡◌, refl, Bool, true, false, List, [], ◌∷◌, ◌++◌, length, get_or, drop}
use Rattle.std.proofs.Math.Path.{ap, sym}
use Rattle.std.proofs.Common.{◌∙◌, div-add-mod', drop_of_length-le, length-append, drop-cons, ltb-true, ltb-false, lt-ltb, le-ltb}
use Rattle.std.specs.Prelude.{Option, None as none, Some as some}
use Prim.Native.Nat.{ℕ, zero, suc, ◌+◌, ◌*◌, ◌-◌, ◌/◌, ◌%◌, ◌<◌, ◌≤◌}
use native.Mathlib.Omega.{arith}
use Rattle.std.proofs.Math.Nat.{div-div-eq-div-mul}
use Rattle.definition.specs.Words.{when◌then◌else◌, ◌<?◌}
use Rattle.definition.specs.Bytes.{digit_of, value_of, hex_of, line_of, unhex, paired, be4, be8, at4, at8}

-- a digit and its number
pub record Digit (c v : ℕ) : Type 0 where
  pub small : v < 16
  pub same : c ≡ digit_of v

value_cases : (c v : ℕ) (b₁ b₂ b₃ b₄ : Bool) → c <? 48 ≡ b₁ → c <? 58 ≡ b₂ → c <? 97 ≡ b₃ → c <? 103 ≡ b₄
    → (when b₁ then none else when b₂ then some (c - 48) else when b₃ then none else when b₄ then some (c - 87) else none) ≡ some v → Digit c v
unfolding digit_of when◌then◌else◌
value_cases c v true b₂ b₃ b₄ t₁ t₂ t₃ t₄ e = let z : ◌≡◌ {A = ℕ} 0 1 = cc in absurd (omega arith)
value_cases c v false true b₃ b₄ t₁ t₂ t₃ t₄ e =
    let h : c - 48 ≡ v = cc in
    let l : 48 ≤ c = ltb-false c 48 t₁ in let g : c < 58 = ltb-true c 58 t₂ in
    let s : v < 10 = omega arith in let q : c ≡ 48 + v = omega arith in
    record { small = omega arith; same = rw (lt-ltb v 10) q }
value_cases c v false false true b₄ t₁ t₂ t₃ t₄ e = let z : ◌≡◌ {A = ℕ} 0 1 = cc in absurd (omega arith)
value_cases c v false false false true t₁ t₂ t₃ t₄ e =
    let h : c - 87 ≡ v = cc in
    let l : 97 ≤ c = ltb-false c 97 t₃ in let g : c < 103 = ltb-true c 103 t₄ in
    let s : 10 ≤ v = omega arith in let q : c ≡ 87 + v = omega arith in
    record { small = omega arith; same = rw (le-ltb v 10) q }
value_cases c v false false false false t₁ t₂ t₃ t₄ e = let z : ◌≡◌ {A = ℕ} 0 1 = cc in absurd (omega arith)

pub value_digit : (c v : ℕ) → value_of c ≡ some v → Digit c v
unfolding value_of
value_digit c v e = value_cases c v (c <? 48) (c <? 58) (c <? 97) (c <? 103) refl refl refl refl e

digit_cases : (n : ℕ) (b : Bool) → n <? 10 ≡ b → n < 16 → value_of (when b then 48 + n else 87 + n) ≡ some n
unfolding value_of when◌then◌else◌
digit_cases n true t h =
    let l : n < 10 = ltb-true n 10 t in
    let h₁ : 48 ≤ 48 + n = omega arith in let h₂ : 48 + n < 58 = omega arith in
    let q : 48 + n - 48 ≡ n = omega arith in
    rw (le-ltb (48 + n) 48 h₁, lt-ltb (48 + n) 58 h₂) (ap some q)
digit_cases n false t h =
    let l : 10 ≤ n = ltb-false n 10 t in
    let h₁ : 48 ≤ 87 + n = omega arith in let h₂ : 58 ≤ 87 + n = omega arith in let h₃ : 97 ≤ 87 + n = omega arith in let h₄ : 87 + n < 103 = omega arith in
    let q : 87 + n - 87 ≡ n = omega arith in
    rw (le-ltb (87 + n) 48 h₁, le-ltb (87 + n) 58 h₂, le-ltb (87 + n) 97 h₃, lt-ltb (87 + n) 103 h₄) (ap some q)

pub digit_value : (n : ℕ) → n < 16 → value_of (digit_of n) ≡ some n
unfolding digit_of
digit_value n h = digit_cases n (n <? 10) refl h

-- each is a byte
pub data Bytes : List ℕ → Type 0 where
  none8 : Bytes []
  more8 : (b : ℕ) {bs : List ℕ} → b < 256 → Bytes bs → Bytes (b ∷ bs)

-- what is written is read
pub unhex_hex_of : {bs : List ℕ} → Bytes bs → unhex (hex_of bs) ≡ some bs
unfolding unhex hex_of
unhex_hex_of none8 = refl
unhex_hex_of (more8 b h r) =
    let e : b / 16 * 16 + b % 16 ≡ b = omega arith in
    let h₁ : b / 16 < 16 = omega arith in
    let h₂ : b % 16 < 16 = omega arith in
    rw (digit_value (b / 16) h₁, digit_value (b % 16) h₂, unhex_hex_of r, e)

-- what is read is written: bytes, with the digits that they came from
pub record Read (ds bs : List ℕ) : Type 0 where
  pub bytes : Bytes bs
  pub same : hex_of bs ≡ ds

paired_read : (a b : ℕ) (ds bs : List ℕ) (h l : Option ℕ) (r : Option (List ℕ)) → value_of a ≡ h → value_of b ≡ l
    → ((xs : List ℕ) → r ≡ some xs → Read ds xs) → paired h l r ≡ some bs → Read (a ∷ b ∷ ds) bs
unfolding hex_of
paired_read a b ds bs (some h) (some l) (some xs) p q f e =
    let d = value_digit a h p in
    let g = value_digit b l q in
    let z = f xs refl in
    let k : (h * 16 + l) ∷ xs ≡ bs = cc in
    let e₁ : (h * 16 + l) / 16 ≡ h = omega arith in
    let e₂ : (h * 16 + l) % 16 ≡ l = omega arith in
    rw (← k) (record { bytes = more8 (h * 16 + l) (omega arith) z.bytes; same = rw (e₁, e₂, ← d.same, ← g.same, z.same) })
paired_read a b ds bs (some h) (some l) none p q f e = let z : ◌≡◌ {A = ℕ} 0 1 = cc in absurd (omega arith)
paired_read a b ds bs (some h) none r p q f e = let z : ◌≡◌ {A = ℕ} 0 1 = cc in absurd (omega arith)
paired_read a b ds bs none l r p q f e = let z : ◌≡◌ {A = ℕ} 0 1 = cc in absurd (omega arith)

pub unhex_read : (ds bs : List ℕ) → unhex ds ≡ some bs → Read ds bs
unfolding unhex hex_of
unhex_read [] bs e = let q : [] ≡ bs = cc in rw (← q) (record { bytes = none8; same = refl })
unhex_read (a ∷ []) bs e = let z : ◌≡◌ {A = ℕ} 0 1 = cc in absurd (omega arith)
unhex_read (a ∷ b ∷ ds) bs e = paired_read a b ds bs (value_of a) (value_of b) (unhex ds) refl refl (λ xs q. unhex_read ds xs q) e

pub length_hex_of : (l : List ℕ) → length (hex_of l) ≡ 2 * length l
unfolding hex_of
length_hex_of [] = refl
length_hex_of (b ∷ l) = let h = length_hex_of l in omega arith

pub length_line_of : (l : List ℕ) → length (line_of l) ≡ 2 * length l + 1
unfolding line_of
length_line_of l = length-append (hex_of l) (10 ∷ []) ∙ omega (arith, length_hex_of l)

-- at a place of a list of bytes stands a byte
pub get_d_small : {l : List ℕ} → Bytes l → (k : ℕ) → get_or l k 0 < 256
get_d_small none8 zero = omega arith
get_d_small none8 (suc k) = omega arith
get_d_small (more8 b h r) zero = h
get_d_small (more8 b h r) (suc k) = get_d_small r k

-- a list of known length, element by element
abbrev pub spread : ℕ → ℕ → List ℕ → List ℕ
spread zero i l = []
spread (suc n) i l = get_or l i 0 ∷ spread n (suc i) l

pub drop_spread : (n i : ℕ) (l : List ℕ) → length l ≡ i + n → drop i l ≡ spread n i l
drop_spread zero i l e = drop_of_length-le l {i = i} (omega arith)
drop_spread (suc n) i l e = drop-cons l i 0 (omega arith) ∙ ap (λ (r : List ℕ). get_or l i 0 ∷ r) (drop_spread n (suc i) l (omega arith))

-- ── Numbers ──

pub be4_bytes : (x : ℕ) {r : List ℕ} → Bytes r → Bytes (be4 x ++ r)
be4_bytes x r = more8 (x / 16777216 % 256) (omega arith) (more8 (x / 65536 % 256) (omega arith) (more8 (x / 256 % 256) (omega arith) (more8 (x % 256) (omega arith) r)))

at_least : (x q₁ q₂ q₃ r₀ r₁ r₂ r₃ : ℕ) → q₁ * 256 + r₀ ≡ x → q₂ * 256 + r₁ ≡ q₁ → q₃ * 256 + r₂ ≡ q₂ → r₃ ≡ q₃ → r₃ * 16777216 + r₂ * 65536 + r₁ * 256 + r₀ ≡ x
at_least x q₁ q₂ q₃ r₀ r₁ r₂ r₃ a b c d = omega arith

pub at4_be4 : (x : ℕ) → x < 4294967296 → x / 16777216 % 256 * 16777216 + x / 65536 % 256 * 65536 + x / 256 % 256 * 256 + x % 256 ≡ x
at4_be4 x h =
    let e₁ : x / 256 / 256 ≡ x / 65536 = div-div-eq-div-mul x 256 256 in
    let e₂ : x / 65536 / 256 ≡ x / 16777216 = div-div-eq-div-mul x 65536 256 in
    at_least x (x / 256) (x / 65536) (x / 16777216) _ _ _ _ (div-add-mod' x 256) (rw e₁ at (div-add-mod' (x / 256) 256)) (rw e₂ at (div-add-mod' (x / 65536) 256)) (omega arith)

pub at8_be8 : (x : ℕ) → x < 18446744073709551616 →
    (x / 4294967296 / 16777216 % 256 * 16777216 + x / 4294967296 / 65536 % 256 * 65536 + x / 4294967296 / 256 % 256 * 256 + x / 4294967296 % 256) * 4294967296
    + (x % 4294967296 / 16777216 % 256 * 16777216 + x % 4294967296 / 65536 % 256 * 65536 + x % 4294967296 / 256 % 256 * 256 + x % 4294967296 % 256) ≡ x
at8_be8 x h =
    let h₁ : x / 4294967296 < 4294967296 = omega arith in
    let h₂ : x % 4294967296 < 4294967296 = omega arith in
    let e₁ = at4_be4 (x / 4294967296) h₁ in
    let e₂ = at4_be4 (x % 4294967296) h₂ in
    rw (e₁, e₂) (omega arith)

be4_at4 : (a b c d : ℕ) → a < 256 → b < 256 → c < 256 → d < 256 → be4 (a * 16777216 + b * 65536 + c * 256 + d) ≡ a ∷ b ∷ c ∷ d ∷ []
be4_at4 a b c d ha hb hc hd =
    let x : ℕ = a * 16777216 + b * 65536 + c * 256 + d in
    let e₁ : x / 16777216 % 256 ≡ a = omega arith in
    let e₂ : x / 65536 % 256 ≡ b = omega arith in
    let e₃ : x / 256 % 256 ≡ c = omega arith in
    let e₄ : x % 256 ≡ d = omega arith in
    rw (e₁, e₂, e₃, e₄)

-- where bytes stand, the numbers read there are small, and written again are those bytes
module _ (b : List ℕ) (g : (k : ℕ) → get_or b k 0 < 256) where
  pub small4 : (i : ℕ) → at4 b i < 4294967296
  unfolding at4
  small4 i = omega (arith, g i, g (i + 1), g (i + 2), g (i + 3))

  pub small8 : (i : ℕ) → at8 b i < 18446744073709551616
  unfolding at8
  small8 i = omega (arith, small4 i, small4 (i + 4))

  pub four : (i : ℕ) → get_or b i 0 ∷ get_or b (i + 1) 0 ∷ get_or b (i + 2) 0 ∷ get_or b (i + 3) 0 ∷ [] ≡ be4 (at4 b i)
  unfolding at4
  four i = sym (be4_at4 _ _ _ _ (g i) (g (i + 1)) (g (i + 2)) (g (i + 3)))

  both : (i : ℕ) → be4 (at4 b i) ++ be4 (at4 b (i + 4)) ≡ be8 (at8 b i)
  unfolding at8
  both i =
      let h = small4 (i + 4) in
      let x : ℕ = at4 b i in let y : ℕ = at4 b (i + 4) in
      let p : (x * 4294967296 + y) / 4294967296 ≡ x = omega arith in
      let q : (x * 4294967296 + y) % 4294967296 ≡ y = omega arith in
      sym (ap (λ (v : ℕ). be4 v ++ be4 ((x * 4294967296 + y) % 4294967296)) p ∙ ap (λ (v : ℕ). be4 x ++ be4 v) q)

  pub eight : (i : ℕ) → get_or b i 0 ∷ get_or b (i + 1) 0 ∷ get_or b (i + 2) 0 ∷ get_or b (i + 3) 0 ∷ get_or b (i + 4) 0 ∷ get_or b (i + 4 + 1) 0 ∷ get_or b (i + 4 + 2) 0 ∷ get_or b (i + 4 + 3) 0 ∷ [] ≡ be8 (at8 b i)
  eight i = ap (λ (l : List ℕ). get_or b i 0 ∷ get_or b (i + 1) 0 ∷ get_or b (i + 2) 0 ∷ get_or b (i + 3) 0 ∷ l) (four (i + 4)) ∙ ap (λ (l : List ℕ). l ++ be4 (at4 b (i + 4))) (four i) ∙ both i
