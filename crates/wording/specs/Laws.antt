-- A word that is held whole, and one byte more of a line.
use Rattle.std.specs.Prelude.{◌≡◌, refl, List, [], ◌∷◌, ◌++◌, ℕ, ◌+◌, ◌≤◌, ◌<◌, length, take, get_or}
use Rattle.std.proofs.Common.{sym, ap, ◌∙◌, arith, add-one, length-take, take-suc, take-take, lt-ltb, le-ltb}
use Rattle.std.proofs.lemmas.List.{take-append-le}
use Rattle.definition.specs.Words.{when◌then◌else◌}
use Rattle.notation.specs.declared.Place.{Place}
use Rattle.notation.specs.declared.Place.TheVariants as at
use Rattle.notation.specs.declared.Expected.{Expected}
use Rattle.notation.specs.Notation.{expected_at, takes}
use Rattle.wording.specs.Wording.{word_most, Reading, word_takes, grown, reads, read_all}

-- there is no room for one byte more
pub full : (b : List ℕ) (n c : ℕ) → length b ≡ 21 → n ≤ 21 → 21 ≤ n → take n b ≡ grown (take n b) c
full b n c e h k =
    let g : n ≡ 21 = omega arith in
    let l : 21 ≤ length (take 21 b) = simp length-take (omega arith) in
    rw g (sym (take-append-le 21 (take 21 b) (c ∷ []) l ∙ take-take 21 21 b (omega arith)))

module _ (p : Place) (w : List ℕ) where
  pub takes_long : (x : Expected) → x ≡ expected_at p → 21 ≤ length w → at.Wrong x ≡ word_takes p w
  unfolding word_takes when◌then◌else◌
  takes_long x e h = rw (e, lt-ltb word_most (length w) (omega arith))

  pub takes_short : (q : Place) → q ≡ takes p w → length w < 21 → q ≡ word_takes p w
  unfolding word_takes when◌then◌else◌
  takes_short q e h = e ∙ sym (rw (le-ltb word_most (length w) (omega arith)))

read_behind : (r : Reading) (l : List ℕ) (c : ℕ) → read_all r (l ++ c ∷ []) ≡ reads (read_all r l) c
unfolding read_all
read_behind r [] c = refl
read_behind r (x ∷ l) c = read_behind (reads r x) l c

pub read_more : (r : Reading) (b : List ℕ) (i : ℕ) → i < length b → read_all r (take (i + 1) b) ≡ reads (read_all r (take i b)) (get_or b i 0)
read_more r b i h = ap (read_all r) (ap (λ (n : ℕ). take n b) (add-one i) ∙ take-suc b i 0 h) ∙ read_behind r (take i b) (get_or b i 0)
