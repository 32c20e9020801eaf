-- Laws of tests: and, or, and a case for each answer.
use Rattle.std.specs.Prelude.{◌≡◌, refl, Bool, true, false, ◌&&◌, ◌||◌, ℕ, ◌≤◌, ◌<◌}
use Rattle.std.proofs.Common.{ap, true≢false, eqb-true, ltb-true, ltb-false}
use Rattle.std.proofs.lemmas.Bool.{false≢true, eqb-false}
use Rattle.std.proofs.lemmas.Bool.Decides.{nat_tests}
use Rattle.definition.specs.Words.{when◌then◌else◌, ◌=?◌, ◌<?◌}

-- ── A case by a test ───────────────────────────────────────────────────────────────────────────────────────────────────

pub by_bool : {A : Type 0} (b : Bool) → (b ≡ true → A) → (b ≡ false → A) → A
by_bool true f g = f refl
by_bool false f g = g refl

pub by_eq : {A : Type 0} (a b : ℕ) → (a ≡ b → A) → ((a ≡ b → ⊥) → A) → A
by_eq a b f g = by_bool (a =? b) (λ e. f (eqb-true a b e)) (λ e. g (eqb-false a b e))

pub by_lt : {A : Type 0} (a b : ℕ) → (a < b → A) → (b ≤ a → A) → A
by_lt a b f g = by_bool (a <? b) (λ e. f (ltb-true a b e)) (λ e. g (ltb-false a b e))

-- ── Choice ─────────────────────────────────────────────────────────────────────────────────────────────────────────────

pub when_true : {A : Type 0} (b : Bool) (x y : A) → b ≡ true → (when b then x else y) ≡ x
unfolding when◌then◌else◌
when_true true x y e = refl
when_true false x y e = absurd (false≢true e)

pub when_false : {A : Type 0} (b : Bool) (x y : A) → b ≡ false → (when b then x else y) ≡ y
unfolding when◌then◌else◌
when_false true x y e = absurd (true≢false e)
when_false false x y e = refl

-- for `grind`, at goals where the code's tests choose
pub ruleset choices = (nat_tests, when_true, when_false)

-- ── And ────────────────────────────────────────────────────────────────────────────────────────────────────────────────

pub and_left : (a b : Bool) → (a && b) ≡ true → a ≡ true
and_left true b h = refl
and_left false b h = absurd (false≢true h)

pub and_right : (a b : Bool) → (a && b) ≡ true → b ≡ true
and_right true b h = h
and_right false b h = absurd (false≢true h)

pub both_true : {a b : Bool} → a ≡ true → b ≡ true → (a && b) ≡ true
both_true p q = rw (p, q)

pub no_first : (a b : Bool) → a ≡ false → (a && b) ≡ false
no_first a b e = ap (λ (x : Bool). x && b) e

pub no_second : (a b : Bool) → b ≡ false → (a && b) ≡ false
no_second true b e = e
no_second false b e = refl

-- ── Or ─────────────────────────────────────────────────────────────────────────────────────────────────────────────────

pub or_left : (a b : Bool) → (a || b) ≡ false → a ≡ false
or_left true b h = absurd (true≢false h)
or_left false b h = refl

pub or_right : (a b : Bool) → (a || b) ≡ false → b ≡ false
or_right true b h = absurd (true≢false h)
or_right false b h = h

pub or_other : (a b : Bool) → a ≡ false → (a || b) ≡ true → b ≡ true
or_other true b h k = absurd (true≢false h)
or_other false b h k = k

pub or_true : (b : Bool) → (b || true) ≡ true
or_true true = refl
or_true false = refl

pub or_false : (b : Bool) → (b || false) ≡ b
or_false true = refl
or_false false = refl
