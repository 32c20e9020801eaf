-- What a line says is good: an event that is not malformed, and numbers that fit where they are stored.
use Rattle.std.specs.Prelude.{◌≡◌, Bool, true, List, [], ◌∷◌, ℕ, ◌≤◌, ◌<◌, Option, Some, None, unwrap_or, MatchOption, ⊤, if◌then◌else◌}
use Rattle.std.proofs.Math.Path.{refl}
use Rattle.std.proofs.Common.{subst, arith, ne_eqb}
use Rattle.std.proofs.Math.Bool.{false}
use Rattle.std.proofs.lemmas.Bool.{eqb-false}
use Rattle.definition.specs.Words.{when◌then◌else◌, ◌=?◌}
use Rattle.definition.specs.Events.{parts_of}
use Rattle.definition.specs.Refusals.{causeless}
use Rattle.definition.specs.RoundTrip.{Writable}
use Rattle.definition.specs.declared.Event.{Event}
use Rattle.definition.specs.declared.Event.TheVariants.{CheckIn, SucceededForPool}
use Rattle.spelling.specs.Spelling.{most, same, looked_up}
use Rattle.notation.specs.declared.Setting.{Setting}
use Rattle.notation.specs.declared.Naming.{Naming}
use Rattle.notation.specs.declared.Naming.TheVariants as of
use Rattle.notation.specs.declared.Expected.{Expected}
use Rattle.notation.specs.declared.Expected.TheVariants as wants
use Rattle.notation.specs.declared.Place.{Place}
use Rattle.notation.specs.declared.Place.TheVariants as at
use Rattle.notation.specs.declared.Said.{Said}
use Rattle.notation.specs.declared.Said.TheVariants as line
use Rattle.notation.specs.Notation.{number_up_to, most_small, small_number, made, expected_of, options, option_named, starts, start_takes, value_takes, idle_takes, namings, naming_named, bare, kinds, kind_takes, named, id_takes, cause_takes, marks_takes, let_go_takes, timeout_takes, opened_takes, opened_at_takes, takes, says}
use Rattle.notation.specs.Laws.{at_most, small_at_most}

-- ── Where the reading stands, all is good ──────────────────────────────────────────────────────────────────────────────────

abbrev pub In32 : ℕ → Type 0
In32 n = n < 4294967296

abbrev pub In64 : ℕ → Type 0
In64 n = n < 18446744073709551616

-- an event at a time that no pool would call malformed, and that a day can hold
abbrev pub Sound : (time : ℕ) → Event → Type 0
Sound t e = (causeless e ≡ false) × Writable e t

abbrev pub Fits : Place → Type 0
Fits at.Start = Unit {0}
Fits (at.Value s) = Unit {0}
Fits (at.Set s n) = In32 n
Fits at.IdleLimit = Unit {0}
Fits (at.IdleSet n) = In64 n
Fits (at.Kind t) = In64 t
Fits (at.Id t n) = In64 t
Fits (at.Cause t) = In64 t
Fits (at.Marks t i errored executing) = In64 t × In32 i
Fits (at.LetGo t i errored executing) = In64 t × In32 i
Fits (at.Timeout t cause) = In64 t × In32 cause × (cause ≡ 0 → ⊥)
Fits (at.Opened t i) = In64 t × In32 i
Fits (at.OpenedAt t i) = In64 t × In32 i
Fits (at.Whole t e) = Sound t e
Fits (at.Wrong x) = Unit {0}

pub fits_start : Fits at.Start
fits_start = tt

-- ── One word more ──────────────────────────────────────────────────────────────────────────────────────────────────────────

-- whatever a test says, where both places fit
both : (b : Bool) (x y : Place) → Fits x → Fits y → Fits (when b then x else y)
unfolding when◌then◌else◌
both true x y p q = p
both false x y p q = q

-- the second need fit for other numbers than 0 only
unless_zero : (n : ℕ) (b : Bool) → (n =? 0) ≡ b → (x y : Place) → Fits x → ((n ≡ 0 → ⊥) → Fits y) → Fits (when b then x else y)
unfolding when◌then◌else◌
unless_zero n true e x y p q = p
unless_zero n false e x y p q = q (eqb-false n 0 e)

-- what a number makes fits, where it does of each number that there can be
from_number : (f : ℕ → Place) (x : Expected) (o : Option ℕ) (largest : ℕ) → MatchOption o ⊤ (λ n. n ≤ largest) → ((n : ℕ) → n ≤ largest → Fits (f n))
    → Fits (made f x o)
from_number f x (Some n) largest h k = k n h
from_number f x None largest h k = tt

module _ (f : ℕ → Place) (x : Expected) (w : List ℕ) where
  from_small : ((n : ℕ) → In32 n → Fits (f n)) → Fits (made f x (small_number w))
  from_small k = from_number f x (small_number w) most_small (small_at_most w) (λ n h. k n (omega arith))

  from_large : ((n : ℕ) → In64 n → Fits (f n)) → Fits (made f x (number_up_to most w))
  from_large k = from_number f x (number_up_to most w) most (at_most most w) (λ n h. k n (omega arith))

-- of a table's entries what a word is looked up to be
abbrev All : {T : Type 0} → (T → Type 0) → List (List ℕ × T) → Type 0
All P [] = Unit {0}
All P (x ∷ l) = P x.1 × All P l

looked_up_case : {T : Type 0} (P : T → Type 0) (b : Bool) (x : T) (o : Option T) → P x → MatchOption o ⊤ P → MatchOption (if b then Some x else o) ⊤ P
looked_up_case P true x o p q = p
looked_up_case P false x o p q = q

looked_up_all : {T : Type 0} (P : T → Type 0) (l : List (List ℕ × T)) (w : List ℕ) → All P l → MatchOption (looked_up l w) ⊤ P
looked_up_all P [] w h = tt
looked_up_all P (x ∷ l) w h = looked_up_case P (same x.0 w) x.1 (looked_up l w) h.0 (looked_up_all P l w h.1)

fits_or_wrong : (o : Option Place) (x : Expected) → MatchOption o ⊤ Fits → Fits (unwrap_or o (at.Wrong x))
fits_or_wrong (Some p) x h = h
fits_or_wrong None x h = tt

fits_option : (w : List ℕ) → Fits (option_named w)
unfolding option_named
fits_option w = fits_or_wrong (looked_up options w) wants.TimeOrOption (looked_up_all Fits options w (tt, (tt, (tt, (tt, tt)))))

module _ (t : ℕ) (h : In64 t) where
  -- an event at a time that fits
  sound : (e : Event) → causeless e ≡ false → In32 (parts_of e).id → In64 (parts_of e).second → Sound t e
  sound e c i s = (c, record { id = i; time = h; second = s })

  fits_naming : (w : List ℕ) → Fits (naming_named t w)
  unfolding naming_named
  fits_naming w = go (looked_up namings w)
    where
      go : (o : Option Naming) → Fits (made (at.Id t) wants.Kind o)
      go (Some n) = h
      go None = tt

  fits_named : (n : Naming) (i : ℕ) → In32 i → Fits (named t n i)
  fits_named of.CheckOut i k = sound _ refl k (omega arith)
  fits_named of.WarmPool i k = sound _ refl k (omega arith)
  fits_named of.Abandon i k = sound _ refl k (omega arith)
  fits_named of.CheckIn i k = (h, k)
  fits_named of.Succeeded i k = (h, k)
  fits_named of.Failed i k = sound _ refl k (omega arith)
  fits_named of.Pin i k = sound _ refl k (omega arith)
  fits_named of.ReturnToPinner i k = sound _ refl k (omega arith)
  fits_named of.TakeFromPinner i k = sound _ refl k (omega arith)

  fits_kinds : (w : List ℕ) (o : Option Event) → MatchOption o ⊤ (Sound t) → Fits (kinds t w o)
  fits_kinds w (Some e) k = k
  fits_kinds w None k = both _ _ _ h (fits_naming w)

  fits_kind : (w : List ℕ) → Fits (kind_takes t w)
  unfolding kind_takes
  fits_kind w =
      let none : (e : Event) → causeless e ≡ false → (parts_of e).id ≡ 0 → (parts_of e).second ≡ 0 → Sound t e = λ e c i s. sound e c (omega arith) (omega arith) in
      fits_kinds w (looked_up bare w)
      (looked_up_all (Sound t) bare w (none _ refl refl refl, (none _ refl refl refl, (none _ refl refl refl, (none _ refl refl refl, tt)))))

  fits_id : (n : Naming) (w : List ℕ) → Fits (id_takes t n w)
  unfolding id_takes
  fits_id n w = from_small (named t n) (expected_of n) w (fits_named n)

  fits_cause : (w : List ℕ) → Fits (cause_takes t w)
  unfolding cause_takes
  fits_cause w = from_small _ wants.Cause w (λ n k. unless_zero n _ refl (at.Wrong wants.Cause) (at.Timeout t n) tt (λ z. (h, k, z)))

  module _ (i : ℕ) (k : In32 i) where
    fits_marks : (errored executing : Bool) (w : List ℕ) → Fits (marks_takes t i errored executing w)
    unfolding marks_takes
    fits_marks errored executing w = both _ _ _ (h, k) (both _ _ _ (h, k) (both _ _ _ (h, k) tt))

    fits_let_go : (errored executing : Bool) (w : List ℕ) → Fits (let_go_takes t i errored executing w)
    unfolding let_go_takes
    fits_let_go errored executing w = from_large _ wants.LetGo w (λ n l. sound (CheckIn i errored executing n) refl k l)

    fits_timeout : (w : List ℕ) → (i ≡ 0 → ⊥) → Fits (timeout_takes t i w)
    unfolding timeout_takes
    fits_timeout w z = both _ _ _ (sound _ (ne_eqb i 0 z) k (omega arith)) tt

    fits_opened : (w : List ℕ) → Fits (opened_takes t i w)
    unfolding opened_takes
    fits_opened w = both _ _ _ (h, k) tt

    fits_opened_at : (w : List ℕ) → Fits (opened_at_takes t i w)
    unfolding opened_at_takes
    fits_opened_at w = from_large _ wants.Opened w (λ n l. sound (SucceededForPool i n) refl k l)

fits_starts : (w : List ℕ) (o : Option ℕ) → MatchOption o ⊤ (λ n. n ≤ most) → Fits (starts w o)
fits_starts w (Some n) h = omega arith
fits_starts w None h = fits_option w

fits_start_takes : (w : List ℕ) → Fits (start_takes w)
unfolding start_takes
fits_start_takes w = fits_starts w (number_up_to most w) (at_most most w)

fits_value : (s : Setting) (w : List ℕ) → Fits (value_takes s w)
unfolding value_takes
fits_value s w = from_small (at.Set s) wants.Value w (λ n h. h)

fits_idle : (w : List ℕ) → Fits (idle_takes w)
unfolding idle_takes
fits_idle w = from_large at.IdleSet wants.IdleLimit w (λ n h. h)

pub fits_takes : (p : Place) (w : List ℕ) → Fits p → Fits (takes p w)
fits_takes at.Start w h = fits_start_takes w
fits_takes (at.Value s) w h = fits_value s w
fits_takes (at.Set s n) w h = tt
fits_takes at.IdleLimit w h = fits_idle w
fits_takes (at.IdleSet n) w h = tt
fits_takes (at.Kind t) w h = fits_kind t h w
fits_takes (at.Id t n) w h = fits_id t h n w
fits_takes (at.Cause t) w h = fits_cause t h w
fits_takes (at.Marks t i errored executing) w h = fits_marks t h.0 i h.1 errored executing w
fits_takes (at.LetGo t i errored executing) w h = fits_let_go t h.0 i h.1 errored executing w
fits_takes (at.Timeout t cause) w h = fits_timeout t h.0 cause h.1 w h.2
fits_takes (at.Opened t i) w h = fits_opened t h.0 i h.1 w
fits_takes (at.OpenedAt t i) w h = fits_opened_at t h.0 i h.1 w
fits_takes (at.Whole t e) w h = tt
fits_takes (at.Wrong x) w h = tt

-- ── The line's end ─────────────────────────────────────────────────────────────────────────────────────────────────────────

-- what holds of what a line says
abbrev Kept : Said → Type 0
Kept line.Nothing = Unit {0}
Kept (line.Option s n) = In32 n
Kept (line.IdleLimit n) = In64 n
Kept (line.Event t e) = Sound t e
Kept (line.Mistake x) = Unit {0}

kept : (p : Place) → Fits p → Kept (says p)
kept at.Start h = tt
kept (at.Value s) h = tt
kept (at.Set s n) h = h
kept at.IdleLimit h = tt
kept (at.IdleSet n) h = h
kept (at.Kind t) h = tt
kept (at.Id t n) h = tt
kept (at.Cause t) h = tt
kept (at.Marks t i errored executing) h = tt
kept (at.LetGo t i errored executing) h = tt
kept (at.Timeout t cause) h = sound t h.0 _ (ne_eqb cause 0 h.2) h.1 (omega arith)
kept (at.Opened t i) h = sound t h.0 _ refl h.1 (omega arith)
kept (at.OpenedAt t i) h = tt
kept (at.Whole t e) h = h
kept (at.Wrong x) h = tt

module _ (p : Place) (h : Fits p) where
  pub fits_says : {t : ℕ} {e : Event} → says p ≡ line.Event t e → (causeless e ≡ false) × Writable e t
  fits_says q = subst Kept q (kept p h)

  pub fits_option_says : {s : Setting} {n : ℕ} → says p ≡ line.Option s n → n < 4294967296
  fits_option_says q = subst Kept q (kept p h)

  pub fits_idle_says : {n : ℕ} → says p ≡ line.IdleLimit n → n < 18446744073709551616
  fits_idle_says q = subst Kept q (kept p h)
