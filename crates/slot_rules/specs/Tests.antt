-- The rules on slots: what each function of the code gives, said of the columns that it is lent.
use Rattle.std.specs.Prelude.{◌≡◌, Bool, true, false, not, ◌&&◌, ◌||◌, List, ℕ, zero, suc, ◌+◌, get_or}
use Rattle.std.proofs.Common.{eqb-true}
use Rattle.definition.specs.Booleans.{and_left, and_right}
use Rattle.definition.specs.Words.{when◌then◌else◌, ◌=?◌, ◌<?◌, ◌≤?◌}
use Rattle.definition.specs.Pool.{slot_count}
use Rattle.slots.specs.View.{Slot, vacant, slot_in}
use Rattle.refinement.specs.Agree.{Class}
use Rattle.refinement.specs.Mirror.{is_pending}
use Rattle.refinement.specs.Rules.{is_shelved, one_if}

-- ── Words: of all places below n; how many of them; among the first n ──────────────────────────────────────────────────

unfoldable pub every : ℕ → (ℕ → Bool) → Bool
every zero t = true
every (suc n) t = every n t && t n

unfoldable pub tally : ℕ → (ℕ → Bool) → ℕ
tally zero t = 0
tally (suc n) t = tally n t + one_if (t n)

unfoldable pub among : ℕ → ℕ → List ℕ → Bool
among x zero l = false
among x (suc n) l = among x n l || get_or l n 0 =? x

-- ── One cell ───────────────────────────────────────────────────────────────────────────────────────────────────────────

abbrev pub is_taken : Class
is_taken k = not (k =? 0)

-- all is 0
abbrev pub is_vacant : Slot → Bool
is_vacant s = s.state =? 0 && (s.generation =? 0 && s.time =? 0)

-- which only the vacant slot is
zero_first : (n : ℕ) (b : Bool) → (n =? 0 && b) ≡ true → (n ≡ 0) × (b ≡ true)
zero_first n b h = (eqb-true n 0 (and_left (n =? 0) b h), and_right (n =? 0) b h)

pub vacant_only : (s : Slot) → is_vacant s ≡ true → s ≡ vacant
vacant_only s h =
    let k = zero_first s.state (s.generation =? 0 && s.time =? 0) h in
    let g = zero_first s.generation (s.time =? 0) k.1 in
    let t = eqb-true s.time 0 g.1 in
    rw (k.0, g.0, t)

-- where no connection is, the slot is vacant; where one is, it is in a state of a connection
unfoldable pub slot_fits : ℕ → Slot → Bool
slot_fits id s = when id =? 0 then is_vacant s else 1 ≤? s.state && s.state ≤? 6

-- whether what the columns hold of slot i fits
abbrev pub slot_fits_at : (ids generations times states : List ℕ) → ℕ → Bool
slot_fits_at ids generations times states i = slot_fits (get_or ids i 0) (slot_in generations times states i)

abbrev pub is_dated : (generation time of since : ℕ) → Bool
is_dated generation time of since = of ≤? generation && since ≤? time

-- ── The rules ──────────────────────────────────────────────────────────────────────────────────────────────────────────

unfoldable pub ids_below : List ℕ → ℕ → Bool
ids_below ids next = every slot_count (λ i. get_or ids i 0 <? next)

-- an id that is not 0 is not among those before it
abbrev pub new_id : List ℕ → ℕ → Bool
new_id ids i = get_or ids i 0 =? 0 || not (among (get_or ids i 0) i ids)

unfoldable pub ids_distinct : List ℕ → Bool
ids_distinct ids = every slot_count (new_id ids)

unfoldable pub slots_fit : (ids generations times states : List ℕ) → Bool
slots_fit ids generations times states = every slot_count (slot_fits_at ids generations times states)

abbrev pub dated_at : (generations times : List ℕ) → (generation time : ℕ) → ℕ → Bool
dated_at generations times generation time i = is_dated generation time (get_or generations i 0) (get_or times i 0)

unfoldable pub slots_dated : (generations times : List ℕ) → (generation time : ℕ) → Bool
slots_dated generations times generation time = every slot_count (dated_at generations times generation time)

abbrev pub how_many : Class → List ℕ → ℕ
how_many t states = tally slot_count (λ i. t (get_or states i 0))

unfoldable pub counts_right : List ℕ → ℕ → ℕ → ℕ → Bool
counts_right states total pending available = how_many is_taken states =? total && (how_many is_pending states =? pending && how_many is_shelved states =? available)
