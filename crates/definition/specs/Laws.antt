-- Laws of single words of the definition, which the promises and the refinement cite.
use Rattle.std.specs.Prelude.{◌≡◌, refl, Bool, true, false, List, [], ◌∷◌, ℕ, zero, suc, ◌≤◌, length}
use Rattle.std.specs.Prelude.{None as none}
use Rattle.std.proofs.Common.{arith, eqb-true}
use Rattle.definition.specs.Words.{when◌then◌else◌, ◌=?◌}
use Rattle.definition.specs.Pool.{Conn, find, state_no, state_of_no}
use Rattle.definition.specs.Refusals.{Test, ◌if◌, first}
use Rattle.definition.specs.Steps.{kind_no}
use Rattle.definition.specs.Types.{Event, CheckOut, WarmPool, Abandon, CheckIn, Clear, MarkAsReady, Succeeded, SucceededForPool, Failed, Maintenance, FillPool, Pin, ReturnToPinner, TakeFromPinner, Close, InUse, Returned, Request, Background, ConnectionState, Vacant, CheckedIn, CheckedOut, Pinned, Pending, Refusal}

found : (n : ℕ) (c d : Conn) (b : Bool) → (c.id =? n) ≡ b → d.id ≡ n → (when b then c else d).id ≡ n
unfolding when◌then◌else◌
found n c d true e h = eqb-true c.id n e
found n c d false e h = h

-- what is found has the number that was asked for
pub find_id : (n : ℕ) (l : List Conn) → (find n l).id ≡ n
find_id n [] = refl
find_id n (c ∷ l) = found n c (find n l) (c.id =? n) refl (find_id n l)

-- a state is that of its number, and a number up to 6 that of its state
pub state_back : (s : ConnectionState) → state_of_no (state_no s) ≡ s
state_back Vacant = refl
state_back CheckedIn = refl
state_back CheckedOut = refl
state_back (Pinned InUse) = refl
state_back (Pinned Returned) = refl
state_back (Pending Request) = refl
state_back (Pending Background) = refl

pub number_back : (n : ℕ) → n ≤ 6 → state_no (state_of_no n) ≡ n
number_back zero h = refl
number_back (suc zero) h = refl
number_back (suc (suc zero)) h = refl
number_back (suc (suc (suc zero))) h = refl
number_back (suc (suc (suc (suc zero)))) h = refl
number_back (suc (suc (suc (suc (suc zero))))) h = refl
number_back (suc (suc (suc (suc (suc (suc zero)))))) h = refl
number_back (suc (suc (suc (suc (suc (suc (suc n))))))) h = absurd (omega arith)

-- where no test refuses, the first does not, and none of the others
pub not_first : (r : Refusal) (b : Bool) (ts : List Test) → first ((r if b) ∷ ts) ≡ none → (b ≡ false) × (first ts ≡ none)
unfolding when◌then◌else◌ first
not_first r true ts e = let z : ◌≡◌ {A = ℕ} 0 1 = cc in absurd (omega arith)
not_first r false ts e = (refl, e)

-- a list of no length is empty
pub no_length : {A : Type 0} (l : List A) → length l ≡ 0 → l ≡ []
no_length [] h = refl
no_length (x ∷ l) h = absurd (omega arith)

-- 5 is the number of a clear alone
pub not_clear : (e : Event) → ((t : Bool) (c : ℕ) → e ≡ Clear t c → ⊥) → (kind_no e =? 5) ≡ false
not_clear (CheckOut n) h = refl
not_clear (WarmPool n) h = refl
not_clear (Abandon n) h = refl
not_clear (CheckIn n er ex t) h = refl
not_clear (Clear t c) h = absurd (h t c refl)
not_clear MarkAsReady h = refl
not_clear (Succeeded n) h = refl
not_clear (SucceededForPool n t) h = refl
not_clear (Failed n) h = refl
not_clear Maintenance h = refl
not_clear FillPool h = refl
not_clear (Pin n) h = refl
not_clear (ReturnToPinner n) h = refl
not_clear (TakeFromPinner n) h = refl
not_clear Close h = refl
