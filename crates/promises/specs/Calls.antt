-- What it means that a call was accepted: it passed every test, and the pool is what its event made of it.
use Rattle.std.specs.Prelude.{◌≡◌, refl, true, false, not, ◌&&◌, ℕ}
use Rattle.std.proofs.Common.{true≢false}
use Rattle.std.proofs.lemmas.Bool.{not-false}
use Rattle.std.specs.Prelude.{Option, None as none, Some as some}
use Rattle.definition.specs.Booleans.{and_left}
use Rattle.definition.specs.Laws.{not_first}
use Rattle.definition.specs.Pool.{Pool, is_closed, has, with_clock}
use Rattle.definition.specs.Steps.{event}
use Rattle.definition.specs.Refusals.{first, tests, kind_tests, causeless, taken_after_close, step, outcome, verdict, counted, Result, Refused, Accepted}
use Rattle.definition.specs.declared.Event.{Event}
use Rattle.definition.specs.declared.Event.TheVariants.{CheckOut, WarmPool, Abandon, CheckIn, Clear, MarkAsReady, Succeeded, SucceededForPool, Failed, Maintenance, FillPool, Pin, ReturnToPinner, TakeFromPinner, Close}
use Rattle.definition.specs.declared.Frame.{Frame}
use Rattle.definition.specs.declared.Frame.TheVariants.{Good, Bad}
use Rattle.definition.specs.declared.Refusal.{Refusal}

abbrev pub Passed : Pool → Event → (now room : ℕ) → Type 0
Passed p e now room = first (tests p (Good e now) room) ≡ none

-- a call's result, refused or taken
pub data Stepped (p : Pool) : Frame → ℕ → Result → Type 0 where
  no_step : {f : Frame} {room : ℕ} (r : Refusal) → Stepped p f room (Refused r)
  a_step : {e : Event} {now room : ℕ} → Passed p e now room → Stepped p (Good e now) room (Accepted (counted (event e (with_clock p now))))

pub stepped : (p : Pool) (f : Frame) (room : ℕ) → Stepped p f room (step p f room)
unfolding step outcome tests
stepped p f room = go f (first (tests p f room)) refl
  where
    go : (f : Frame) (r : Option Refusal) → first (tests p f room) ≡ r → Stepped p f room (verdict r (outcome f p))
    go f (some r) h = no_step r
    go (Good e now) none h = a_step h
    go Bad none h = absurd (true≢false (not_first _ true _ (not_first _ _ _ h).1).0)

-- an accepted call passed each test
pub passed_caused : (p : Pool) (e : Event) (now room : ℕ) → Passed p e now room → causeless e ≡ false
unfolding tests
passed_caused p e now room h = (not_first _ _ _ (not_first _ _ _ h).1).0

pub passed_open : (p : Pool) (e : Event) (now room : ℕ) → Passed p e now room → is_closed p.state && not (taken_after_close e) ≡ false
unfolding tests
passed_open p e now room h = (not_first _ _ _ (not_first _ _ _ (not_first _ _ _ (not_first _ _ _ h).1).1).1).0

pub passed_kind : (p : Pool) (e : Event) (now room : ℕ) → Passed p e now room → first (kind_tests p e now) ≡ none
unfolding tests
passed_kind p e now room h = (not_first _ _ _ (not_first _ _ _ (not_first _ _ _ (not_first _ _ _ (not_first _ _ _ h).1).1).1).1).1

-- a connection that the event names is where the event needs it
unfoldable pub Named : Event → Pool → Type 0
Named (CheckOut n) p = Unit {0}
Named (WarmPool n) p = Unit {0}
Named (Abandon n) p = Unit {0}
Named (CheckIn n errored executing let_go) p = has n p.lent ≡ true
Named (Clear timeout cause) p = Unit {0}
Named MarkAsReady p = Unit {0}
Named (Succeeded n) p = has n p.pending ≡ true
Named (SucceededForPool n opened) p = has n p.pending ≡ true
Named (Failed n) p = has n p.pending ≡ true
Named Maintenance p = Unit {0}
Named FillPool p = Unit {0}
Named (Pin n) p = Unit {0}
Named (ReturnToPinner n) p = Unit {0}
Named (TakeFromPinner n) p = Unit {0}
Named Close p = Unit {0}

pub kind_named : (p : Pool) (e : Event) (now : ℕ) → first (kind_tests p e now) ≡ none → Named e (with_clock p now)
unfolding Named
kind_named p (CheckOut n) now h = tt
kind_named p (WarmPool n) now h = tt
kind_named p (Abandon n) now h = tt
kind_named p (CheckIn n errored executing let_go) now h = not-false _ (not_first _ _ _ h).0
kind_named p (Clear timeout cause) now h = tt
kind_named p MarkAsReady now h = tt
kind_named p (Succeeded n) now h = and_left (has n p.pending) _ (not-false _ (not_first _ _ _ h).0)
kind_named p (SucceededForPool n opened) now h = and_left (has n p.pending) _ (not-false _ (not_first _ _ _ h).0)
kind_named p (Failed n) now h = not-false _ (not_first _ _ _ h).0
kind_named p Maintenance now h = tt
kind_named p FillPool now h = tt
kind_named p (Pin n) now h = tt
kind_named p (ReturnToPinner n) now h = tt
kind_named p (TakeFromPinner n) now h = tt
kind_named p Close now h = tt

pub passed_named : (p : Pool) (e : Event) (now room : ℕ) → Passed p e now room → Named e (with_clock p now)
passed_named p e now room h = kind_named p e now (passed_kind p e now room h)
