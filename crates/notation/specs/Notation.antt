-- The grammar of a day in words: where the reading of a line stands, what it takes there, and what a whole line says.
use Rattle.std.specs.Prelude.{Bool, true, false, not, ◌&&◌, List, [], ◌∷◌, ℕ, Option, Some, None, unwrap_or, Result, Ok, Err}
use Rattle.definition.specs.Words.{when◌then◌else◌, ◌=?◌, ◌≤?◌}
use Rattle.definition.specs.declared.Event.{Event}
use Rattle.definition.specs.declared.Event.TheVariants.{CheckOut, WarmPool, Abandon, CheckIn, Clear, MarkAsReady, Succeeded, SucceededForPool, Failed, Maintenance, FillPool, Pin, ReturnToPinner, TakeFromPinner, Close}
use Rattle.spelling.specs.declared.NumberError.{NumberError}
use Rattle.spelling.specs.Spelling.{most, decimal, number_of, same, looked_up, spelt}
use Rattle.notation.specs.declared.Setting.{Setting}
use Rattle.notation.specs.declared.Setting.TheVariants.{Maximum, Minimum, MaxConnecting}
use Rattle.notation.specs.declared.Naming.{Naming}
use Rattle.notation.specs.declared.Naming.TheVariants as of
use Rattle.notation.specs.declared.Expected.{Expected}
use Rattle.notation.specs.declared.Expected.TheVariants as wants
use Rattle.notation.specs.declared.Place.{Place}
use Rattle.notation.specs.declared.Place.TheVariants as at
use Rattle.notation.specs.declared.Said.{Said}
use Rattle.notation.specs.declared.Said.TheVariants as line

-- ── Numbers ────────────────────────────────────────────────────────────────────────────────────────────────────────────────

-- a word that is a number in decimal, from 0 to a largest one
abbrev pub fits : (largest : ℕ) → Result ℕ NumberError → Option ℕ
fits largest (Ok n) = when n ≤? largest then Some n else None
fits largest (Err e) = None

unfoldable pub number_up_to : (largest : ℕ) → List ℕ → Option ℕ
number_up_to largest w = fits largest (number_of (decimal w))

-- one of 32 bits
abbrev pub most_small : ℕ
most_small = 4294967295

unfoldable pub small_number : List ℕ → Option ℕ
small_number w = number_up_to most_small w

-- what a number, or a name, makes of the line, or what should have come
abbrev pub made : {N : Type 0} → (N → Place) → Expected → Option N → Place
made f x (Some n) = f n
made f x None = at.Wrong x

-- ── What should come ───────────────────────────────────────────────────────────────────────────────────────────────────────

abbrev pub expected_of : Naming → Expected
expected_of of.CheckOut = wants.Request
expected_of of.WarmPool = wants.Request
expected_of of.Abandon = wants.Request
expected_of of.CheckIn = wants.Connection
expected_of of.Succeeded = wants.Connection
expected_of of.Failed = wants.Connection
expected_of of.Pin = wants.Connection
expected_of of.ReturnToPinner = wants.Connection
expected_of of.TakeFromPinner = wants.Connection

abbrev pub expected_at : Place → Expected
expected_at at.Start = wants.TimeOrOption
expected_at (at.Value s) = wants.Value
expected_at (at.Set s n) = wants.End
expected_at at.IdleLimit = wants.IdleLimit
expected_at (at.IdleSet n) = wants.End
expected_at (at.Kind t) = wants.Kind
expected_at (at.Id t n) = expected_of n
expected_at (at.Cause t) = wants.Cause
expected_at (at.Marks t i errored executing) = wants.MarkOrLetGo
expected_at (at.LetGo t i errored executing) = wants.LetGo
expected_at (at.Timeout t cause) = wants.TimeoutOrEnd
expected_at (at.Opened t i) = wants.OpenedOrEnd
expected_at (at.OpenedAt t i) = wants.Opened
expected_at (at.Whole t e) = wants.End
expected_at (at.Wrong x) = x

-- ── One word more ──────────────────────────────────────────────────────────────────────────────────────────────────────────

abbrev pub options : List (List ℕ × Place)
options =
    (spelt "maximum", at.Value Maximum)
    ∷ (spelt "minimum", at.Value Minimum)
    ∷ (spelt "max-connecting", at.Value MaxConnecting)
    ∷ (spelt "idle-limit", at.IdleLimit)
    ∷ []

unfoldable pub option_named : List ℕ → Place
option_named w = unwrap_or (looked_up options w) (at.Wrong wants.TimeOrOption)

-- a line begins with an event's time, or with an option's name
abbrev pub starts : List ℕ → Option ℕ → Place
starts w (Some n) = at.Kind n
starts w None = option_named w

unfoldable pub start_takes : List ℕ → Place
start_takes w = starts w (number_up_to most w)

unfoldable pub value_takes : Setting → List ℕ → Place
value_takes s w = made (at.Set s) wants.Value (small_number w)

unfoldable pub idle_takes : List ℕ → Place
idle_takes w = made at.IdleSet wants.IdleLimit (number_up_to most w)

abbrev pub namings : List (List ℕ × Naming)
namings =
    (spelt "check-out", of.CheckOut)
    ∷ (spelt "warm", of.WarmPool)
    ∷ (spelt "abandon", of.Abandon)
    ∷ (spelt "check-in", of.CheckIn)
    ∷ (spelt "succeeded", of.Succeeded)
    ∷ (spelt "failed", of.Failed)
    ∷ (spelt "pin", of.Pin)
    ∷ (spelt "return", of.ReturnToPinner)
    ∷ (spelt "take", of.TakeFromPinner)
    ∷ []

unfoldable pub naming_named : (time : ℕ) → List ℕ → Place
naming_named t w = made (at.Id t) wants.Kind (looked_up namings w)

-- some events have nothing behind their names, and a clear has its cause
abbrev pub bare : List (List ℕ × Event)
bare = (spelt "ready", MarkAsReady) ∷ (spelt "maintenance", Maintenance) ∷ (spelt "fill", FillPool) ∷ (spelt "close", Close) ∷ []

abbrev pub kinds : (time : ℕ) → List ℕ → Option Event → Place
kinds t w (Some e) = at.Whole t e
kinds t w None = when same w (spelt "clear") then at.Cause t else naming_named t w

unfoldable pub kind_takes : (time : ℕ) → List ℕ → Place
kind_takes t w = kinds t w (looked_up bare w)

-- an event with the number of its request or connection
abbrev pub named : (time : ℕ) → Naming → (id : ℕ) → Place
named t of.CheckOut i = at.Whole t (CheckOut i)
named t of.WarmPool i = at.Whole t (WarmPool i)
named t of.Abandon i = at.Whole t (Abandon i)
named t of.CheckIn i = at.Marks t i false false
named t of.Succeeded i = at.Opened t i
named t of.Failed i = at.Whole t (Failed i)
named t of.Pin i = at.Whole t (Pin i)
named t of.ReturnToPinner i = at.Whole t (ReturnToPinner i)
named t of.TakeFromPinner i = at.Whole t (TakeFromPinner i)

unfoldable pub id_takes : (time : ℕ) → Naming → List ℕ → Place
id_takes t n w = made (named t n) (expected_of n) (small_number w)

-- there is no cause 0
unfoldable pub cause_takes : (time : ℕ) → List ℕ → Place
cause_takes t w = made (λ n. when n =? 0 then at.Wrong wants.Cause else at.Timeout t n) wants.Cause (small_number w)

-- the marks of a check-in stand in any order, each once at most, and let-go behind them
unfoldable pub marks_takes : (time id : ℕ) (errored executing : Bool) → List ℕ → Place
marks_takes t i errored executing w =
    when not errored && same w (spelt "errored") then at.Marks t i true executing else
    when not executing && same w (spelt "executing") then at.Marks t i errored true else
    when same w (spelt "let-go") then at.LetGo t i errored executing else
    at.Wrong wants.MarkOrLetGo

unfoldable pub let_go_takes : (time id : ℕ) (errored executing : Bool) → List ℕ → Place
let_go_takes t i errored executing w = made (λ n. at.Whole t (CheckIn i errored executing n)) wants.LetGo (number_up_to most w)

unfoldable pub timeout_takes : (time cause : ℕ) → List ℕ → Place
timeout_takes t cause w = when same w (spelt "timeout") then at.Whole t (Clear true cause) else at.Wrong wants.TimeoutOrEnd

-- a success that says when the connection was opened is one in background
unfoldable pub opened_takes : (time id : ℕ) → List ℕ → Place
opened_takes t i w = when same w (spelt "opened") then at.OpenedAt t i else at.Wrong wants.OpenedOrEnd

unfoldable pub opened_at_takes : (time id : ℕ) → List ℕ → Place
opened_at_takes t i w = made (λ n. at.Whole t (SucceededForPool i n)) wants.Opened (number_up_to most w)

-- behind the first mistake nothing more is looked at
abbrev pub takes : Place → (word : List ℕ) → Place
takes at.Start w = start_takes w
takes (at.Value s) w = value_takes s w
takes (at.Set s n) w = at.Wrong wants.End
takes at.IdleLimit w = idle_takes w
takes (at.IdleSet n) w = at.Wrong wants.End
takes (at.Kind t) w = kind_takes t w
takes (at.Id t n) w = id_takes t n w
takes (at.Cause t) w = cause_takes t w
takes (at.Marks t i errored executing) w = marks_takes t i errored executing w
takes (at.LetGo t i errored executing) w = let_go_takes t i errored executing w
takes (at.Timeout t cause) w = timeout_takes t cause w
takes (at.Opened t i) w = opened_takes t i w
takes (at.OpenedAt t i) w = opened_at_takes t i w
takes (at.Whole t e) w = at.Wrong wants.End
takes (at.Wrong x) w = at.Wrong x

-- ── The line's end ─────────────────────────────────────────────────────────────────────────────────────────────────────────

-- a line without a word says nothing; one that ends too early is a mistake
abbrev pub says : Place → Said
says at.Start = line.Nothing
says (at.Set s n) = line.Option s n
says (at.IdleSet n) = line.IdleLimit n
says (at.Timeout t cause) = line.Event t (Clear false cause)
says (at.Opened t i) = line.Event t (Succeeded i)
says (at.Whole t e) = line.Event t e
says (at.Value s) = line.Mistake wants.Value
says at.IdleLimit = line.Mistake wants.IdleLimit
says (at.Kind t) = line.Mistake wants.Kind
says (at.Id t n) = line.Mistake (expected_of n)
says (at.Cause t) = line.Mistake wants.Cause
says (at.Marks t i errored executing) = line.Mistake wants.MarkOrLetGo
says (at.LetGo t i errored executing) = line.Mistake wants.LetGo
says (at.OpenedAt t i) = line.Mistake wants.Opened
says (at.Wrong x) = line.Mistake x
