-- The heading of a day in words: which options its lines have given, and whether an event has come.
use Rattle.std.specs.Prelude.{Bool, true, false, ℕ, Some, None, is_some, unwrap_or}
use Rattle.definition.specs.Words.{when◌then◌else◌}
use Rattle.definition.specs.declared.Options.{Options}
use Rattle.notation.specs.declared.Setting.{Setting}
use Rattle.notation.specs.declared.Setting.TheVariants.{Maximum, Minimum, MaxConnecting}
use Rattle.notation.specs.declared.Expected.TheVariants.{NoOption, OtherOption}
use Rattle.notation.specs.declared.Said.{Said}
use Rattle.notation.specs.declared.Said.TheVariants as line
use Rattle.heading.specs.declared.Heading.{Heading}
use Rattle.heading.specs.declared.Heard.{Heard}
use Rattle.heading.specs.declared.Told.{Told}
use Rattle.heading.specs.declared.Told.TheVariants as tells

-- ── The heading ────────────────────────────────────────────────────────────────────────────────────────────────────────────

-- an option that is not given is 0, which a pool takes for its default
abbrev pub blank : Heading
blank = record {
  maximum = None;
  minimum = None;
  connecting = None;
  idle = None;
  if_not_given = record { maximum = 0; minimum = 0; connecting = 0; idle = 0 };
  is_begun = false;
}

abbrev pub options_of : Heading → Options
options_of h = record {
  maximum = unwrap_or h.maximum h.if_not_given.maximum;
  minimum = unwrap_or h.minimum h.if_not_given.minimum;
  connecting = unwrap_or h.connecting h.if_not_given.connecting;
  idle = unwrap_or h.idle h.if_not_given.idle;
}

abbrev pub has : Heading → Setting → Bool
has h Maximum = is_some h.maximum
has h Minimum = is_some h.minimum
has h MaxConnecting = is_some h.connecting

module _ (h : Heading) where
  abbrev pub with_setting : Setting → ℕ → Heading
  with_setting Maximum n = record { maximum = Some n; minimum = h.minimum; connecting = h.connecting; idle = h.idle; if_not_given = h.if_not_given; is_begun = h.is_begun }
  with_setting Minimum n = record { maximum = h.maximum; minimum = Some n; connecting = h.connecting; idle = h.idle; if_not_given = h.if_not_given; is_begun = h.is_begun }
  with_setting MaxConnecting n = record { maximum = h.maximum; minimum = h.minimum; connecting = Some n; idle = h.idle; if_not_given = h.if_not_given; is_begun = h.is_begun }

  abbrev pub with_idle : ℕ → Heading
  with_idle n = record { maximum = h.maximum; minimum = h.minimum; connecting = h.connecting; idle = Some n; if_not_given = h.if_not_given; is_begun = h.is_begun }

  abbrev pub with_event : Heading
  with_event = record { maximum = h.maximum; minimum = h.minimum; connecting = h.connecting; idle = h.idle; if_not_given = h.if_not_given; is_begun = true }

-- ── A line ─────────────────────────────────────────────────────────────────────────────────────────────────────────────────

-- what a line leaves of the heading, and what it tells
abbrev pub heard : Heading → Told → Heard
heard h t = record { heading = h; told = t }

-- options stand before the first event, each once
abbrev pub option : Heading → (given : Bool) → Heading → Heard
option h given h' =
    when h.is_begun then heard h (tells.Mistake NoOption) else
    when given then heard h (tells.Mistake OtherOption) else
    heard h' tells.Nothing

abbrev pub hears : Heading → Said → Heard
hears h line.Nothing = heard h tells.Nothing
hears h (line.Option s n) = option h (has h s) (with_setting h s n)
hears h (line.IdleLimit n) = option h (is_some h.idle) (with_idle h n)
hears h (line.Event t e) = heard (with_event h) (tells.Event t e)
hears h (line.Mistake x) = heard h (tells.Mistake x)
