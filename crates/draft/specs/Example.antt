-- Two texts worked out: a day in words, and one with mistakes.
use Rattle.std.specs.Prelude.{◌≡◌, refl, true, false, List, [], ◌∷◌, ◌++◌, ℕ}
use Prim.Native.String.{String}
use Rattle.definition.specs.Words.{when◌then◌else◌}
use Rattle.definition.specs.Bytes.{newline}
use Rattle.definition.specs.declared.Event.TheVariants.{CheckOut, CheckIn, MarkAsReady, Succeeded, SucceededForPool}
use Rattle.definition.specs.declared.Frame.{Frame}
use Rattle.definition.specs.declared.Frame.TheVariants.{Good}
use Rattle.definition.specs.declared.Options.{Options}
use Rattle.spelling.specs.Spelling.{digits, decimal, spelt}
use Rattle.notation.specs.declared.Expected.TheVariants.{Kind, MarkOrLetGo}
use Rattle.notation.specs.Notation.{number_up_to, small_number, option_named, start_takes, value_takes, naming_named, kind_takes, id_takes, marks_takes, let_go_takes, opened_takes, opened_at_takes}
use Rattle.wording.specs.Wording.{word_takes, end_word, reads, ended}
use Rattle.heading.specs.Heading.{options_of}
use Rattle.draft.specs.Draft.{Fault, line_ended, byte_taken, text_taken, day_told}

-- what a text tells, and its mistakes
record Tells (text : List ℕ) (o : Options) (fs : List Frame) (ms : List Fault) : Type 0 where
  options : options_of (day_told text).heading ≡ o
  frames : (day_told text).frames ≡ fs
  mistakes : (day_told text).mistakes ≡ ms

abbrev lines : List String → List ℕ
lines [] = []
lines (l ∷ ls) = spelt l ++ newline ∷ lines ls

abbrev any_day : List ℕ
any_day = lines (
    "5 ready"
    ∷ "6 check-out 1"
    ∷ "7 succeeded 1"
    ∷ "9 check-in 1 let-go 8"
    ∷ "9 check-out 2"
    ∷ "10 check-in 1 errored let-go 9"
    ∷ [])

any_day_lem : Tells any_day (record { maximum = 0; minimum = 0; connecting = 0; idle = 0 })
    (Good MarkAsReady 5 ∷ Good (CheckOut 1) 6 ∷ Good (Succeeded 1) 7 ∷ Good (CheckIn 1 false false 8) 9 ∷ Good (CheckOut 2) 9 ∷ Good (CheckIn 1 true false 9) 10 ∷ []) []
unfolding day_told text_taken byte_taken line_ended reads ended end_word word_takes when◌then◌else◌ digits decimal number_up_to small_number start_takes naming_named kind_takes id_takes marks_takes let_go_takes opened_takes
any_day_lem = record { options = refl; frames = refl; mistakes = refl }

-- an event's name that is none, and a check-in that does not say when its user let go; the other lines are told all the same
abbrev mistaken_day : List ℕ
mistaken_day = lines (
    "maximum 2   # connections"
    ∷ ""
    ∷ "5 redy"
    ∷ "6 check-out 1"
    ∷ "7 succeeded 1 opened 6"
    ∷ "9 check-in 1 errored"
    ∷ [])

mistaken_day_lem : Tells mistaken_day (record { maximum = 2; minimum = 0; connecting = 0; idle = 0 }) (Good (CheckOut 1) 6 ∷ Good (SucceededForPool 1 6) 7 ∷ [])
    (record { line = 3; what = Kind } ∷ record { line = 6; what = MarkOrLetGo } ∷ [])
unfolding day_told text_taken byte_taken line_ended reads ended end_word word_takes when◌then◌else◌ digits decimal number_up_to small_number option_named start_takes value_takes naming_named kind_takes id_takes marks_takes let_go_takes opened_takes opened_at_takes
mistaken_day_lem = record { options = refl; frames = refl; mistakes = refl }
