-- A line's bytes as words: blanks part them, and # begins a comment.
use Rattle.std.specs.Prelude.{Bool, true, false, ◌||◌, List, [], ◌∷◌, ℕ, ◌+◌, length, take}
use Rattle.definition.specs.Words.{when◌then◌else◌, ◌<?◌, ◌=?◌, ◌∷ʳ◌}
use Rattle.notation.specs.declared.Place.{Place}
use Rattle.notation.specs.declared.Place.TheVariants as at
use Rattle.notation.specs.declared.Said.{Said}
use Rattle.notation.specs.Notation.{expected_at, takes, says}

-- a space, a tab, and the byte that some systems put before a newline
abbrev pub blank? : ℕ → Bool
blank? c = c =? 32 || c =? 9 || c =? 13

abbrev pub hash : ℕ
hash = 35

-- the longest number has 20 digits, and no name is longer
abbrev pub word_most : ℕ
word_most = 20

-- a line under way: where its reading stands, the word that has not ended, and whether the rest is not looked at, behind a # or
-- behind a mistake, whose word is kept
pub record Reading : Type 0 where
  pub place : Place
  pub word : List ℕ
  pub over : Bool

abbrev pub reading : Place → List ℕ → Bool → Reading
reading p w o = record { place = p; word = w; over = o }

abbrev pub begun : Reading
begun = reading at.Start [] false

abbrev pub wrong? : Place → Bool
wrong? at.Start = false
wrong? (at.Value s) = false
wrong? (at.Set s n) = false
wrong? at.IdleLimit = false
wrong? (at.IdleSet n) = false
wrong? (at.Kind t) = false
wrong? (at.Id t n) = false
wrong? (at.Cause t) = false
wrong? (at.Marks t i errored executing) = false
wrong? (at.LetGo t i errored executing) = false
wrong? (at.Timeout t cause) = false
wrong? (at.Opened t i) = false
wrong? (at.OpenedAt t i) = false
wrong? (at.Whole t e) = false
wrong? (at.Wrong x) = true

-- a longer word than any is none
unfoldable pub word_takes : Place → List ℕ → Place
word_takes p w = when word_most <? length w then at.Wrong (expected_at p) else takes p w

abbrev pub behind : List ℕ → Place → Reading
behind w p = when wrong? p then reading p w true else reading p [] false

-- the word ends here, if there is one
unfoldable pub end_word : Place → List ℕ → Reading
end_word p w = when length w =? 0 then reading p w false else behind w (word_takes p w)

-- one byte more of a word that is too long changes nothing
abbrev pub grown : List ℕ → ℕ → List ℕ
grown w c = take (word_most + 1) (w ∷ʳ c)

abbrev pub closed : Reading → Reading
closed r = reading r.place r.word true

-- one byte more
unfoldable pub reads : Reading → ℕ → Reading
reads r c =
    when r.over then r else
    when c =? hash then closed (end_word r.place r.word) else
    when blank? c then end_word r.place r.word else
    reading r.place (grown r.word c) false

unfoldable pub read_all : Reading → List ℕ → Reading
read_all r [] = r
read_all r (c ∷ l) = read_all (reads r c) l

-- the line ends here
unfoldable pub ended : Reading → Reading
ended r = when r.over then r else end_word r.place r.word

-- what a line says, without its newline
unfoldable pub said_by : List ℕ → Said
said_by l = says (ended (read_all begun l)).place
