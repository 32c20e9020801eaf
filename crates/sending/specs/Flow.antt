-- What is said of a text that is taken in pieces of any cut, and of the bytes that are laid for it and sent.
use Rattle.std.specs.Prelude.{◌≡◌, List, [], ◌++◌, ℕ, ◌+◌, ◌≤◌, ◌<◌, length, take}
use Rattle.sending.specs.declared.Part.{Part}
use Rattle.sending.specs.declared.Rest.{Rest}
use Rattle.sending.specs.declared.Flowed.{Flowed}

module _ {S : Type 0} (Ready : S → Type 0) (Took : S → List ℕ → List ℕ → S → Type 0) where
  -- what a taker keeps: no text leaves it as it is, and a text and what follows it are one text
  pub record Laws : Type 0 where
    pub none : (s : S) → Ready s → Took s [] [] s
    pub more : (s : S) (text log : List ℕ) (s' : S) (next more : List ℕ) (s'' : S) → Took s text log s' → Took s' next more s''
        → Took s (text ++ next) (log ++ more) s''

  -- some of a piece, if there is one, and what was laid for it
  pub record Takes (s : S) (text after : List ℕ) (p : Part) (s' : S) : Type 0 where
    pub within : p.read ≤ length text
    pub moves : 0 < length text → 0 < p.read
    pub fits : p.written ≤ length after
    pub ready : Ready s'
    pub took : Took s (take p.read text) (take p.written after) s'

  -- from s, behind `before` bytes of output: the text was taken whole, and n bytes went out in all
  pub record Drains (s : S) (before : ℕ) (text : List ℕ) (s' : S) (n : ℕ) : Type 0 where
    pub log : List ℕ
    pub took : Took s text log s'
    pub sent : n ≡ before + length log
    pub ready : Ready s'

  -- between two reads
  pub record Going (s s' : S) (got gone : ℕ) : Type 0 where
    pub text : List ℕ
    pub log : List ℕ
    pub took : Took s text log s'
    pub read : got ≡ length text
    pub sent : gone ≡ length log
    pub ready : Ready s'

module _ {S : Type 0} (Ended : S → List ℕ → ℕ → Type 0) where
  -- what is laid at the text's end
  pub record Closes (s : S) (after : List ℕ) (r : Rest) : Type 0 where
    pub fits : r.written ≤ length after
    pub ended : Ended s (take r.written after) r.tally

  -- the end, behind `got` bytes of text and `before` of output
  pub record Ends (s : S) (got before : ℕ) (r : Flowed) : Type 0 where
    pub rest : List ℕ
    pub ended : Ended s rest r.tally
    pub read : r.read ≡ got
    pub sent : r.sent ≡ before + length rest

  -- some text was taken whole, as long as the count says, and so are the bytes that were laid for it
  pub record Flows (Took : S → List ℕ → List ℕ → S → Type 0) (s : S) (r : Flowed) : Type 0 where
    pub text : List ℕ
    pub log : List ℕ
    pub last : S
    pub took : Took s text log last
    pub ends : Ends last (length text) (length log) r
