-- What the code says of a text in words that is read and written: the text so far, and how much was told and sent.
use Rattle.std.specs.Prelude.{◌≡◌, refl, List, [], ◌++◌, ℕ, ◌+◌, ◌≤◌, length}
use Rattle.std.proofs.Common.{sym, ap, subst, ◌∙◌, arith, length-append}
use Rattle.draft.specs.declared.Draft.{Draft}
use Rattle.draft.specs.Draft.{Text, start, text_taken, line_ended, closed, day_told}
use Rattle.draft.specs.Steps.{text_of, end_room, Begins}
use Rattle.draft.specs.Laws.{Ahead, taken_append, follows, follows_end}
use Rattle.wording.specs.Held.{view_of}
use Rattle.scribe.specs.declared.Passed.{Passed}

-- the text s is under way as d, its bytes are the log, and behind m₀ mistakes there are m with its own
pub record Led (s : Text) (m₀ : ℕ) (log : List ℕ) (d : Draft) (m : ℕ) : Type 0 where
  pub reading : view_of d.line ≡ s.reading
  pub line : d.number ≡ s.line
  pub heading : d.heading ≡ s.heading
  pub mistakes : m ≡ m₀ + length s.mistakes
  pub out : log ≡ s.out

-- from d₀ the text was taken whole
abbrev pub Follows : Draft → (mistakes : ℕ) → (text log : List ℕ) → Draft → ℕ → Type 0
Follows d₀ m₀ text log d m = Led (text_taken (text_of d₀) text) m₀ log d m

-- the text's end: what it lays, and all mistakes
pub record Ended (d : Draft) (m₀ : ℕ) (rest : List ℕ) (m : ℕ) : Type 0 where
  pub mistakes : m ≡ m₀ + length (closed (line_ended (text_of d))).mistakes
  pub out : rest ≡ (closed (line_ended (text_of d))).out

-- some text was read, as long as the count says; its mistakes and the bytes of its day are as many as were counted
pub record Passes (r : Passed) : Type 0 where
  pub text : List ℕ
  pub read : r.read ≡ length text
  pub mistakes : r.mistakes ≡ length (day_told text).mistakes
  pub sent : r.sent ≡ length (day_told text).out

-- ── As what takes a text ───────────────────────────────────────────────────────────────────────────────────────────────────

pub follows_none : (d : Draft) (m : ℕ) → Follows d m [] [] d m
unfolding text_taken
follows_none d m = record { reading = refl; line = refl; heading = refl; mistakes = omega arith; out = refl }

-- a text, and what follows it
led_on : (s x b : Text) (m₀ : ℕ) (l : List ℕ) (d : Draft) (m : ℕ) (k : List ℕ) (d' : Draft) (m' : ℕ) → Led s m₀ l d m → Ahead s.out s.mistakes x b → Led b m k d' m'
    → Led x m₀ (l ++ k) d' m'
led_on s x b m₀ l d m k d' m' f a g =
    let e : length x.mistakes ≡ length s.mistakes + length b.mistakes = ap length a.mistakes ∙ length-append s.mistakes b.mistakes in
    record {
      reading = g.reading ∙ sym a.reading;
      line = g.line ∙ sym a.line;
      heading = g.heading ∙ sym a.heading;
      mistakes = omega (arith, g.mistakes, f.mistakes, e);
      out = ap (λ (o : List ℕ). o ++ k) f.out ∙ ap (λ (o : List ℕ). s.out ++ o) g.out ∙ sym a.out;
    }

pub follows_more : (d : Draft) (m : ℕ) (text log : List ℕ) (d' : Draft) (m' : ℕ) (next more : List ℕ) (d'' : Draft) (m'' : ℕ) → Follows d m text log d' m'
    → Follows d' m' next more d'' m'' → Follows d m (text ++ next) (log ++ more) d'' m''
follows_more d m text log d' m' next more d'' m'' f g =
    let s : Text = text_taken (text_of d) text in
    subst (λ (x : Text). Led x m (log ++ more) d'' m'') (sym (taken_append (text_of d) text next))
    (led_on s (text_taken s next) (text_taken (text_of d') next) m log d' m' more d'' m'' f (follows s d' f.reading f.line f.heading next) g)

pub room_is_small : end_room ≤ 65536
room_is_small = omega arith

-- a text from its first byte to its end
pub passes : (d : Draft) (text log : List ℕ) (d' : Draft) (m : ℕ) (rest : List ℕ) (all read sent : ℕ) → Begins d → Follows d 0 text log d' m → Ended d' m rest all
    → read ≡ length text → sent ≡ length log + length rest → Passes (record { read = read; mistakes = all; sent = sent })
unfolding day_told
passes d text log d' m rest all read sent b f e p q =
    let s : Text = text_taken start text in
    let t : Text = closed (line_ended (text_of d')) in
    let x : Text = closed (line_ended s) in
    let l : Led s 0 log d' m = subst (λ (y : Text). Led (text_taken y text) 0 log d' m) b.is f in
    let a = follows_end s d' l.reading l.line l.heading in
    let u : length x.mistakes ≡ length s.mistakes + length t.mistakes = ap length a.mistakes ∙ length-append s.mistakes t.mistakes in
    let v : length x.out ≡ length s.out + length t.out = ap length a.out ∙ length-append s.out t.out in
    record {
      text = text;
      read = p;
      mistakes = omega (arith, e.mistakes, l.mistakes, u);
      sent = omega (arith, q, ap length l.out, ap length e.out, v);
    }
