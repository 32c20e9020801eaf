-- A text is taken step by step, and read piece by piece.
use Rattle.std.specs.Prelude.{◌≡◌, refl, List, [], ◌++◌, ℕ, ◌+◌, ◌-◌, length, take, drop}
use Rattle.std.proofs.Common.{sym, ap, subst, ◌∙◌, arith, length-append, length-drop, take-add}
use Rattle.std.proofs.Math.Seq.{take-length}
use Rattle.sending.specs.declared.Part.{Part}
use Rattle.sending.specs.declared.Flowed.{Flowed}
use Rattle.sending.specs.Flow.{Laws, Takes, Drains, Going, Ends, Flows}

pub to_the_end : (t : List ℕ) (at : ℕ) → take (length t - at) (drop at t) ≡ drop at t
to_the_end t at = subst (λ (n : ℕ). take n (drop at t) ≡ drop at t) (length-drop at t) (take-length (drop at t))

pub left_over : (t : List ℕ) (at : ℕ) → length (take (length t - at) (drop at t)) ≡ length t - at
left_over t at = ap length (to_the_end t at) ∙ length-drop at t

module _ {S : Type 0} (Ready : S → Type 0) (Took : S → List ℕ → List ℕ → S → Type 0) (laws : Laws Ready Took) where
  pub drains_none : (s : S) (b : ℕ) → Ready s → Drains Ready Took s b [] s b
  drains_none s b r = record { log = []; took = laws.none s r; sent = omega arith; ready = r }

  pub drains_more : (s : S) (b : ℕ) (t : List ℕ) (s' : S) (c at : ℕ) (after : List ℕ) (p : Part) (s'' : S) (c' : ℕ) → Drains Ready Took s b (take at t) s' c
      → Takes Ready Took s' (take (length t - at) (drop at t)) after p s'' → c' ≡ c + length (take p.written after) → Drains Ready Took s b (take (at + p.read) t) s'' c'
  drains_more s b t s' c at after p s'' c' d k e =
      let u : List ℕ = take (length t - at) (drop at t) in
      let l : take at t ++ take p.read u ≡ take (at + p.read) t =
      ap (λ (x : List ℕ). take at t ++ take p.read x) (to_the_end t at) ∙ sym (take-add at p.read t) in
      let a : length (d.log ++ take p.written after) ≡ length d.log + length (take p.written after) = length-append d.log (take p.written after) in
      record {
        log = d.log ++ take p.written after;
        took =
            subst (λ (x : List ℕ). Took s x (d.log ++ take p.written after) s'') l
            (laws.more s (take at t) d.log s' (take p.read u) (take p.written after) s'' d.took k.took);
        sent = omega (arith, d.sent, e, a);
        ready = k.ready;
      }

  pub going_none : (s : S) → Ready s → Going Ready Took s s 0 0
  going_none s r = record { text = []; log = []; took = laws.none s r; read = refl; sent = refl; ready = r }

  pub going_more : (s s' : S) (got gone : ℕ) (piece : List ℕ) (got' : ℕ) (s'' : S) (c : ℕ) → got' ≡ got + length piece → Going Ready Took s s' got gone
      → Drains Ready Took s' gone piece s'' c → Going Ready Took s s'' got' c
  going_more s s' got gone piece got' s'' c e g d =
      let a : length (g.text ++ piece) ≡ length g.text + length piece = length-append g.text piece in
      let b : length (g.log ++ d.log) ≡ length g.log + length d.log = length-append g.log d.log in
      record {
        text = g.text ++ piece;
        log = g.log ++ d.log;
        took = laws.more s g.text g.log s' piece d.log s'' g.took d.took;
        read = omega (arith, g.read, a, e);
        sent = omega (arith, g.sent, d.sent, b);
        ready = d.ready;
      }

module _ {S : Type 0} (Ready : S → Type 0) (Took : S → List ℕ → List ℕ → S → Type 0) (Ended : S → List ℕ → ℕ → Type 0) where
  pub flows : (s s' : S) (got gone : ℕ) (r : Flowed) → Going Ready Took s s' got gone → Ends Ended s' got gone r → Flows Ended Took s r
  flows s s' got gone r g e = record {
    text = g.text;
    log = g.log;
    last = s';
    took = g.took;
    ends = record { rest = e.rest; ended = e.ended; read = e.read ∙ g.read; sent = omega (arith, e.sent, g.sent) };
  }
