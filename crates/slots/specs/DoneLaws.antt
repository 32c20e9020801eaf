-- One act after another, in code.
use Rattle.std.specs.Prelude.{◌≡◌, List, [], ◌∷◌, ◌++◌, ℕ, suc, ◌+◌, ◌*◌}
use Rattle.std.proofs.Math.Path.{refl, ap}
use Rattle.std.proofs.Common.{sym, ◌∙◌, arith}
use Rattle.std.proofs.Math.ListN.{length, length-append}
use Rattle.definition.specs.Records.{fields_of}
use Rattle.definition.specs.declared.Record.{Record}
use Rattle.definition.specs.Steps.{Out, Act, emit, ◌>>◌}
use Rattle.definition.specs.Bytes.{serial_of, record_bytes}
use Rattle.records.specs.Laid.{laid}
use Rattle.records.specs.Output.{Kept, Emits}
use Rattle.records.specs.declared.Records.{Records}
use Rattle.slots.specs.View.{SlotPool, pool_in}
use Rattle.slots.specs.declared.ConnectionPoolWorker.{ConnectionPoolWorker}
use Rattle.slots.specs.Done.{lay, Done, Did, Underway, Going}

pub lay_append : (s n : ℕ) (a b : List Record) (l : List ℕ) → lay s n (a ++ b) l ≡ lay s (n + length a) b (lay s n a l)
unfolding lay
lay_append s n [] b l = let e : n + 0 ≡ n = omega arith in rw e
lay_append s n (r ∷ a) b l =
    let e : n + suc (length a) ≡ n + 1 + length a = omega arith in
    rw e (lay_append s (n + 1) a b _)

module _ {P : Type 0} where
  pub done_then : (a b : Act P) (p q r : P) {s n m k : ℕ} {l₀ l₁ l₂ : List ℕ} → Done (a p) s n l₀ q m l₁ → Done (b q) s m l₁ r k l₂ → Done ((a >> b) p) s n l₀ r k l₂
  unfolding ◌>>◌
  done_then a b p q r {s} {n} {m} {k} {l₀} d e =
      let c : m ≡ n + length (a p).records = d.count in
      record {
        pool = e.pool ∙ ap (λ (x : P). (b x).pool) d.pool;
        count = rw (length-append, ← d.pool) (omega (arith, e.count, d.count));
        out = rw (← d.pool, lay_append, ← d.out, ← c) e.out;
      }

  pub done_emit : (r : Record) (q : P) {s n m : ℕ} {l₁ l₂ : List ℕ} → m ≡ n + 1 → l₂ ≡ laid l₁ (16 * n) (record_bytes (serial_of (s + n)) (fields_of r)) → Done (emit r q) s n l₁ q m l₂
  unfolding lay
  done_emit r q c e = record { pool = refl; count = c; out = e }

  -- an act that writes nothing
  pub done_quiet : (o : Out P) {s n : ℕ} {l : List ℕ} {q : P} → o.records ≡ [] → q ≡ o.pool → Done o s n l q n l
  unfolding lay
  done_quiet o {s} {n} {l} e f = record { pool = f; count = rw e (omega arith); out = rw e }

  pub done_nothing : (q : P) {s n : ℕ} {l : List ℕ} → Done (record { pool = q; records = [] }) s n l q n l
  unfolding lay
  done_nothing q = record { pool = refl; count = omega arith; out = refl }

  pub done_serial : {o : Out P} {s s' n m : ℕ} {l k : List ℕ} {q : P} → s ≡ s' → Done o s n l q m k → Done o s' n l q m k
  done_serial e d = record { pool = d.pool; count = d.count; out = rw (← e) d.out }

  pub done_at : {o : Out P} {s n m m' : ℕ} {l k : List ℕ} {q : P} → Done o s n l q m k → m' ≡ n + length o.records → Done o s n l q m' k
  done_at d e = record { pool = d.pool; count = e; out = d.out }

  -- the outcome by another name
  pub done_as : {o o' : Out P} {s n m : ℕ} {l k : List ℕ} {q : P} → o' ≡ o → Done o s n l q m k → Done o' s n l q m k
  done_as e d = rw e d

  -- ── In a loop ──

  pub underway_start : (o : Out P) (s n : ℕ) (l : List ℕ) → Underway o s n l o n l
  underway_start o s n l = record { pool = refl; count = refl; out = refl }

  pub underway_done : {o : Out P} {s n₀ : ℕ} {l₀ : List ℕ} (q : P) (n : ℕ) (l : List ℕ) → Underway o s n₀ l₀ (record { pool = q; records = [] }) n l → Done o s n₀ l₀ q n l
  unfolding lay
  underway_done q n l t = record { pool = t.pool; count = omega (arith, t.count); out = t.out }

  pub underway_then : {o : Out P} {s n₀ : ℕ} {l₀ : List ℕ} (o' : Out P) {n m : ℕ} {l l' : List ℕ} {r : P} → Underway o s n₀ l₀ o' n l → Done o' s n l r m l' → Done o s n₀ l₀ r m l'
  underway_then o' t d = record { pool = d.pool ∙ t.pool; count = d.count ∙ t.count; out = d.out ∙ t.out }

  -- a turn does the act a, and what is left to do is b
  pub underway_step : {o : Out P} {s n₀ : ℕ} {l₀ : List ℕ} (a b : Act P) (p q : P) {n m : ℕ} {l l' : List ℕ}
      → Underway o s n₀ l₀ ((a >> b) p) n l → Done (a p) s n l q m l' → Underway o s n₀ l₀ (b q) m l'
  unfolding ◌>>◌
  underway_step a b p q {n} {m} t d =
      let c : m ≡ n + length (a p).records = d.count in
      record {
        pool = rw d.pool t.pool;
        count = rw d.pool (omega (arith, c, t.count, length-append (a p).records (b (a p).pool).records));
        out = rw (d.pool, d.out, c) (sym (lay_append _ _ (a p).records (b (a p).pool).records _) ∙ t.out);
      }

-- ── Of a worker and its output ──

pub kept_same : (o : Records) → Kept o o
kept_same o = record { serial = refl; long = refl; same = refl }

pub kept_then : {o o₁ o₂ : Records} → Kept o o₁ → Kept o₁ o₂ → Kept o o₂
kept_then a b = record { serial = b.serial ∙ a.serial; long = b.long ∙ a.long; same = b.same ∙ a.same }

pub did_then : (a b : Act SlotPool) (p : SlotPool) {v v' : ConnectionPoolWorker} {o o₁ o₂ : Records} → Did (a p) v o o₁ → Did (b (pool_in v)) v' o₁ o₂ → Did ((a >> b) p) v' o o₂
did_then a b p {v} {v'} d e = record {
  done = done_then a b p (pool_in v) (pool_in v') d.done (done_serial d.kept.serial e.done);
  kept = kept_then d.kept e.kept;
}

pub did_emit : {r : Record} (v : ConnectionPoolWorker) {o o' : Records} → Emits r o o' → Did (emit r (pool_in v)) v o o'
did_emit {r} v e = record { done = done_emit r (pool_in v) e.count e.out; kept = e.kept }

-- an act that writes nothing
pub did_quiet : {x : Out SlotPool} (v : ConnectionPoolWorker) {o : Records} → x.records ≡ [] → pool_in v ≡ x.pool → Did x v o o
did_quiet {x} v {o} e f = record { done = done_quiet x e f; kept = kept_same o }

pub did_nothing : (v : ConnectionPoolWorker) {o : Records} → Did (record { pool = pool_in v; records = [] }) v o o
did_nothing v {o} = record { done = done_nothing (pool_in v); kept = kept_same o }

-- the outcome by another name
pub did_as : {x x' : Out SlotPool} {v : ConnectionPoolWorker} {o o' : Records} → x' ≡ x → Did x v o o' → Did x' v o o'
did_as e d = rw e d

-- ── In a loop ──

pub going_start : (x : Out SlotPool) (o : Records) → Going x o x o
going_start x o = record { told = underway_start x o.serial o.count o.out.now; kept = kept_same o }

pub going_done : {x : Out SlotPool} {o₀ : Records} (v : ConnectionPoolWorker) {o : Records} → Going x o₀ (record { pool = pool_in v; records = [] }) o → Did x v o₀ o
going_done v {o} g = record { done = underway_done (pool_in v) o.count o.out.now g.told; kept = g.kept }

pub going_then : {x : Out SlotPool} {o₀ : Records} (x' : Out SlotPool) {v : ConnectionPoolWorker} {o o' : Records} → Going x o₀ x' o → Did x' v o o' → Did x v o₀ o'
going_then x' g d = record { done = underway_then x' g.told (done_serial g.kept.serial d.done); kept = kept_then g.kept d.kept }

-- a turn does the act a, and what is left to do is b; it may write nothing
pub going_step : {x : Out SlotPool} {o₀ : Records} (a b : Act SlotPool) (p : SlotPool) {v : ConnectionPoolWorker} {o o' : Records}
    → Going x o₀ ((a >> b) p) o → Did (a p) v o o' → Going x o₀ (b (pool_in v)) o'
going_step a b p {v} g d = record { told = underway_step a b p (pool_in v) g.told (done_serial g.kept.serial d.done); kept = kept_then g.kept d.kept }

pub going_quiet : {x : Out SlotPool} {o₀ : Records} (a b : Act SlotPool) (p q : SlotPool) {o : Records}
    → Going x o₀ ((a >> b) p) o → (a p).records ≡ [] → q ≡ (a p).pool → Going x o₀ (b q) o
going_quiet a b p q g e f = record { told = underway_step a b p q g.told (done_quiet (a p) e f); kept = g.kept }

pub going_as : {x y y' : Out SlotPool} {o₀ o : Records} → y ≡ y' → Going x o₀ y o → Going x o₀ y' o
going_as e g = rw (sym e) g
