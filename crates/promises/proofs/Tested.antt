-- The maximum at creation. The Rust tests it where it makes a connection for a waiter, and puts the waiter back in front where there is
-- no room; the definition has no such branch. With the test in its place the service stage is the same, in every pool that is reached
-- or that a call accepts.
use Rattle.std.specs.Prelude.{◌≡◌, refl, Bool, true, false, List, [], ◌∷◌, reverse, ◌+◌, ◌≤◌, ◌<◌, length}
use Rattle.std.proofs.Common.{sym, arith, lt-ltb, leb-false}
use Rattle.std.proofs.lemmas.List.{length-reverse}
use Rattle.definition.specs.Words.{when◌then◌else◌}
use Rattle.definition.specs.Pool.{Pool, Conn, Waiter, total, with_available, with_waiting}
use Rattle.definition.specs.Records.{told}
use Rattle.definition.specs.declared.Reply.TheVariants.{Warmed}
use Rattle.definition.specs.Steps.{Act, ◌>>◌, nothing, emit, close_perished, establish, lend, take_available, check_out, serve_front, service}
use Rattle.promises.proofs.Bound.{room}
use Rattle.promises.specs.Reached.{Reached}
use Rattle.promises.specs.Tested.{establish_tested, take_tested, check_out_tested, serve_tested, service_tested}

-- ── It is the same ─────────────────────────────────────────────────────────────────────────────────────────────────────

same_if : {b : Bool} (a₁ a₂ b₁ b₂ : Act Pool) (p : Pool) → (b ≡ true → a₁ p ≡ b₁ p) → (b ≡ false → a₂ p ≡ b₂ p) → (when b then a₁ else a₂) p ≡ (when b then b₁ else b₂) p
unfolding when◌then◌else◌
same_if {b = true} a₁ a₂ b₁ b₂ p f g = f refl
same_if {b = false} a₁ a₂ b₁ b₂ p f g = g refl

establish_same : (w : Waiter) (p : Pool) → total p < p.options.maximum → establish_tested w p ≡ establish w p
unfolding establish_tested when◌then◌else◌
establish_same w p h = rw (lt-ltb (total p) p.options.maximum h)

-- the pool is the same whoever is told of what was closed
after_closing : (a b : Act Pool) (c : Conn) (p : Pool) → a p ≡ b p → (close_perished c >> a) p ≡ (close_perished c >> b) p
unfolding close_perished ◌>>◌
after_closing a b c p e = rw e

take_same : (w : Waiter) (l : List Conn) (p : Pool) → length p.available ≡ length l → total p ≤ p.options.maximum
    → total p < p.options.maximum + length l → take_tested w l p ≡ take_available w l p
unfolding take_tested take_available ◌>>◌
take_same w [] p e f h = establish_same w p (omega arith)
take_same w (c ∷ cs) p e f h =
    let n : length (reverse cs) ≡ length cs = length-reverse cs in
    let q = with_available p (reverse cs) in
    let rest = take_same w cs q n (omega arith) (omega arith) in
    same_if (close_perished c >> take_tested w cs) (lend w c) (close_perished c >> take_available w cs) (lend w c) q
    (λ _. after_closing (take_tested w cs) (take_available w cs) c q rest) (λ _. refl)

check_out_same : (w : Waiter) (p : Pool) → p.options.minimum ≤ p.options.maximum → total p ≤ p.options.maximum
    → total p < p.options.maximum + length p.available → check_out_tested w p ≡ check_out w p
unfolding check_out_tested check_out
check_out_same w p k f h =
    same_if _ _ _ _ p
    (λ _. same_if (emit (told Warmed w)) (establish_tested w) (emit (told Warmed w)) (establish w) p (λ _. refl) (λ b. establish_same w p (omega (arith, leb-false p.options.minimum (total p) b))))
    (λ _. take_same w (reverse p.available) p (sym (length-reverse p.available)) f (rw length-reverse h))

serve_same : (l : List Waiter) (p : Pool) → p.options.minimum ≤ p.options.maximum → total p ≤ p.options.maximum
    → total p < p.options.maximum + length p.available → serve_tested l p ≡ serve_front l p
unfolding serve_tested serve_front ◌>>◌
serve_same [] p k f h = refl
serve_same (w ∷ l) p k f h = check_out_same w (with_waiting p l) k f h

pub maximum_tested : (p : Pool) → Reached p → service_tested p ≡ service p
unfolding service_tested service
maximum_tested p g =
    same_if (serve_tested p.waiting) nothing (serve_front p.waiting) nothing p
    (λ h. serve_same p.waiting p g.ordered g.fits (room p h g.fits)) (λ _. refl)
