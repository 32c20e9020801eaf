-- What `puts` calls giving back is that: the service stage leaves a healthy connection at the back of the available list, available since now.
use Rattle.std.specs.Prelude.{◌≡◌, Bool, true, false, not, ◌&&◌}
use Rattle.std.proofs.Math.Path.{refl}
use Rattle.std.proofs.Common.{sym, ◌∙◌, true≢false}
use Rattle.std.proofs.lemmas.Bool.{false≢true, not-true}
use mathlib.Core.List.{List, [], ◌∷◌, ◌++◌, reverse, reverse-cons, append-nil}
use Rattle.definition.specs.Booleans.{and_left, and_right}
use Rattle.definition.specs.Words.{when◌then◌else◌, any?, ◌∷ʳ◌}
use Rattle.definition.specs.Pool.{Pool, Conn, Waiter, perished, with_state, with_waiting}
use Rattle.definition.specs.Steps.{Out, Act, ◌>>◌, can_service, check_out, serve_front, service}
use Rattle.definition.specs.declared.ConnectionState.TheVariants.{CheckedIn}
use Rattle.definition.specs.Sentences.{All, FrontFails, found, others, Took}
use Rattle.definition.proofs.Sentences.{if_both, takes}
use Rattle.promises.specs.Runs.{front_abandoned, gives_back}

pub record GaveBack (q : Pool) (o : Out Pool) : Type 0 where
  pub given : Conn
  pub rest : List Conn
  pub healthy : perished q given ≡ false
  pub at_back : o.pool.available ≡ rest ∷ʳ with_state CheckedIn q.clock given

module _ (t : Conn → Bool) where
  all_append : (a b : List Conn) → All t (a ++ b) → All t a × All t b
  all_append [] b h = (tt, h)
  all_append (c ∷ a) b h = let r = all_append a b h.1 in ((h.0, r.0), r.1)

  all_reverse : (l : List Conn) → All t (reverse l) → All t l
  all_reverse [] h = tt
  all_reverse (c ∷ l) h = let r = all_append (reverse l) (c ∷ []) (rw reverse-cons at h) in (r.1.0, all_reverse l r.0)

  none_fails : (l : List Conn) → All t l → any? (λ c. not (t c)) l ≡ false
  unfolding when◌then◌else◌
  none_fails [] a = refl
  none_fails (c ∷ l) a = rw a.0 (none_fails l a.1)

-- where one of them is healthy, one is found
took_gives_back : (w : Waiter) (q : Pool) (l : List Conn) (o : Out Pool) → Took w q (reverse l) o → w.abandoned ≡ true → any? (λ c. not (perished q c)) l ≡ true → GaveBack q o
unfolding when◌then◌else◌
took_gives_back w q l o k a h = go k.left k.parts k.stops (k.available_after ∙ rw a)
  where
    go : (left : List Conn) → reverse l ≡ k.gone ++ left → FrontFails (perished q) left → o.pool.available ≡ reverse (others left) ++ found CheckedIn q.clock left → GaveBack q o
    go [] e s v =
        let all : All (perished q) (reverse l) = rw (e, append-nil) k.all_perished in
        absurd (true≢false (sym h ∙ none_fails (perished q) l (all_reverse (perished q) l all)))
    go (c ∷ cs) e s v = record { given = c; rest = reverse cs; healthy = s; at_back = v }

front_gives_back : (l : List Waiter) (q : Pool) → front_abandoned l ≡ true → any? (λ c. not (perished q c)) q.available ≡ true → GaveBack q (serve_front l q)
unfolding serve_front ◌>>◌
front_gives_back [] q f h = absurd (false≢true f)
front_gives_back (w ∷ l) q f h =
    let p = with_waiting q l in
    let g = took_gives_back w p q.available (check_out w p) (takes w p (not-true _ (and_left (not w.warm) _ f))) (and_right (not w.warm) _ f) h in
    record { given = g.given; rest = g.rest; healthy = g.healthy; at_back = g.at_back }

pub gives_back_lem : (q : Pool) → gives_back q ≡ true → GaveBack q (service q)
unfolding service
gives_back_lem q h =
    let two = and_left (can_service q && front_abandoned q.waiting) _ h in
    if_both (λ (a : Act Pool). GaveBack q (a q))
    (λ _. front_gives_back q.waiting q (and_right (can_service q) _ two) (and_right (can_service q && front_abandoned q.waiting) _ h))
    (λ k. absurd (true≢false (sym (and_left (can_service q) _ two) ∙ k)))
