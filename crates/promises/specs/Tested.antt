-- The maximum at creation. The Rust tests it where it makes a connection for a waiter, and puts the waiter back in front where there is
-- no room; the definition has no such branch. With the test in its place the service stage is the same, in every pool that is reached
-- or that a call accepts.
use Rattle.std.specs.Prelude.{List, [], ◌∷◌, reverse}
use Rattle.definition.specs.Words.{when◌then◌else◌, ◌<?◌, ◌≤?◌}
use Rattle.definition.specs.Pool.{Pool, Conn, Waiter, total, perished, with_available, with_waiting}
use Rattle.definition.specs.Records.{told}
use Rattle.definition.specs.declared.Reply.TheVariants.{Warmed}
use Rattle.definition.specs.Steps.{Act, ◌>>◌, nothing, emit, become, close_perished, can_service, establish, lend}

-- ── The stage with the test ────────────────────────────────────────────────────────────────────────────────────────────

unfoldable pub establish_tested : Waiter → Act Pool
establish_tested w p = (when total p <? p.options.maximum then establish w else become (with_waiting p (w ∷ p.waiting))) p

unfoldable pub take_tested : Waiter → (backToFront : List Conn) → Act Pool
take_tested w [] p = establish_tested w p
take_tested w (c ∷ cs) p =
    (do
      become (with_available p (reverse cs))
      when perished p c then close_perished c >> take_tested w cs else lend w c
    ) p

unfoldable pub check_out_tested : Waiter → Act Pool
check_out_tested w p =
    (when w.warm
    then (when p.options.minimum ≤? total p then emit (told Warmed w) else establish_tested w)
    else take_tested w (reverse p.available)
    ) p

unfoldable pub serve_tested : List Waiter → Act Pool
serve_tested [] p = nothing p
serve_tested (w ∷ ws) p = (become (with_waiting p ws) >> check_out_tested w) p

unfoldable pub service_tested : Act Pool
service_tested p = (when can_service p then serve_tested p.waiting else nothing) p
