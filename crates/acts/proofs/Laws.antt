-- What a waiter is told, by its marks.
use Rattle.std.specs.Prelude.{◌≡◌, true, false, ◌%◌, ◌/◌, ◌≤◌, ◌<◌, ℕ}
use Rattle.std.proofs.Common.{le-leb}
use Rattle.std.proofs.lemmas.Bool.{lt-leb}
use Rattle.definition.specs.Words.{when◌then◌else◌}
use Rattle.definition.specs.Pool.{Waiter}
use Rattle.definition.specs.Records.{told}
use Rattle.definition.specs.declared.Reply.{Reply}
use Rattle.definition.specs.declared.Reply.TheVariants.{Unheard}
use Rattle.definition.specs.declared.Record.TheVariants.{Replied}
use Rattle.records.specs.Output.{Emits}
use Rattle.records.specs.declared.Records.{Records}
use Rattle.records.proofs.Laws.{emits_low}
use Rattle.slots.specs.View.{waiter_of}

module _ (w : Waiter) (a : Reply) where
  pub told_by_unheard : w.abandoned ≡ true → told a w ≡ Replied w.id Unheard
  unfolding told when◌then◌else◌
  told_by_unheard e = rw e

  pub told_by_heard : w.abandoned ≡ false → told a w ≡ Replied w.id a
  unfolding told when◌then◌else◌
  told_by_heard e = rw e

module _ (w : ℕ) (a : Reply) where
  pub told_unheard : 2 ≤ w % 4 → told a (waiter_of w) ≡ Replied (w / 4) Unheard
  told_unheard h = told_by_unheard (waiter_of w) a (le-leb _ _ h)

  pub told_heard : w % 4 < 2 → told a (waiter_of w) ≡ Replied (w / 4) a
  told_heard h = told_by_heard (waiter_of w) a (lt-leb _ _ h)

  module _ (r : Reply) {o o' : Records} where
    pub tells_unheard : 2 ≤ w % 4 → r ≡ Unheard → Emits (Replied (w / 4 % 4294967296) r) o o' → Emits (told a (waiter_of w)) o o'
    tells_unheard h q e = rw (told_unheard h, ← q) (emits_low _ r e)

    pub tells_heard : w % 4 < 2 → r ≡ a → Emits (Replied (w / 4 % 4294967296) r) o o' → Emits (told a (waiter_of w)) o o'
    tells_heard h q e = rw (told_heard h, ← q) (emits_low _ r e)

pub ruleset tells = (tells_unheard, tells_heard)
