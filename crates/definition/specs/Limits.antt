-- Options in range, as inequalities.
use Rattle.std.specs.Prelude.{◌≡◌, true, ◌&&◌, ◌≤◌}
use borrow.Author.Tests.{le-leb, leb-true}
use Rattle.definition.specs.Booleans.{and_left, and_right, both_true}
use Rattle.definition.specs.Words.{◌≤?◌}
use Rattle.definition.specs.Pool.{slot_count, in_range}
use Rattle.definition.specs.Types.{Options}

pub record Limits (o : Options) : Type 0 where
  pub one : 1 ≤ o.maximum
  pub maximum : o.maximum ≤ slot_count
  pub minimum : o.minimum ≤ o.maximum
  pub connecting : (1 ≤ o.connecting) × (o.connecting ≤ slot_count)

module _ (o : Options) where
  pub limits_of : in_range o ≡ true → Limits o
  unfolding in_range
  limits_of h =
      let most? = 1 ≤? o.maximum && o.maximum ≤? slot_count in
      let fewest? = o.minimum ≤? o.maximum in
      let some? = 1 ≤? o.connecting in
      let up_to = and_left (most? && fewest? && some?) _ h in
      let ordered = and_left (most? && fewest?) some? up_to in
      let most = and_left most? fewest? ordered in
      record {
        one = leb-true _ _ (and_left (1 ≤? o.maximum) _ most);
        maximum = leb-true _ _ (and_right (1 ≤? o.maximum) _ most);
        minimum = leb-true _ _ (and_right most? fewest? ordered);
        connecting = (leb-true _ _ (and_right (most? && fewest?) some? up_to), leb-true _ _ (and_right (most? && fewest? && some?) _ h));
      }

  pub limits_pass : Limits o → in_range o ≡ true
  unfolding in_range
  limits_pass l =
      both_true
      (both_true
      (both_true
      (both_true (le-leb 1 o.maximum l.one) (le-leb o.maximum slot_count l.maximum))
      (le-leb o.minimum o.maximum l.minimum))
      (le-leb 1 o.connecting l.connecting.0))
      (le-leb o.connecting slot_count l.connecting.1)
