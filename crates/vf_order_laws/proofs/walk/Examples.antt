-- The examples of what a walk finds first.
use Rattle.std.proofs.Common.{refl}
use Rattle.vf_order_laws.specs.walk.Following.{after, choose}
use Rattle.vf_sorts.specs.Pairs.{left_to_do}
use Rattle.vf_order_laws.specs.walk.Sorts.{made_at}
use Rattle.vf_order_laws.specs.walk.Examples.{FirstInExpressions}

pub first_in_expressions : FirstInExpressions
unfolding after choose made_at left_to_do
first_in_expressions = record {
  left = λ s k p q r. refl;
  right = λ s k p q r. refl;
  inside = λ s k p q. refl;
  whole = λ s p q. refl;
}
