-- The place of an expression.
use Rattle.std.proofs.Common.{◌≡◌, refl}
use Rattle.vf_base.specs.declared.place.Place.{Place}
use Rattle.vf_syntax.specs.declared.expr.ExprNode.{ExprNode}
use Rattle.vf_syntax.specs.declared.expr.ExprNode.TheVariants as nodes
use Rattle.vf_syntax.specs.ExprShown.{expr_of}
use Rattle.vf_lower.specs.Settings.{place_of}

-- an expression stands at the place that its node has
pub place_is : (p : Place) (n : ExprNode) → place_of (expr_of p n) ≡ p
place_is p (nodes.Number a b) = refl
place_is p (nodes.Character a) = refl
place_is p nodes.True = refl
place_is p nodes.False = refl
place_is p (nodes.Name a) = refl
place_is p (nodes.Parenthesized a) = refl
place_is p (nodes.Malloc a) = refl
place_is p (nodes.MallocInts a b) = refl
place_is p (nodes.Postfix a b) = refl
place_is p (nodes.Unary a b) = refl
place_is p (nodes.Cast a b) = refl
place_is p (nodes.Chain a b d) = refl
place_is p (nodes.Conditional a b d) = refl
