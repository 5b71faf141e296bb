-- Forms of expressions.
use Rattle.std.proofs.Common.{Box, Global, ◌≡◌, ◌≢◌, ℕ, Bool, false, refl}
use Rattle.vf_base.specs.declared.int_type.IntType.{IntType}
use Rattle.vf_base.specs.declared.place.Place.{Place}
use Rattle.vf_syntax.specs.GhostExprTree.{GhostExprTree}
use Rattle.vf_syntax.specs.GhostExprShown.{ghost_expr_of}
use Rattle.vf_syntax.specs.declared.ghost_expr.GhostExprNode.{GhostExprNode}
use Rattle.vf_syntax.specs.declared.ghost_expr.GhostExprNode.TheVariants as nodes
use Rattle.vf_sorting.specs.Operators.{goes_inside, place_of}

-- an expression stands where its first token does
pub place_told : (p : Place) (n : GhostExprNode) → p ≡ place_of (ghost_expr_of p n)
place_told p (nodes.Number a b) = refl
place_told p nodes.True = refl
place_told p nodes.False = refl
place_told p nodes.Result = refl
place_told p nodes.This = refl
place_told p nodes.CurrentThread = refl
place_told p (nodes.Name a) = refl
place_told p (nodes.Application a b) = refl
place_told p (nodes.Parenthesized a) = refl
place_told p (nodes.Conditional a b d) = refl
place_told p (nodes.Unary a b) = refl
place_told p (nodes.Chain a b d) = refl

-- what is wanted of other forms goes to none of their parts
pub goes_no_further : (w : Bool) (p : Place) (n : GhostExprNode) → ((a : Box GhostExprTree Global) → n ≢ nodes.Parenthesized a) → ((m : ℕ) (i : IntType) → n ≢ nodes.Number m i) → ((a b d : Box GhostExprTree Global) → n ≢ nodes.Conditional a b d) → goes_inside w (ghost_expr_of p n) ≡ false
goes_no_further w p (nodes.Number a b) y x z = absurd (x a b refl)
goes_no_further w p nodes.True y x z = refl
goes_no_further w p nodes.False y x z = refl
goes_no_further w p nodes.Result y x z = refl
goes_no_further w p nodes.This y x z = refl
goes_no_further w p nodes.CurrentThread y x z = refl
goes_no_further w p (nodes.Name a) y x z = refl
goes_no_further w p (nodes.Application a b) y x z = refl
goes_no_further w p (nodes.Parenthesized a) y x z = absurd (y a refl)
goes_no_further w p (nodes.Conditional a b d) y x z = absurd (z a b d refl)
goes_no_further w p (nodes.Unary a b) y x z = refl
goes_no_further w p (nodes.Chain a b d) y x z = refl
