-- Which of several faults a walk finds, in examples.
use Rattle.std.specs.Prelude.{◌≡◌, false, true, [], None, Err}
use Rattle.vf_base.specs.declared.place.Place.{Place}
use Rattle.vf_base.specs.declared.rule.Rule.TheVariants as rules
use Rattle.vf_sorts.specs.Unknowns.{Known}
use Rattle.vf_declared.specs.declared.scope.Scope.{Scope}
use Rattle.vf_syntax.specs.declared.operator.BinaryOperator.TheVariants as operators
use Rattle.vf_syntax.specs.declared.operator.UnaryOperator.TheVariants as unaries
use Rattle.vf_syntax.specs.declared.operator.Level.TheVariants as levels
use Rattle.vf_syntax.specs.GhostExprTree.{GhostExprTree, no_ghost_link, more_ghost_link}
use Rattle.vf_syntax.specs.GhostExprTree as tree
use Rattle.vf_sorting.specs.declared.context.Context.{Context}
use Rattle.vf_sorting.specs.Refusals.{refused}
use Rattle.vf_order_laws.specs.walk.Sorts.{sort_of}

-- around an expression in which `this` may stand, and `result` and `currentThread` may not
abbrev pub where_this : Context
where_this = record { «result» = None; has_this = true; has_thread = false; own = None }

-- around an expression in which none of them may stand
abbrev pub nowhere : Context
nowhere = record { «result» = None; has_this = false; has_thread = false; own = None }

-- `this == currentThread`, each at its place
abbrev pub compared : Place → Place → Place → GhostExprTree
compared p q r = tree.chain p levels.Equality (tree.this_ p) (more_ghost_link (tree.ghost_link q operators.Equal (tree.current_thread r)) no_ghost_link)

-- `!this`, each at its place
abbrev pub denied : Place → Place → GhostExprTree
denied p q = tree.unary p unaries.Not (tree.this_ q)

-- of two operands that are refused the left one is found, and the right one where it alone is; what stands inside an expression is found before the whole, and the whole is refused at the place of its operand
pub record FirstInExpressions : Type 0 where
  pub left : (s : Scope) (k : Known) (p q r : Place) → sort_of s nowhere k (compared p q r) ≡ Err (refused rules.Name p)
  pub right : (s : Scope) (k : Known) (p q r : Place) → sort_of s where_this k (compared p q r) ≡ Err (refused rules.Name r)
  pub inside : (s : Scope) (k : Known) (p q : Place) → sort_of s nowhere k (denied p q) ≡ Err (refused rules.Name q)
  pub whole : (s : Scope) (p q : Place) → sort_of s where_this [] (denied p q) ≡ Err (refused rules.Typing q)
