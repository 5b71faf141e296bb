-- Which calls of itself a fixpoint may make.
use Rattle.std.specs.Prelude.{◌≡◌, ◌↔◌, ⊤, ℕ, zero, suc, Bool, false, ◌&&◌, not, if◌then◌else◌, IsTrue, List, Option, Some, None}
use Rattle.std.specs.List.{list_any}
use Rattle.std.specs.Option.{option_or}
use Rattle.std.specs.Str.{bytes_eq}
use Rattle.vf_base.specs.declared.place.Place.{Place}
use Rattle.vf_syntax.specs.declared.written.Name.{Name}
use Rattle.vf_syntax.specs.GhostExprTree.{GhostExprTree, GhostExprTrees, no_ghost_expr, more_ghost_expr, GhostLinkTree, GhostLinkTrees, no_ghost_link, more_ghost_link}
use Rattle.vf_syntax.specs.GhostExprTree as tree

-- What the calls of a fixpoint are held to: its name; which of its parameters it goes by, if it does; and the names of the components in the case that is looked at
pub record Recursion : Type 0 where
  pub name : List ℕ
  pub parameter : Option ℕ
  pub components : List Name

-- an expression is one of some names, as it is or in parentheses
abbrev pub is_component : List Name → GhostExprTree → Bool
is_component names (tree.name_ p x) = list_any (λ (n : Name). bytes_eq x n.text) names
is_component names (tree.parenthesized p a) = is_component names a
is_component names e = false

-- the argument at a place, counted from 0, is a component
abbrev pub is_component_at : List Name → ℕ → GhostExprTrees → Bool
is_component_at names k no_ghost_expr = false
is_component_at names zero (more_ghost_expr x xs) = is_component names x
is_component_at names (suc k) (more_ghost_expr x xs) = is_component_at names k xs

-- arguments have a component where the parameter stands by which the fixpoint goes
abbrev pub passes : List Name → Option ℕ → GhostExprTrees → Bool
passes names None xs = false
passes names (Some k) xs = is_component_at names k xs

-- an application is a call of the fixpoint that does not pass a component
abbrev pub strays : Recursion → List ℕ → GhostExprTrees → Bool
strays r x xs = bytes_eq x r.name && not (passes r.components r.parameter xs)

abbrev mutual
  -- the first call in an expression that does not pass a component, those inside of a call before it
  pub first_stray : Recursion → GhostExprTree → Option Place
  first_stray r (tree.number p a b) = None
  first_stray r (tree.true_ p) = None
  first_stray r (tree.false_ p) = None
  first_stray r (tree.result p) = None
  first_stray r (tree.this_ p) = None
  first_stray r (tree.current_thread p) = None
  first_stray r (tree.name_ p x) = None
  first_stray r (tree.application p x xs) = option_or (first_stray_of r xs) (if strays r x xs then Some p else None)
  first_stray r (tree.parenthesized p a) = first_stray r a
  first_stray r (tree.conditional p a b c) = option_or (first_stray r a) (option_or (first_stray r b) (first_stray r c))
  first_stray r (tree.unary p o a) = first_stray r a
  first_stray r (tree.chain p v a ls) = option_or (first_stray r a) (first_stray_in r ls)

  -- the same of arguments
  pub first_stray_of : Recursion → GhostExprTrees → Option Place
  first_stray_of r no_ghost_expr = None
  first_stray_of r (more_ghost_expr x xs) = option_or (first_stray r x) (first_stray_of r xs)

  -- the same of an operator's right operand
  pub first_stray_behind : Recursion → GhostLinkTree → Option Place
  first_stray_behind r (tree.ghost_link p o a) = first_stray r a

  -- the same of operands behind another
  pub first_stray_in : Recursion → GhostLinkTrees → Option Place
  first_stray_in r no_ghost_link = None
  first_stray_in r (more_ghost_link l ls) = option_or (first_stray_behind r l) (first_stray_in r ls)

-- ---- as a relation
abbrev mutual
  -- each call of the fixpoint that stands anywhere in an expression passes a component
  pub GoesDown : Recursion → GhostExprTree → Type 0
  GoesDown r (tree.number p a b) = ⊤
  GoesDown r (tree.true_ p) = ⊤
  GoesDown r (tree.false_ p) = ⊤
  GoesDown r (tree.result p) = ⊤
  GoesDown r (tree.this_ p) = ⊤
  GoesDown r (tree.current_thread p) = ⊤
  GoesDown r (tree.name_ p x) = ⊤
  GoesDown r (tree.application p x xs) = AllGoDown r xs × (x ≡ r.name → IsTrue (passes r.components r.parameter xs))
  GoesDown r (tree.parenthesized p a) = GoesDown r a
  GoesDown r (tree.conditional p a b c) = GoesDown r a × GoesDown r b × GoesDown r c
  GoesDown r (tree.unary p o a) = GoesDown r a
  GoesDown r (tree.chain p v a ls) = GoesDown r a × LinksGoDown r ls

  -- the same of arguments
  pub AllGoDown : Recursion → GhostExprTrees → Type 0
  AllGoDown r no_ghost_expr = ⊤
  AllGoDown r (more_ghost_expr x xs) = GoesDown r x × AllGoDown r xs

  -- the same of operands behind another
  pub LinksGoDown : Recursion → GhostLinkTrees → Type 0
  LinksGoDown r no_ghost_link = ⊤
  LinksGoDown r (more_ghost_link l ls) = LinkGoesDown r l × LinksGoDown r ls

  -- the same of an operator's right operand
  pub LinkGoesDown : Recursion → GhostLinkTree → Type 0
  LinkGoesDown r (tree.ghost_link p o a) = GoesDown r a

-- no call strays exactly where each passes a component
abbrev pub StraysAreCalls : Type 0
StraysAreCalls = (r : Recursion) (e : GhostExprTree) → (first_stray r e ≡ None) ↔ GoesDown r e
