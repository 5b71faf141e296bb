-- How sorts agree with what is known behind expressions, and in front of them.
use Rattle.std.specs.Prelude.{ℕ, List}
use Rattle.vf_base.specs.declared.place.Place.{Place}
use Rattle.vf_sorts.specs.Sorts.{Sort}
use Rattle.vf_sorts.specs.Unknowns.{AgreesAsTold, Filling, Known}
use Rattle.vf_syntax.specs.GhostExprTree.{GhostExprTree, GhostExprTrees}
use Rattle.vf_declared.specs.declared.scope.Scope.{Scope}
use Rattle.vf_sorting.specs.declared.context.Context.{Context}
use Rattle.vf_sorting.specs.HasSort.{ArePassed, HasSort, Passes}

-- sorts for the unknown ones that agree with what is known behind an expression, or behind arguments, agree with what was known in front of it
pub record GoesBack (s : Scope) (c : Context) (f : Filling) : Type 0 where
  pub sorted : (known then_known : Known) (e : GhostExprTree) (t : Sort) → HasSort s c known e t then_known → AgreesAsTold f then_known → AgreesAsTold f known
  pub passed : (known then_known : Known) (w : Sort) (q : Place) (e : GhostExprTree) → Passes s c known w q e then_known → AgreesAsTold f then_known → AgreesAsTold f known
  pub all_passed : (known then_known : Known) (first n : ℕ) (ts : List Sort) (xs : GhostExprTrees) → ArePassed s c known first n ts xs then_known → AgreesAsTold f then_known → AgreesAsTold f known

-- so agreement goes back wherever expressions are sorted one after the other
abbrev pub AgreementGoesBack : Type 0
AgreementGoesBack = (s : Scope) (c : Context) (f : Filling) → GoesBack s c f
