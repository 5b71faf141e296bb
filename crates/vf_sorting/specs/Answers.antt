-- What sorting answers.
use Rattle.std.specs.Prelude.{◌≡◌, ◌≤◌, ℕ, Bool, List, length, Result, Ok, Err}
use Rattle.vf_base.specs.declared.place.Place.{Place}
use Rattle.vf_base.specs.declared.refusal.Refusal.{Refusal}
use Rattle.vf_base.specs.declared.refusal.RuleFault.{RuleFault}
use Rattle.vf_base.specs.declared.refusal.RuleFault.TheVariants as faults
use Rattle.vf_base.specs.declared.rule.Rule.TheVariants as rules
use Rattle.vf_sorts.specs.Sorts.{Sort}
use Rattle.vf_sorts.specs.Unknowns.{IsBelow, Known}
use Rattle.vf_sorts.specs.Unifying.{AreApart, Equates}
use Rattle.vf_declared.specs.declared.scope.Scope.{Scope}
use Rattle.vf_syntax.specs.GhostExprTree.{GhostExprTree, GhostExprTrees, GhostLinkTree, GhostLinkTrees}
use Rattle.vf_sorting.specs.declared.context.Context.{Context}
use Rattle.vf_sorting.specs.HasSort.{ArePassed, HasSort, LinkHasSort, LinksHaveSort, Meets, Passes}
use Rattle.vf_sorting.specs.IsRefused.{AnyFails, Fails, FailsToMeet, IsRefused, LinkFails, LinksFail}
use Rattle.vf_sorting.specs.Refusals.{refused}

-- a fault that is a refusal is such; want of memory says nothing
abbrev pub Tells : (Refusal → Type 0) → RuleFault → Type 0
Tells R (faults.Refused r) = R r
Tells R faults.Memory = Unit {0}

-- what is answered is such, or it is a refusal that is such
abbrev pub Answers : {A : Type 0} → (A → Type 0) → (Refusal → Type 0) → Result A RuleFault → Type 0
Answers P R (Ok x) = P x
Answers P R (Err e) = Tells R e

-- a sort is such, nothing that was unknown is lost, and the unknown sorts in it are among those of which something or nothing is known then
abbrev pub Found : (Sort → Type 0) → Known → Known → Sort → Type 0
Found P k k' t = (length k ≤ length k') × IsBelow (length k') t × P t

-- it is so, and nothing that was unknown is lost
abbrev pub Kept : Type 0 → Known → Known → Type 0
Kept P k k' = (length k ≤ length k') × P

-- two sorts are apart, which is refused at a place
abbrev pub IsApart : Known → Sort → Sort → Place → Refusal → Type 0
IsApart k t u p r = AreApart k t u × (r ≡ refused rules.Typing p)

-- two sorts are made equal, or refused at a place because nothing makes them equal
pub record IsEquated {A : Type 0} (k : Known) (t u : Sort) (p : Place) (r : Result A RuleFault) (k' : Known) : Type 0 where
  pub answers : Answers (λ a. Equates k t u k') (IsApart k t u p) r

-- an answer for an expression is a sort that it has or a refusal of it
pub record IsSorted (s : Scope) (c : Context) (k : Known) (e : GhostExprTree) (r : Result Sort RuleFault) (k' : Known) : Type 0 where
  pub answers : Answers (Found (λ t. HasSort s c k e t k') k k') (IsRefused s c k e) r

-- an answer for an expression of which a sort is wanted is that it passes, or how it fails to
pub record IsChecked {A : Type 0} (s : Scope) (c : Context) (k : Known) (w : Sort) (q : Place) (e : GhostExprTree) (r : Result A RuleFault) (k' : Known) : Type 0 where
  pub answers : Answers (λ a. Kept (Passes s c k w q e k') k k') (Fails s c k w q e) r

-- an answer for an expression behind another one is their common sort, or why there is none
pub record IsMet (s : Scope) (c : Context) (k : Known) (z : Bool) (t : Sort) (d : GhostExprTree) (r : Result Sort RuleFault) (k' : Known) : Type 0 where
  pub answers : Answers (Found (λ u. Meets s c k z t d u k') k k') (FailsToMeet s c k z t d) r

-- an answer for an operator and its operand behind a left operand is a sort that they have or a refusal
pub record IsLinked (s : Scope) (c : Context) (k : Known) (z : Bool) (p : Place) (t : Sort) (x : GhostLinkTree) (r : Result Sort RuleFault) (k' : Known) : Type 0 where
  pub answers : Answers (Found (λ u. LinkHasSort s c k z p t x u k') k k') (LinkFails s c k z p t x) r

-- the same of operators and operands from left to right
pub record AreLinked (s : Scope) (c : Context) (k : Known) (z : Bool) (p : Place) (t : Sort) (xs : GhostLinkTrees) (r : Result Sort RuleFault) (k' : Known) : Type 0 where
  pub answers : Answers (Found (λ u. LinksHaveSort s c k z p t xs u k') k k') (LinksFail s c k z p t xs) r

-- an answer for arguments is that they pass for their parameters, or how one fails to
pub record AreChecked {A : Type 0} (s : Scope) (c : Context) (k : Known) (first n : ℕ) (ts : List Sort) (xs : GhostExprTrees) (r : Result A RuleFault) (k' : Known) : Type 0 where
  pub answers : Answers (λ a. Kept (ArePassed s c k first n ts xs k') k k') (AnyFails s c k first n ts xs) r
