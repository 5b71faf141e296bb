-- What asserting answers.
use Rattle.std.specs.Prelude.{ℕ, ◌+◌, ◌<◌, ◌^◌, List, Result}
use Rattle.vf_base.specs.declared.place.Place.{Place}
use Rattle.vf_base.specs.declared.refusal.RuleFault.{RuleFault}
use Rattle.vf_sorts.specs.Sorts.{Sort}
use Rattle.vf_sorts.specs.Unknowns.{Known}
use Rattle.vf_declared.specs.declared.scope.Scope.{Scope}
use Rattle.vf_syntax.specs.declared.written.Name.{Name}
use Rattle.vf_syntax.specs.GhostExprTree.{GhostExprTree}
use Rattle.vf_syntax.specs.AssertionTree.{PartTree, PartTrees, AssertionCaseTree, AssertionCaseTrees}
use Rattle.vf_sorting.specs.declared.context.Context.{Context}
use Rattle.vf_sorting.specs.Answers.{Answers, Kept}
use Rattle.vf_binding.specs.declared.bound.Bound.{Bound}
use Rattle.vf_binding.specs.Bound.{no_names}
use Rattle.vf_asserting.specs.declared.switches.Switched.{Switched}
use Rattle.vf_asserting.specs.Cases.{AnyNameFails, NamesBind, NamesFail}
use Rattle.vf_asserting.specs.Switches.{SwitchFails, Switches}
use Rattle.vf_asserting.specs.Gives.{BranchGives, CaseGives, CasesGive, Gives, PartGives}
use Rattle.vf_asserting.specs.IsRefused.{AnyCaseFails, AnyPartFails, CaseFails, PartFails}

-- an answer for names of a case is that they are bound at these sorts, or why one may not be
pub record AreNamed {A : Type 0} (s : Scope) (b : Bound) (ns : List Name) (ts : List Sort) (r : Result A RuleFault) (b' : Bound) : Type 0 where
  pub answers : Answers (λ a. NamesBind s b ns ts b') (AnyNameFails s b ns ts) r

-- an answer for the names of a case whose constructor stands at a place is what they bind, or their refusal
pub record IsCaseBound (s : Scope) (ns : List Name) (ts : List Sort) (g : Place) (r : Result Bound RuleFault) : Type 0 where
  pub answers : Answers (λ b. NamesBind s no_names ns ts b) (NamesFail s ns ts g) r

-- an answer for what stands in front of cases is which unknown sorts stand for type parameters in them, or a refusal
pub record IsSwitch (s : Scope) (c : Context) (k : Known) (e : GhostExprTree) (cs : AssertionCaseTrees) (r : Result Switched RuleFault) (k' : Known) : Type 0 where
  pub answers : Answers (λ w. (w.first + w.count < 2 ^ 64) × Kept (Switches s c k e cs w.first w.count k') k k') (SwitchFails s c k e cs) r

-- an answer for a part is what it declares and what is known then, or its refusal
pub record IsPart {A : Type 0} (c : Context) (s : Scope) (k : Known) (x : PartTree) (r : Result A RuleFault) (s' : Scope) (k' : Known) : Type 0 where
  pub answers : Answers (λ a. Kept (PartGives c s k x s' k') k k') (PartFails c s k x) r

-- the same of an assertion: parts from left to right
pub record IsAssertion {A : Type 0} (c : Context) (s : Scope) (k : Known) (xs : PartTrees) (r : Result A RuleFault) (s' : Scope) (k' : Known) : Type 0 where
  pub answers : Answers (λ a. Kept (Gives c s k xs s' k') k k') (AnyPartFails c s k xs) r

-- an answer for the assertion of a branch
pub record IsBranch {A : Type 0} (c : Context) (s : Scope) (k : Known) (xs : PartTrees) (r : Result A RuleFault) (s' : Scope) (k' : Known) : Type 0 where
  pub answers : Answers (λ a. Kept (BranchGives c s k xs s' k') k k') (AnyPartFails c s k xs) r

-- an answer for a case, where unknown sorts from a number on stand for so many type parameters
pub record IsCase {A : Type 0} (c : Context) (s : Scope) (first n : ℕ) (k : Known) (x : AssertionCaseTree) (r : Result A RuleFault) (s' : Scope) (k' : Known) : Type 0 where
  pub answers : Answers (λ a. Kept (CaseGives c s first n k x s' k') k k') (CaseFails c s first n k x) r

-- the same of cases, from the first to the last
pub record AreCases {A : Type 0} (c : Context) (s : Scope) (first n : ℕ) (k : Known) (xs : AssertionCaseTrees) (r : Result A RuleFault) (s' : Scope) (k' : Known) : Type 0 where
  pub answers : Answers (λ a. Kept (CasesGive c s first n k xs s' k') k k') (AnyCaseFails c s first n k xs) r
