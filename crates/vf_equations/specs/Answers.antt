-- What the check of equations answers.
use Rattle.std.specs.Prelude.{ℕ, List, Result}
use Rattle.vf_base.specs.declared.refusal.RuleFault.{RuleFault}
use Rattle.vf_sorts.specs.Sorts.{Sort}
use Rattle.vf_sorts.specs.Unknowns.{Known}
use Rattle.vf_declared.specs.declared.scope.Scope.{Scope}
use Rattle.vf_syntax.specs.declared.item.FixpointCase.{FixpointCase}
use Rattle.vf_syntax.specs.declared.written.Name.{Name}
use Rattle.vf_syntax.specs.GhostExprTree.{GhostExprTree}
use Rattle.vf_sorting.specs.declared.context.Context.{Context}
use Rattle.vf_sorting.specs.Answers.{Answers}
use Rattle.vf_equations.specs.Switching.{SwitchFails, Switches}
use Rattle.vf_equations.specs.Values.{AnyCaseFails, CaseFails, CaseGives, CasesGive, ValueFails, ValuePasses}

-- an answer for what stands in front of cases is how many unknown sorts stand for type parameters in them, or a refusal
pub record IsSwitch (s : Scope) (n : Name) (cs : List FixpointCase) (r : Result ℕ RuleFault) (k : Known) : Type 0 where
  pub answers : Answers (λ m. Switches s n cs m k) (SwitchFails s n cs) r

-- an answer for a value is that it passes for a sort, or its refusal
pub record IsValue {A : Type 0} (s : Scope) (c : Context) (t : Sort) (k : Known) (e : GhostExprTree) (r : Result A RuleFault) (k' : Known) : Type 0 where
  pub answers : Answers (λ a. ValuePasses s c t k e k') (ValueFails s c t k e) r

-- an answer for a case
pub record IsCase {A : Type 0} (c : Context) (t : Sort) (m : ℕ) (s : Scope) (k : Known) (x : FixpointCase) (r : Result A RuleFault) (s' : Scope) (k' : Known) : Type 0 where
  pub answers : Answers (λ a. CaseGives c t m s k x s' k') (CaseFails c t m s k x) r

-- the same of cases, from the first to the last
pub record AreCases {A : Type 0} (c : Context) (t : Sort) (m : ℕ) (s : Scope) (k : Known) (xs : List FixpointCase) (r : Result A RuleFault) (s' : Scope) (k' : Known) : Type 0 where
  pub answers : Answers (λ a. CasesGive c t m s k xs s' k') (AnyCaseFails c t m s k xs) r
