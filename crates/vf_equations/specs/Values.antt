-- The values that a fixpoint gives, each of which has the sort of its result.
use Rattle.std.specs.Prelude.{ℕ, List, [], ◌∷◌, length}
use Rattle.vf_base.specs.declared.refusal.Refusal.{Refusal}
use Rattle.vf_base.specs.declared.rule.Rule.TheVariants as rules
use Rattle.vf_sorts.specs.Sorts.{Sort}
use Rattle.vf_sorts.specs.Unknowns.{IsBelow, Known}
use Rattle.vf_declared.specs.declared.scope.Scope.{Scope}
use Rattle.vf_syntax.specs.declared.item.FixpointCase.{FixpointCase}
use Rattle.vf_syntax.specs.GhostExprTree.{GhostExprTree}
use Rattle.vf_sorting.specs.declared.context.Context.{Context}
use Rattle.vf_sorting.specs.HasSort.{Passes}
use Rattle.vf_sorting.specs.IsRefused.{Fails}
use Rattle.vf_sorting.specs.Operators.{place_of}
use Rattle.vf_sorting.specs.Refusals.{refused}
use Rattle.vf_binding.specs.declared.bound.Bound.{Bound}
use Rattle.vf_binding.specs.Bound.{no_names, with_names}
use Rattle.vf_asserting.specs.Cases.{NamesBind, NamesFail, names_or_none}
use Rattle.vf_asserting.specs.Leaving.{count, left}
use Rattle.vf_asserting.specs.Switches.{case_sorts}

-- a value passes for the sort of the result, all of whose unknown sorts have numbers
pub data ValuePasses (s : Scope) (c : Context) (t : Sort) (k : Known) (e : GhostExprTree) (k' : Known) : Type 0 where
  passes : IsBelow (length k) t → Passes s c k t (place_of e) e k' → ValuePasses s c t k e k'

-- a value does not, which is refused in it
pub data ValueFails (s : Scope) (c : Context) (t : Sort) (k : Known) (e : GhostExprTree) : Refusal → Type 0 where
  stray : (IsBelow (length k) t → ⊥) → ValueFails s c t k e (refused rules.Typing (place_of e))
  fails : {r : Refusal} → IsBelow (length k) t → Fails s c k t (place_of e) e r → ValueFails s c t k e r

-- a case has names for the arguments of its constructor, which are visible in its value alone, where unknown sorts from 0 on stand for so many type parameters
pub data CaseGives (c : Context) (t : Sort) (m : ℕ) : Scope → Known → FixpointCase → Scope → Known → Type 0 where
  a_case : {s : Scope} {k k' : Known} {x : FixpointCase} {b : Bound} → NamesBind s no_names (names_or_none x.pattern.names) (case_sorts s 0 m x.pattern) b → ValuePasses (with_names s b) c t k x.value k' → CaseGives c t m s k x (left (count s) (with_names s b)) k'

-- a case is refused: at its names, or else in its value
pub data CaseFails (c : Context) (t : Sort) (m : ℕ) : Scope → Known → FixpointCase → Refusal → Type 0 where
  its_names : {s : Scope} {k : Known} {x : FixpointCase} {r : Refusal} → NamesFail s (names_or_none x.pattern.names) (case_sorts s 0 m x.pattern) x.pattern.constructor.place r → CaseFails c t m s k x r
  its_value : {s : Scope} {k : Known} {x : FixpointCase} {b : Bound} {r : Refusal} → NamesBind s no_names (names_or_none x.pattern.names) (case_sorts s 0 m x.pattern) b → ValueFails (with_names s b) c t k x.value r → CaseFails c t m s k x r

-- the same of cases, from the first to the last
pub data CasesGive (c : Context) (t : Sort) (m : ℕ) : Scope → Known → List FixpointCase → Scope → Known → Type 0 where
  no_cases : {s : Scope} {k : Known} → CasesGive c t m s k [] s k
  more_cases : {s s₁ s' : Scope} {k k₁ k' : Known} {x : FixpointCase} {xs : List FixpointCase} → CaseGives c t m s k x s₁ k₁ → CasesGive c t m s₁ k₁ xs s' k' → CasesGive c t m s k (x ∷ xs) s' k'

-- the first refusal among cases
pub data AnyCaseFails (c : Context) (t : Sort) (m : ℕ) : Scope → Known → List FixpointCase → Refusal → Type 0 where
  this_case : {s : Scope} {k : Known} {x : FixpointCase} {xs : List FixpointCase} {r : Refusal} → CaseFails c t m s k x r → AnyCaseFails c t m s k (x ∷ xs) r
  later_case : {s s₁ : Scope} {k k₁ : Known} {x : FixpointCase} {xs : List FixpointCase} {r : Refusal} → CaseGives c t m s k x s₁ k₁ → AnyCaseFails c t m s₁ k₁ xs r → AnyCaseFails c t m s k (x ∷ xs) r
