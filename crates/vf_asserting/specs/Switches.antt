-- What stands in front of the cases of a `switch`: a value of a datatype, for whose type parameters unknown sorts stand in the cases.
use Rattle.std.specs.Prelude.{◌≡◌, ℕ, true, false, List, length, map, Some, None}
use Rattle.vf_base.specs.declared.refusal.Refusal.{Refusal}
use Rattle.vf_base.specs.declared.rule.Rule.TheVariants as rules
use Rattle.vf_sorts.specs.Sorts.{Sort}
use Rattle.vf_sorts.specs.Unknowns.{Known, instance}
use Rattle.vf_sorts.specs.Unifying.{AreApart, Equates}
use Rattle.vf_declared.specs.declared.scope.Scope.{Scope}
use Rattle.vf_declared.specs.Scopes.{datatype_of}
use Rattle.vf_syntax.specs.declared.pattern.CasePattern.{CasePattern}
use Rattle.vf_syntax.specs.GhostExprTree.{GhostExprTree}
use Rattle.vf_syntax.specs.AssertionTree.{AssertionCaseTrees}
use Rattle.vf_sorting.specs.declared.context.Context.{Context}
use Rattle.vf_sorting.specs.HasSort.{HasSort}
use Rattle.vf_sorting.specs.IsRefused.{IsRefused}
use Rattle.vf_sorting.specs.Kinds.{datatype_sort, resolved, with_fresh}
use Rattle.vf_sorting.specs.Operators.{place_of}
use Rattle.vf_sorting.specs.Refusals.{refused}
use Rattle.vf_sorting.specs.Schemes.{count_in}
use Rattle.vf_asserting.specs.Cases.{are_cases, case_arguments, datatype_in}

-- how many type parameters a datatype has
abbrev pub parameters_of : Scope → ℕ → ℕ
parameters_of s d = count_in (datatype_of s d)

-- a datatype at unknown sorts from a number on, as many as it has type parameters
abbrev pub unknown_datatype : Scope → ℕ → ℕ → Sort
unknown_datatype s first d = instance first (parameters_of s d) (datatype_sort d (parameters_of s d))

-- the sorts of the arguments of the constructor that a case names, where unknown sorts from a number on stand for so many type parameters
abbrev pub case_sorts : Scope → ℕ → ℕ → CasePattern → List Sort
case_sorts s first n x = map (instance first n) (case_arguments s x)

-- an expression may be switched over with these cases: it has a datatype's sort, at which unknown sorts from a number on are made equal to its arguments, and there is one case for each constructor
pub data Switches (s : Scope) (c : Context) : Known → GhostExprTree → AssertionCaseTrees → ℕ → ℕ → Known → Type 0 where
  switches : {k k₁ k' : Known} {e : GhostExprTree} {cs : AssertionCaseTrees} {t : Sort} {d : ℕ} → HasSort s c k e t k₁ → datatype_in (resolved k₁ t) ≡ Some d → are_cases s d cs ≡ true → Equates (with_fresh k₁ (parameters_of s d)) t (unknown_datatype s (length k₁) d) k' → Switches s c k e cs (length k₁) (parameters_of s d) k'

-- an expression may not be switched over with these cases, which is refused at its first token unless it is refused itself
pub data SwitchFails (s : Scope) (c : Context) : Known → GhostExprTree → AssertionCaseTrees → Refusal → Type 0 where
  switched : {k : Known} {e : GhostExprTree} {cs : AssertionCaseTrees} {r : Refusal} → IsRefused s c k e r → SwitchFails s c k e cs r
  no_datatype : {k k₁ : Known} {e : GhostExprTree} {cs : AssertionCaseTrees} {t : Sort} → HasSort s c k e t k₁ → datatype_in (resolved k₁ t) ≡ None → SwitchFails s c k e cs (refused rules.Typing (place_of e))
  other_cases : {k k₁ : Known} {e : GhostExprTree} {cs : AssertionCaseTrees} {t : Sort} {d : ℕ} → HasSort s c k e t k₁ → datatype_in (resolved k₁ t) ≡ Some d → are_cases s d cs ≡ false → SwitchFails s c k e cs (refused rules.Typing (place_of e))
  other_sorts : {k k₁ : Known} {e : GhostExprTree} {cs : AssertionCaseTrees} {t : Sort} {d : ℕ} → HasSort s c k e t k₁ → datatype_in (resolved k₁ t) ≡ Some d → are_cases s d cs ≡ true → AreApart (with_fresh k₁ (parameters_of s d)) t (unknown_datatype s (length k₁) d) → SwitchFails s c k e cs (refused rules.Typing (place_of e))
