-- What stands in front of the cases of a `switch` among ghost commands: a value of a datatype, for whose type parameters unknown sorts stand in the cases.
use Rattle.std.specs.Prelude.{◌≡◌, ℕ, Bool, true, false, List, [], length, Option, Some, None}
use Rattle.vf_base.specs.declared.refusal.Refusal.{Refusal}
use Rattle.vf_base.specs.declared.rule.Rule.TheVariants as rules
use Rattle.vf_sorts.specs.Sorts.{Sort}
use Rattle.vf_sorts.specs.Unknowns.{Known}
use Rattle.vf_sorts.specs.Unifying.{AreApart, Equates}
use Rattle.vf_declared.specs.declared.scope.Scope.{Scope}
use Rattle.vf_declared.specs.Scopes.{datatype_of}
use Rattle.vf_syntax.specs.declared.pattern.CasePattern.{CasePattern}
use Rattle.vf_syntax.specs.GhostExprTree.{GhostExprTree}
use Rattle.vf_syntax.specs.GhostCommandTree.{CommandCaseTree, CommandCaseTrees, no_command_case, more_command_case, command_case}
use Rattle.vf_sorting.specs.declared.context.Context.{Context}
use Rattle.vf_sorting.specs.HasSort.{HasSort}
use Rattle.vf_sorting.specs.IsRefused.{IsRefused}
use Rattle.vf_sorting.specs.Kinds.{resolved, with_fresh}
use Rattle.vf_sorting.specs.Operators.{place_of}
use Rattle.vf_sorting.specs.Refusals.{refused}
use Rattle.vf_asserting.specs.Cases.{are_all, case_number, constructor_count, datatype_in, with_number}
use Rattle.vf_asserting.specs.Switches.{parameters_of, unknown_datatype}

-- what a case is for
abbrev pub pattern_in : CommandCaseTree → CasePattern
pattern_in (command_case p x a) = x

-- the constructors that cases are for, where each is for one of the datatype
abbrev pub case_numbers : Scope → ℕ → CommandCaseTrees → Option (List ℕ)
case_numbers s d no_command_case = Some []
case_numbers s d (more_command_case x cs) = with_number (case_number s d (pattern_in x)) (case_numbers s d cs)

-- there is one case for each constructor of a datatype, and no other
abbrev pub are_cases : Scope → ℕ → CommandCaseTrees → Bool
are_cases s d cs = are_all (constructor_count (datatype_of s d)) (case_numbers s d cs)

-- an expression may be switched over with these cases: it has a datatype's sort, at which unknown sorts from a number on are made equal to its arguments, and there is one case for each constructor
pub data Switches (s : Scope) (c : Context) : Known → GhostExprTree → CommandCaseTrees → ℕ → ℕ → Known → Type 0 where
  switches : {k k₁ k' : Known} {e : GhostExprTree} {cs : CommandCaseTrees} {t : Sort} {d : ℕ} → HasSort s c k e t k₁ → datatype_in (resolved k₁ t) ≡ Some d → are_cases s d cs ≡ true → Equates (with_fresh k₁ (parameters_of s d)) t (unknown_datatype s (length k₁) d) k' → Switches s c k e cs (length k₁) (parameters_of s d) k'

-- an expression may not be switched over with these cases, which is refused at its first token unless it is refused itself
pub data SwitchFails (s : Scope) (c : Context) : Known → GhostExprTree → CommandCaseTrees → Refusal → Type 0 where
  switched : {k : Known} {e : GhostExprTree} {cs : CommandCaseTrees} {r : Refusal} → IsRefused s c k e r → SwitchFails s c k e cs r
  no_datatype : {k k₁ : Known} {e : GhostExprTree} {cs : CommandCaseTrees} {t : Sort} → HasSort s c k e t k₁ → datatype_in (resolved k₁ t) ≡ None → SwitchFails s c k e cs (refused rules.Typing (place_of e))
  other_cases : {k k₁ : Known} {e : GhostExprTree} {cs : CommandCaseTrees} {t : Sort} {d : ℕ} → HasSort s c k e t k₁ → datatype_in (resolved k₁ t) ≡ Some d → are_cases s d cs ≡ false → SwitchFails s c k e cs (refused rules.Typing (place_of e))
  other_sorts : {k k₁ : Known} {e : GhostExprTree} {cs : CommandCaseTrees} {t : Sort} {d : ℕ} → HasSort s c k e t k₁ → datatype_in (resolved k₁ t) ≡ Some d → are_cases s d cs ≡ true → AreApart (with_fresh k₁ (parameters_of s d)) t (unknown_datatype s (length k₁) d) → SwitchFails s c k e cs (refused rules.Typing (place_of e))
