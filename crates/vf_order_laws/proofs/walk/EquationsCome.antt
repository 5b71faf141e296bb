-- The rules of equations come to what the functions come to.
use Rattle.std.proofs.Common.{◌≡◌, refl, ◌∙◌, ap, ℕ, List, [], length, Ok, Err}
use Rattle.vf_base.specs.declared.refusal.Refusal.{Refusal}
use Rattle.vf_sorts.specs.Sorts.{Sort}
use Rattle.vf_sorts.specs.Unknowns.{Known, numbered_below}
use Rattle.vf_sorts.proofs.Filled.{below_told}
use Rattle.vf_declared.specs.declared.scope.Scope.{Scope}
use Rattle.vf_syntax.specs.declared.item.FixpointBody.{FixpointBody}
use Rattle.vf_syntax.specs.declared.item.FixpointCase.{FixpointCase}
use Rattle.vf_syntax.specs.declared.written.Name.{Name}
use Rattle.vf_syntax.specs.GhostExprTree.{GhostExprTree}
use Rattle.vf_sorting.specs.declared.context.Context.{Context}
use Rattle.vf_walk.specs.Walking.{Walked}
use Rattle.vf_equations.specs.Fixpoints.{around_fixpoint, result_of}
use Rattle.vf_equations.specs.Fixpoints as fixpoints
use Rattle.vf_equations.specs.Switching.{are_constructors, switched_sort}
use Rattle.vf_equations.specs.Switching as switching
use Rattle.vf_equations.specs.Values as values
use Rattle.vf_order_laws.specs.walk.Following.{pair}
use Rattle.vf_order_laws.proofs.walk.Results.{goes, stops, told_false, where_not, where_so}
use Rattle.vf_order_laws.proofs.walk.SortsCome.{is_failed, is_passed, made_so, unmade_so}
use Rattle.vf_order_laws.specs.walk.Assertions.{by_datatype, triple}
use Rattle.vf_order_laws.specs.walk.Equations.{case_of, cases_of, equations_of, switch_of, value_of}
use Rattle.vf_order_laws.proofs.walk.AssertionsCome.{case_binds, names_fail}

value_passes : {s : Scope} {c : Context} {t : Sort} {k k' : Known} {e : GhostExprTree} → values.ValuePasses s c t k e k' → value_of s c t k e ≡ Ok k'
value_passes {t = t} {k = k} (values.passes b h) = where_so _ ((below_told (length k) t).1 b) (is_passed h)

value_fails : {s : Scope} {c : Context} {t : Sort} {k : Known} {e : GhostExprTree} {r : Refusal} → values.ValueFails s c t k e r → value_of s c t k e ≡ Err r
value_fails {t = t} {k = k} (values.stray b) = where_not _ (told_false (numbered_below (length k) t) (below_told (length k) t) b) refl
value_fails {t = t} {k = k} (values.fails b h) = where_so _ ((below_told (length k) t).1 b) (is_failed h)

case_gives : {c : Context} {t : Sort} {m : ℕ} {s s' : Scope} {k k' : Known} {x : FixpointCase} → values.CaseGives c t m s k x s' k' → case_of c t m s k x ≡ Ok (pair s' k')
case_gives (values.a_case b h) = goes _ (case_binds _ b) (goes _ (value_passes h) refl)

case_fails : {c : Context} {t : Sort} {m : ℕ} {s : Scope} {k : Known} {x : FixpointCase} {r : Refusal} → values.CaseFails c t m s k x r → case_of c t m s k x ≡ Err r
case_fails (values.its_names n) = stops _ (names_fail n)
case_fails (values.its_value b h) = goes _ (case_binds _ b) (stops _ (value_fails h))

cases_give : {c : Context} {t : Sort} {m : ℕ} {s s' : Scope} {k k' : Known} {xs : List FixpointCase} → values.CasesGive c t m s k xs s' k' → cases_of c t m s k xs ≡ Ok (pair s' k')
cases_give values.no_cases = refl
cases_give (values.more_cases x xs) = goes _ (case_gives x) (cases_give xs)

cases_fail : {c : Context} {t : Sort} {m : ℕ} {s : Scope} {k : Known} {xs : List FixpointCase} {r : Refusal} → values.AnyCaseFails c t m s k xs r → cases_of c t m s k xs ≡ Err r
cases_fail (values.this_case x) = stops _ (case_fails x)
cases_fail (values.later_case x xs) = goes _ (case_gives x) (cases_fail xs)

switched : {s : Scope} {n : Name} {cs : List FixpointCase} {p : ℕ} {k : Known} → switching.Switches s n cs p k → switch_of s n cs ≡ Ok (triple 0 p k)
switched {s = s} {n = n} {cs = cs} (switching.switches {t = t} h b d a q) = goes _ h (where_so _ ((below_told 0 t).1 b) (ap (by_datatype s n.place (λ d. are_constructors s d cs) t []) d ∙ where_so _ a (goes _ (made_so _ q) refl)))

switch_fails : {s : Scope} {n : Name} {cs : List FixpointCase} {r : Refusal} → switching.SwitchFails s n cs r → switch_of s n cs ≡ Err r
switch_fails (switching.its_name h) = stops _ h
switch_fails (switching.stray {t = t} h b) = goes _ h (where_not _ (told_false (numbered_below 0 t) (below_told 0 t) b) refl)
switch_fails {s = s} {n = n} {cs = cs} (switching.no_datatype {t = t} h b d) = goes _ h (where_so _ ((below_told 0 t).1 b) (ap (by_datatype s n.place (λ d. are_constructors s d cs) t []) d))
switch_fails {s = s} {n = n} {cs = cs} (switching.other_cases {t = t} h b d a) = goes _ h (where_so _ ((below_told 0 t).1 b) (ap (by_datatype s n.place (λ d. are_constructors s d cs) t []) d ∙ where_not _ a refl))
switch_fails {s = s} {n = n} {cs = cs} (switching.other_sorts {t = t} h b d a q) = goes _ h (where_so _ ((below_told 0 t).1 b) (ap (by_datatype s n.place (λ d. are_constructors s d cs) t []) d ∙ where_so _ a (stops _ (unmade_so _ q))))

pub equations_come : {m n : ℕ} {s : Scope} {b : FixpointBody} {w : Walked} → fixpoints.EquationsCome m n s b w → equations_of m n s b ≡ w
equations_come (fixpoints.value h) = goes _ (value_passes h) refl
equations_come (fixpoints.value_refused h) = stops _ (value_fails h)
equations_come (fixpoints.cases v h) = goes _ (switched v) (goes _ (cases_give h) refl)
equations_come (fixpoints.switch_refused v) = stops _ (switch_fails v)
equations_come (fixpoints.case_refused v h) = goes _ (switched v) (stops _ (cases_fail h))
