-- What the functions of equations find is what the rules give.
use Rattle.std.proofs.Common.{◌≡◌, ℕ, List, [], ◌∷◌, length, Ok}
use Rattle.vf_base.specs.declared.refusal.Refusal.{Refusal}
use Rattle.vf_sorts.specs.Sorts.{Sort}
use Rattle.vf_sorts.specs.Unknowns.{IsBelow, IsResolved, Known, numbered_below}
use Rattle.vf_sorts.proofs.Filled.{below_told}
use Rattle.vf_declared.specs.declared.scope.Scope.{Scope}
use Rattle.vf_syntax.specs.declared.item.FixpointBody.{FixpointBody}
use Rattle.vf_syntax.specs.declared.item.FixpointBody.TheVariants as bodies
use Rattle.vf_syntax.specs.declared.item.FixpointCase.{FixpointCase}
use Rattle.vf_syntax.specs.declared.written.Name.{Name}
use Rattle.vf_syntax.specs.GhostExprTree.{GhostExprTree}
use Rattle.vf_sorting.specs.declared.context.Context.{Context}
use Rattle.vf_sorting.specs.Operators.{place_of}
use Rattle.vf_binding.specs.Bound.{with_names}
use Rattle.vf_asserting.specs.Cases.{datatype_in, names_or_none}
use Rattle.vf_asserting.specs.Switches.{case_sorts}
use Rattle.vf_equations.specs.Fixpoints.{around_fixpoint, result_of}
use Rattle.vf_equations.specs.Fixpoints as fixpoints
use Rattle.vf_equations.specs.Switching.{are_constructors, switched_sort}
use Rattle.vf_equations.specs.Switching as switching
use Rattle.vf_equations.specs.Values as values
use Rattle.vf_order_laws.specs.walk.Equations.{case_of, cases_of, equations_of, switch_of, switched_at, value_of}
use Rattle.vf_order_laws.proofs.walk.Results.{untold}
use Rattle.vf_order_laws.proofs.walk.Finding.{Found, Grows, comes_after, found, found_after, found_as, found_so, found_where, grows_on, nothing_resolved, stays, stopped}
use Rattle.vf_order_laws.proofs.walk.SortsFound.{pass_found}
use Rattle.vf_order_laws.proofs.walk.AssertionsFound.{MayNotSwitch, MaySwitch, case_names_found, datatype_found, may_switch, no_datatype, other_cases, other_sorts}

-- ---- values
value_found : (s : Scope) (c : Context) (t : Sort) (k : Known) → IsResolved k → (e : GhostExprTree) → Found (λ k'. values.ValuePasses s c t k e k' × Grows k k') (values.ValueFails s c t k e) (value_of s c t k e)
value_found s c t k r e = found_where (numbered_below (length k) t)
    (λ q. let b = (below_told (length k) t).0 q in found_as (λ k' h. (values.passes b h.0, h.1)) (λ x f. values.fails b f) (pass_found s c k t (place_of e) r b e))
    (λ q. stopped (values.stray (untold (numbered_below (length k) t) (below_told (length k) t) q)))

-- ---- cases
case_found : (c : Context) (t : Sort) (m : ℕ) (s : Scope) (k : Known) → IsResolved k → (x : FixpointCase) → Found (λ v. values.CaseGives c t m s k x v.0 v.1 × Grows k v.1) (values.CaseFails c t m s k x) (case_of c t m s k x)
case_found c t m s k r x = found_after (case_names_found s (names_or_none x.pattern.names) (case_sorts s 0 m x.pattern) x.pattern.constructor.place)
    (λ b n. found_after (value_found (with_names s b) c t k r x.value) (λ k' h. found (values.a_case n h.0, h.1)) (λ y f. values.its_value n f))
    (λ y f. values.its_names f)

cases_found : (c : Context) (t : Sort) (m : ℕ) (s : Scope) (k : Known) → IsResolved k → (xs : List FixpointCase) → Found (λ v. values.CasesGive c t m s k xs v.0 v.1 × Grows k v.1) (values.AnyCaseFails c t m s k xs) (cases_of c t m s k xs)
cases_found c t m s k r [] = found (values.no_cases, stays r)
cases_found c t m s k r (x ∷ xs) = found_after (case_found c t m s k r x)
    (λ v h. found_as (λ w i. (values.more_cases h.0 i.0, grows_on h.1 i.1)) (λ y f. values.later_case h.0 f) (cases_found c t m v.0 v.1 h.1.resolved xs))
    (λ y f. values.this_case f)

-- ---- what stands in front of cases
switches : {s : Scope} {n : Name} {cs : List FixpointCase} {t : Sort} {first m : ℕ} {k : Known} → switched_sort s n ≡ Ok t → IsBelow 0 t → MaySwitch s (λ d. are_constructors s d cs) t [] (datatype_in t) first m k → switching.Switches s n cs m k
switches e b (may_switch d a q) = switching.switches e b d a q

switch_fails : {s : Scope} {n : Name} {cs : List FixpointCase} {t : Sort} {r : Refusal} → switched_sort s n ≡ Ok t → IsBelow 0 t → MayNotSwitch s n.place (λ d. are_constructors s d cs) t [] (datatype_in t) r → switching.SwitchFails s n cs r
switch_fails e b (no_datatype d) = switching.no_datatype e b d
switch_fails e b (other_cases d a) = switching.other_cases e b d a
switch_fails e b (other_sorts d a q) = switching.other_sorts e b d a q

switch_found : (s : Scope) (n : Name) (cs : List FixpointCase) → Found (λ v. switching.Switches s n cs v.1 v.2 × IsResolved v.2) (switching.SwitchFails s n cs) (switch_of s n cs)
switch_found s n cs = found_after (found_so (switched_sort s n)) at (λ x e. switching.its_name e)
  where
    at : (t : Sort) → switched_sort s n ≡ Ok t → Found (λ v. switching.Switches s n cs v.1 v.2 × IsResolved v.2) (switching.SwitchFails s n cs) (switched_at s n cs t)
    at t e = found_where (numbered_below 0 t)
        (λ q. let b = (below_told 0 t).0 q in found_as (λ v h. (switches e b h.0, h.1.grows.resolved)) (λ y f. switch_fails e b f) (datatype_found s n.place (λ d. are_constructors s d cs) t [] nothing_resolved b (datatype_in t)))
        (λ q. stopped (switching.stray e (untold (numbered_below 0 t) (below_told 0 t) q)))

-- ---- equations
pub equations_found : (m n : ℕ) (s : Scope) (b : FixpointBody) → fixpoints.EquationsCome m n s b (equations_of m n s b)
equations_found m n s (bodies.Value e) = comes_after (fixpoints.EquationsCome m n s (bodies.Value e)) (value_found s (around_fixpoint n) (result_of s n) [] nothing_resolved e) (λ k h. fixpoints.value h.0) (λ x f. fixpoints.value_refused f)
equations_found m n s (bodies.Switch x cs) = comes_after (fixpoints.EquationsCome m n s (bodies.Switch x cs)) (switch_found s x cs)
    (λ v h. comes_after (fixpoints.EquationsCome m n s (bodies.Switch x cs)) (cases_found (around_fixpoint n) (result_of s n) v.1 s v.2 h.1 cs) (λ r i. fixpoints.cases h.0 i.0) (λ y f. fixpoints.case_refused h.0 f))
    (λ y f. fixpoints.switch_refused f)
