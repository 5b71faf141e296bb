-- What the equations of fixpoints come to, as functions: what is declared then, or the first refusal.
use Rattle.std.specs.Prelude.{ℕ, List, [], ◌∷◌, length, Ok, Err}
use Rattle.vf_base.specs.declared.rule.Rule.TheVariants as rules
use Rattle.vf_sorts.specs.Sorts.{Sort}
use Rattle.vf_sorts.specs.Unknowns.{Known, numbered_below}
use Rattle.vf_declared.specs.declared.scope.Scope.{Scope}
use Rattle.vf_syntax.specs.declared.item.FixpointBody.{FixpointBody}
use Rattle.vf_syntax.specs.declared.item.FixpointBody.TheVariants as bodies
use Rattle.vf_syntax.specs.declared.item.FixpointCase.{FixpointCase}
use Rattle.vf_syntax.specs.declared.written.Name.{Name}
use Rattle.vf_syntax.specs.GhostExprTree.{GhostExprTree}
use Rattle.vf_sorting.specs.declared.context.Context.{Context}
use Rattle.vf_sorting.specs.Operators.{place_of}
use Rattle.vf_sorting.specs.Refusals.{refused}
use Rattle.vf_binding.specs.Bound.{with_names}
use Rattle.vf_asserting.specs.Leaving.{count, left}
use Rattle.vf_asserting.specs.Cases.{datatype_in, names_or_none}
use Rattle.vf_asserting.specs.Switches.{case_sorts}
use Rattle.vf_walk.specs.Walking.{Walked}
use Rattle.vf_equations.specs.Fixpoints.{around_fixpoint, result_of}
use Rattle.vf_equations.specs.Switching.{are_constructors, switched_sort}
use Rattle.vf_order_laws.specs.walk.Following.{after, choose}
use Rattle.vf_order_laws.specs.walk.Sorts.{Passed, passed}
use Rattle.vf_order_laws.specs.walk.Assertions.{Given, Switched, by_datatype, case_names, still}

-- a value that a fixpoint gives, which has to pass for the sort of its result
abbrev pub value_of : Scope → Context → Sort → Known → GhostExprTree → Passed
value_of s c t k e = choose (numbered_below (length k) t) (passed s c k t (place_of e) e) (Err (refused rules.Typing (place_of e)))

-- a case: its names, and then its value, behind which they are gone
abbrev pub case_of : Context → Sort → ℕ → Scope → Known → FixpointCase → Given
case_of c t m s k x = after (λ b. after (still (left (count s) (with_names s b))) (value_of (with_names s b) c t k x.value)) (case_names s (names_or_none x.pattern.names) (case_sorts s 0 m x.pattern) x.pattern.constructor.place)

-- cases, one after the other
abbrev pub cases_of : Context → Sort → ℕ → Scope → Known → List FixpointCase → Given
cases_of c t m s k [] = still s k
cases_of c t m s k (x ∷ xs) = after (λ r. cases_of c t m r.0 r.1 xs) (case_of c t m s k x)

-- the parameter that is switched over, by its sort: its datatype, and then whether the cases are right for it
abbrev pub switched_at : Scope → Name → List FixpointCase → Sort → Switched
switched_at s n cs t = choose (numbered_below 0 t) (by_datatype s n.place (λ d. are_constructors s d cs) t [] (datatype_in t)) (Err (refused rules.Typing n.place))

-- the same by its name
abbrev pub switch_of : Scope → Name → List FixpointCase → Switched
switch_of s n cs = after (switched_at s n cs) (switched_sort s n)

-- what is declared with as many locals as a count says
abbrev pub left_of : ℕ → Scope → Walked
left_of m s = Ok (left m s)

-- the body of a fixpoint: a value, or what it switches over and then the cases
abbrev pub equations_of : ℕ → ℕ → Scope → FixpointBody → Walked
equations_of m n s (bodies.Value e) = after (λ k. left_of m s) (value_of s (around_fixpoint n) (result_of s n) [] e)
equations_of m n s (bodies.Switch x cs) = after (λ v. after (λ r. left_of m r.0) (cases_of (around_fixpoint n) (result_of s n) v.1 s v.2 cs)) (switch_of s x cs)
