-- What is declared behind a fixpoint, or its first refusal in the order of the text.
use Rattle.std.specs.Prelude.{ℕ, List, [], length, Option, Some, None, false, Ok, Err}
use Rattle.vf_base.specs.declared.refusal.Refusal.{Refusal}
use Rattle.vf_sorts.specs.Sorts.{Sort}
use Rattle.vf_sorts.specs.Unknowns.{Known}
use Rattle.vf_declared.specs.declared.declaration.GhostDeclaration.{GhostDeclaration}
use Rattle.vf_declared.specs.declared.declaration.GhostDeclaration.TheVariants as ghosts
use Rattle.vf_declared.specs.declared.scope.Scope.{Scope}
use Rattle.vf_declared.specs.Scopes.{ghost_of}
use Rattle.vf_syntax.specs.declared.item.FixpointBody.{FixpointBody}
use Rattle.vf_syntax.specs.declared.item.FixpointBody.TheVariants as bodies
use Rattle.vf_syntax.specs.declared.item.FixpointCase.{FixpointCase}
use Rattle.vf_syntax.specs.declared.item.GhostParameter.{GhostParameter}
use Rattle.vf_syntax.specs.declared.written.Name.{Name}
use Rattle.vf_syntax.specs.GhostExprTree.{GhostExprTree}
use Rattle.vf_syntax.specs.SortTree.{SortTree}
use Rattle.vf_sorting.specs.declared.context.Context.{Context}
use Rattle.vf_sorting.specs.Kinds.{int_sort}
use Rattle.vf_asserting.specs.Leaving.{count, left}
use Rattle.vf_heads.specs.Heads.{fixpoint_behind}
use Rattle.vf_walk.specs.Walking.{Only, Then, Walked}
use Rattle.vf_equations.specs.Switching.{SwitchFails, Switches}
use Rattle.vf_equations.specs.Values.{AnyCaseFails, CasesGive, ValueFails, ValuePasses}

-- around the body of a fixpoint with a number: none of `result`, `this` and `currentThread` may stand in it, and its own type parameters are sorts of their own
abbrev pub around_fixpoint : ℕ → Context
around_fixpoint n = record { «result» = None; has_this = false; has_thread = false; own = Some n }

-- the sort of the result of what is declared, which is a fixpoint
abbrev pub result_in : Option GhostDeclaration → Sort
result_in (Some (ghosts.Fixpoint f)) = f.result
result_in x = int_sort

-- the sort of the result of the fixpoint with a number
abbrev pub result_of : Scope → ℕ → Sort
result_of s n = result_in (ghost_of s n)

-- the body of the fixpoint with a number comes to what was declared before it, of which as many locals as a count says are left behind it, or to its refusal: it gives a value, or a value in each case
pub data EquationsCome (m n : ℕ) (s : Scope) : FixpointBody → Walked → Type 0 where
  value : {e : GhostExprTree} {k : Known} → ValuePasses s (around_fixpoint n) (result_of s n) [] e k → EquationsCome m n s (bodies.Value e) (Ok (left m s))
  value_refused : {e : GhostExprTree} {r : Refusal} → ValueFails s (around_fixpoint n) (result_of s n) [] e r → EquationsCome m n s (bodies.Value e) (Err r)
  cases : {x : Name} {cs : List FixpointCase} {p : ℕ} {s' : Scope} {k k' : Known} → Switches s x cs p k → CasesGive (around_fixpoint n) (result_of s n) p s k cs s' k' → EquationsCome m n s (bodies.Switch x cs) (Ok (left m s'))
  switch_refused : {x : Name} {cs : List FixpointCase} {r : Refusal} → SwitchFails s x cs r → EquationsCome m n s (bodies.Switch x cs) (Err r)
  case_refused : {x : Name} {cs : List FixpointCase} {p : ℕ} {k : Known} {r : Refusal} → Switches s x cs p k → AnyCaseFails (around_fixpoint n) (result_of s n) p s k cs r → EquationsCome m n s (bodies.Switch x cs) (Err r)

-- a fixpoint with its body, which may speak of the fixpoint itself; its parameters are gone behind it
abbrev pub FixpointComes : SortTree → Name → List Name → List GhostParameter → FixpointBody → Scope → Walked → Type 0
FixpointComes t n ps gs b s = Then (Only (fixpoint_behind t n ps gs s)) (λ u. EquationsCome (count s) (length s.ghosts) u b)
