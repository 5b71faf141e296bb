-- Bodies of fixpoints as terms.
use Rattle.std.specs.Prelude.{ℕ, List, [], Err}
use Rattle.vf_base.specs.declared.refusal.RuleFault.{RuleFault}
use Rattle.std.specs.declared.result.Result.{Result}
use Rattle.vf_sorts.specs.Unknowns.{Known}
use Rattle.vf_declared.specs.declared.scope.Scope.{Scope}
use Rattle.vf_syntax.specs.declared.item.FixpointBody.{FixpointBody}
use Rattle.vf_syntax.specs.declared.item.FixpointBody.TheVariants as written
use Rattle.vf_syntax.specs.declared.item.FixpointCase.{FixpointCase}
use Rattle.vf_syntax.specs.declared.written.Name.{Name}
use Rattle.vf_syntax.specs.GhostExprTree.{GhostExprTree}
use Rattle.vf_sorting.specs.Answers.{Answers}
use Rattle.vf_asserting.specs.Leaving.{count}
use Rattle.vf_equations.specs.Fixpoints.{around_fixpoint, result_of, EquationsCome}
use Rattle.vf_equations.specs.Switching.{Switches}
use Rattle.vf_equations.specs.Values.{CasesGive, ValuePasses}
use Rattle.vf_definitions.specs.declared.fixpoint.Body.{Body}
use Rattle.vf_definitions.specs.declared.fixpoint.Body.TheVariants as bodies
use Rattle.vf_defining.specs.Symbols.{value_read}
use Rattle.vf_defining.specs.Bodies.{cases_of, place_among}

-- The body of the fixpoint with a number as terms over its parameters, which are the locals: its value, or the values of its cases, read with what is known of unknown sorts when all of them are sorted
pub data Defines (s : Scope) (paths : List (List ℕ)) (n : ℕ) : FixpointBody → Body → Type 0 where
  value : {e : GhostExprTree} {k : Known} → ValuePasses s (around_fixpoint n) (result_of s n) [] e k → Defines s paths n (written.Value e) (bodies.Returns (value_read s (around_fixpoint n) k paths (result_of s n) 0 e).term)
  cases : {x : Name} {cs : List FixpointCase} {m : ℕ} {s' : Scope} {k k' : Known} → Switches s x cs m k → CasesGive (around_fixpoint n) (result_of s n) m s k cs s' k'
      → Defines s paths n (written.Switch x cs) (bodies.Switches (place_among s' x) (cases_of (around_fixpoint n) k' paths (result_of s n) m s' m cs))

-- an answer for a body is what it comes to in terms, or the refusal that its equations come to
pub record IsDefined (s : Scope) (paths : List (List ℕ)) (n : ℕ) (b : FixpointBody) (r : Result Body RuleFault) : Type 0 where
  pub answers : Answers (Defines s paths n b) (λ x. EquationsCome (count s) n s b (Err x)) r
