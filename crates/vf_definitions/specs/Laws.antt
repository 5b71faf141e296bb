-- What unfolding by definitions shows.
use Rattle.std.specs.Prelude.{◌≡◌, List, Contains, Some}
use Rattle.vf_tree.specs.Core.{Identity}
use Rattle.vf_model.specs.Values.{Values}
use Rattle.vf_model.specs.Values as values
use Rattle.vf_meaning.specs.Valuations.{value_at, count, appended, of_arguments}
use Rattle.vf_meaning.specs.GhostValues.{Interpretation}
use Rattle.vf_closure.specs.Values.{of_kind, value}
use Rattle.vf_closure.specs.Literals.{Literal}
use Rattle.vf_closure.specs.Laws.{KeepValues, Entails}
use Rattle.vf_closure.specs.Closure.{IsRefuted}
use Rattle.vf_formula.specs.Heads.{shown_kind}
use Rattle.vf_definitions.specs.Unfolded.{unfoldings_of, case_for}
use Rattle.vf_definitions.specs.declared.fixpoint.Case.{Case}
use Rattle.vf_definitions.specs.declared.fixpoint.Body.{Body}
use Rattle.vf_definitions.specs.declared.fixpoint.Body.TheVariants.{Returns, Switches}
use Rattle.vf_definitions.specs.declared.fixpoint.Fixpoint as declared

-- A declared fixpoint has, at as many values as it has parameters, the value that its body has there, as its kind has it: that of the returned term, or, where it switches over a constructor's term with as many arguments as the case has names, that of the case's term at the values and behind them these arguments
abbrev pub MeetsBody : Interpretation → declared.Fixpoint → Body → Type 0
MeetsBody i f (Returns b) = (vs : Values) → count vs ≡ f.parameters → of_kind (shown_kind f.kind) (i.fixpoint f.identity vs) ≡ value i (of_arguments vs) b
MeetsBody i f (Switches k cases) =
    (vs us : Values) (c : Identity) (x : Case) → count vs ≡ f.parameters → value_at vs k ≡ values.Constructed c us → case_for cases c ≡ Some x → count us ≡ x.names
    → of_kind (shown_kind f.kind) (i.fixpoint f.identity vs) ≡ value i (of_arguments (appended vs us)) x.result

-- what is declared gives each of some fixpoints the values of its body
abbrev pub MeetsDefinitions : Interpretation → List declared.Fixpoint → Type 0
MeetsDefinitions i fs = (f : declared.Fixpoint) → Contains fs f → MeetsBody i f f.body

-- where fixpoints have the values of their bodies, what applications are unfolded to has their values
abbrev pub DefinitionsKeepValues : Type 0
DefinitionsKeepValues = (i : Interpretation) (fs : List declared.Fixpoint) → MeetsDefinitions i fs → KeepValues i (unfoldings_of fs)

-- where a question is refuted with some fixpoints, the facts entail the goal whatever else is declared, as long as these have the values of their bodies
abbrev pub DefinitionsEntail : Type 0
DefinitionsEntail = (fs : List declared.Fixpoint) (path : List Literal) (goal : Literal) → IsRefuted (unfoldings_of fs) path goal → (i : Interpretation) → MeetsDefinitions i fs → Entails i path goal
