-- Unfoldings by the fixpoints that a unit declares, and what a refutation with them shows.
use Rattle.std.specs.Prelude.{◌≡◌, ℕ, cond, List, [], ◌∷◌, Contains, Option, Some, None}
use Rattle.vf_tree.specs.Core.{Identity}
use Rattle.vf_model.specs.Values.{Values, same_identity}
use Rattle.vf_meaning.specs.Ghost.{GhostExpression, CaseTree, FixpointTree, Returns, Switches}
use Rattle.vf_meaning.specs.Valuations.{Valuation, of_arguments, all_bound}
use Rattle.vf_meaning.specs.GhostValues.{Interpretation, value_of, by_body}
use Rattle.vf_closure.specs.Terms.{Kind, Fixpoint, Constructor, Term, Terms, term, IsAt}
use Rattle.vf_closure.specs.Values.{of_kind, value, all_values}
use Rattle.vf_closure.specs.Literals.{Literal}
use Rattle.vf_closure.specs.Closure.{Unfoldings, IsRefuted}
use Rattle.vf_closure.specs.Laws.{Entails}

-- the case of a constructor, the first one
abbrev pub case_of : List CaseTree → Identity → Option CaseTree
case_of [] c = None
case_of (k ∷ ks) c = cond (same_identity k.constructor c) (Some k) (case_of ks c)

-- a term is the application of a declared fixpoint to arguments
pub record IsApplication (fixpoints : List FixpointTree) (t : Term) : Type 0 where
  pub kind : Kind
  pub fixpoint : FixpointTree
  pub arguments : Terms
  pub is : t ≡ term (Fixpoint kind fixpoint.identity) arguments
  pub declared : Contains fixpoints fixpoint

-- b is what the application t of a fixpoint without a switch is unfolded to: it has the value of the body at the arguments, whatever names and fixpoints stand for
pub record IsBodyOf (fixpoints : List FixpointTree) (t b : Term) : Type 0 where
  pub application : IsApplication fixpoints t
  pub expression : GhostExpression
  pub returns : application.fixpoint.body ≡ Returns expression
  pub keeps : (i : Interpretation) (v : Valuation) → value i v b ≡ of_kind application.kind (value_of i (of_arguments (all_values i v application.arguments)) expression)

-- a is the argument that the application t of a fixpoint with a switch goes by, and b what it is unfolded to where that is the constructor's term k: it has the value of the constructor's case
pub record IsCaseOf (fixpoints : List FixpointTree) (t a k b : Term) : Type 0 where
  pub application : IsApplication fixpoints t
  pub switched : ℕ
  pub cases : List CaseTree
  pub switches : application.fixpoint.body ≡ Switches switched cases
  pub argument : IsAt a switched application.arguments
  pub constructor : Identity
  pub parts : Terms
  pub tree : k ≡ term (Constructor constructor) parts
  pub case : CaseTree
  pub found : case_of cases constructor ≡ Some case
  pub keeps : (i : Interpretation) (v : Valuation) → value i v b ≡ of_kind application.kind (value_of i (all_bound (of_arguments (all_values i v application.arguments)) case.names (all_values i v parts)) case.result)

-- the unfoldings are those of declared fixpoints
pub record AreOf (fixpoints : List FixpointTree) (u : Unfoldings) : Type 0 where
  pub bodies : (t b : Term) → u.body t ≡ Some b → IsBodyOf fixpoints t b
  pub cases : (t a k b : Term) → u.switched t ≡ Some a → u.case t k ≡ Some b → IsCaseOf fixpoints t a k b

-- declarations give fixpoints the values of their equations
abbrev pub MeetsEquations : Interpretation → List FixpointTree → Type 0
MeetsEquations i fixpoints = (f : FixpointTree) → Contains fixpoints f → (vs : Values) → i.fixpoint f.identity vs ≡ by_body i f.body vs

-- where a question is refuted with the fixpoints of a unit, the facts entail the goal whatever else is declared, as long as these fixpoints have their equations
abbrev pub RefutationsEntail : Type 0
RefutationsEntail =
    (fixpoints : List FixpointTree) (u : Unfoldings) (path : List Literal) (goal : Literal) → AreOf fixpoints u → IsRefuted u path goal
    → (i : Interpretation) → MeetsEquations i fixpoints → Entails i path goal
