-- Definitions whose applications go down, and which agree where they are of one identity, have an interpretation that gives them the values of their bodies.
use Rattle.std.specs.Prelude.{◌≡◌, Bool, List, Some, Contains}
use Rattle.vf_tree.specs.Core.{Identity}
use Rattle.vf_meaning.specs.Valuations.{Valuation}
use Rattle.vf_meaning.specs.GhostValues.{Interpretation}
use Rattle.vf_closure.specs.Terms.{Kind, Term}
use Rattle.vf_closure.specs.Values.{of_kind, value}
use Rattle.vf_formula.specs.Heads.{shown_kind}
use Rattle.vf_definitions.specs.Laws.{MeetsBody, MeetsDefinitions}
use Rattle.vf_definitions.specs.Unfolded.{case_for}
use Rattle.vf_definitions.specs.declared.fixpoint.Case.{Case}
use Rattle.vf_definitions.specs.declared.fixpoint.Body.{Body}
use Rattle.vf_definitions.specs.declared.fixpoint.Body.TheVariants.{Returns, Switches}
use Rattle.vf_definitions.specs.declared.fixpoint.Fixpoint as definitions
use Rattle.vf_fixpoint_laws.specs.bodies.Recursion.{Ranks}
use Rattle.vf_fixpoint_laws.specs.bodies.Units.{GoDown}
use Rattle.vf_fixpoint_laws.specs.met.Valued.{first_for}

-- a term has values that are as a kind has them, whatever fixpoints and names give
abbrev pub IsOfKind : Kind → Term → Type 0
IsOfKind k t = (i : Interpretation) (v : Valuation) → of_kind k (value i v t) ≡ value i v t

-- so has each term that a body returns
abbrev pub BodyIsOfKind : Kind → Body → Type 0
BodyIsOfKind k (Returns t) = IsOfKind k t
BodyIsOfKind k (Switches p cases) = (c : Identity) (y : Case) → case_for cases c ≡ Some y → IsOfKind k y.result

-- Definitions agree where they are of one identity: the first returns values of its kind, and wherever it has the values of its body the others have those of theirs
pub record AgreeByIdentity (fs : List definitions.Fixpoint) : Type 0 where
  pub of_their_kind : (c : Identity) (x : definitions.Fixpoint) → first_for fs c ≡ Some x → BodyIsOfKind (shown_kind x.kind) x.body
  pub with_the_first : (c : Identity) (x y : definitions.Fixpoint) → first_for fs c ≡ Some x → Contains fs y → y.identity ≡ c → (i : Interpretation) → MeetsBody i x x.body → MeetsBody i y y.body

-- an interpretation with some claims gives definitions the values of their bodies
abbrev pub AreMetWith : (Identity → Identity → Bool) → List definitions.Fixpoint → Type 0
AreMetWith claims fs = (i : Interpretation) × (i.claims ≡ claims) × MeetsDefinitions i fs

-- there is one for any claims, where the applications in the bodies go down in some order and the definitions agree
abbrev pub DefinitionsAreMet : Type 0
DefinitionsAreMet = (claims : Identity → Identity → Bool) (fs : List definitions.Fixpoint) (r : Ranks) → GoDown r fs → AgreeByIdentity fs → AreMetWith claims fs
