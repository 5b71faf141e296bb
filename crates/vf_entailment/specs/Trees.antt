-- The fixpoints of a unit, which the prover unfolds, as the fixpoints of an environment.
use Rattle.std.specs.Prelude.{◌≡◌, ℕ, zero, suc, List, [], ◌∷◌, length, map, Contains}
use Rattle.vf_tree.specs.Core.{Identity}
use Rattle.vf_meaning.specs.Ghost.{Sort, Name, Numbered, CaseTree, FixpointBody, FixpointTree}
use Rattle.vf_meaning.specs.Ghost as ghosts
use Rattle.vf_closure.specs.Terms.{Kind}
use Rattle.vf_normal.specs.Normal.{as_kind}
use Rattle.vf_formula.specs.Heads.{shown_kind}
use Rattle.vf_definitions.specs.declared.fixpoint.Case.{Case}
use Rattle.vf_definitions.specs.declared.fixpoint.Body.{Body}
use Rattle.vf_definitions.specs.declared.fixpoint.Body.TheVariants.{Returns, Switches}
use Rattle.vf_definitions.specs.declared.fixpoint.Fixpoint.{Fixpoint}
use Rattle.vf_entailment.specs.Meant.{meant}

-- so many names, numbered from a number on
abbrev pub numbered : ℕ → ℕ → List Name
numbered n zero = []
numbered n (suc m) = Numbered n ∷ numbered (suc n) m

-- a case of a fixpoint with so many parameters: its names are numbered behind these
abbrev pub case_tree : ℕ → Case → CaseTree
case_tree n c = record { constructor = c.constructor; names = numbered n c.names; result = meant c.result }

-- the body of a fixpoint with so many parameters
abbrev pub body_tree : ℕ → Body → FixpointBody
body_tree n (Returns t) = ghosts.Returns (meant t)
body_tree n (Switches k cases) = ghosts.Switches k (map (case_tree n) cases)

-- a fixpoint with an identity, the sorts of its parameters and of its result, which a unit's definitions do not have, and a body
abbrev pub tree_of : Identity → List Sort → Sort → Body → FixpointTree
tree_of c sorts s b = record { identity = c; parameters = sorts; result = s; body = body_tree (length sorts) b }

-- a case whose result is taken as one of a kind
abbrev pub case_as : Kind → Case → Case
case_as k c = record { constructor = c.constructor; names = c.names; result = as_kind k c.result }

-- a body whose results are taken as ones of a kind
abbrev pub body_as : Kind → Body → Body
body_as k (Returns t) = Returns (as_kind k t)
body_as k (Switches p cases) = Switches p (map (case_as k) cases)

-- A unit's fixpoint stands among the fixpoints of an environment: with as many parameters, of some sorts, and with a body that is its own where results are taken as ones of its kind. A fixpoint whose result is of a type parameter has a definition for each kind, and stands there once
pub record IsAmong (fixpoints : List FixpointTree) (f : Fixpoint) : Type 0 where
  pub sorts : List Sort
  pub result : Sort
  pub body : Body
  pub number : length sorts ≡ f.parameters
  pub is : f.body ≡ body_as (shown_kind f.kind) body
  pub there : Contains fixpoints (tree_of f.identity sorts result body)

-- each of a unit's fixpoints does
abbrev pub AreAmong : List FixpointTree → List Fixpoint → Type 0
AreAmong fixpoints fs = (f : Fixpoint) → Contains fs f → IsAmong fixpoints f
