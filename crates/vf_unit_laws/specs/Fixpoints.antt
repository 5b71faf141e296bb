-- The fixpoints that the environment of a unit has, by the definitions of the unit.
use Rattle.std.specs.Prelude.{◌≡◌, Bool, if◌then◌else◌, List, [], ◌∷◌, length, Contains}
use Rattle.std.specs.List.{list_any}
use Rattle.vf_tree.specs.Core.{Identity}
use Rattle.vf_model.specs.Values.{same_identity}
use Rattle.vf_meaning.specs.Ghost.{Sort}
use Rattle.vf_meaning.specs.Assertions.{Environment}
use Rattle.vf_definitions.specs.declared.fixpoint.Fixpoint as definitions
use Rattle.vf_view_laws.specs.Order.{Written, trees_for}

-- the sorts of a fixpoint's parameters, and that of its result
pub record Signature : Type 0 where
  pub sorts : List Sort
  pub result : Sort

-- the signatures of fixpoints, by their identities
abbrev pub Signatures : Type 0
Signatures = Identity → Signature

-- signatures have as many parameters as definitions
abbrev pub AreAsMany : Signatures → List definitions.Fixpoint → Type 0
AreAsMany g fs = (f : definitions.Fixpoint) → Contains fs f → length (g f.identity).sorts ≡ f.parameters

-- an identity is one of several
abbrev pub is_one_of : List Identity → Identity → Bool
is_one_of cs c = list_any (λ (d : Identity). same_identity d c) cs

-- the fixpoint of a definition
abbrev pub written_by : Signatures → definitions.Fixpoint → Written
written_by g f = record { identity = f.identity; sorts = (g f.identity).sorts; result = (g f.identity).result; body = f.body }

-- the fixpoints of definitions behind those with some identities: one for each other identity, by the first definition that has it, whose body is as the text has it
abbrev pub written_behind : Signatures → List Identity → List definitions.Fixpoint → List Written
written_behind g earlier [] = []
written_behind g earlier (f ∷ fs) = if is_one_of earlier f.identity then written_behind g earlier fs else written_by g f ∷ written_behind g (f.identity ∷ earlier) fs

-- the fixpoints of the definitions of a unit, in the order of these
abbrev pub written_for : Signatures → List definitions.Fixpoint → List Written
written_for g fs = written_behind g [] fs

-- the fixpoints of an environment are those of definitions, with some signatures
pub record HasFixpointsOf (u : Environment) (fs : List definitions.Fixpoint) : Type 0 where
  pub signatures : Signatures
  pub many : AreAsMany signatures fs
  pub is : u.fixpoints ≡ trees_for (written_for signatures fs)
