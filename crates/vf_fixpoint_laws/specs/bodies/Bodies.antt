-- When the body of a fixpoint has a value of its sort, and what is needed of declarations for it.
use Rattle.std.specs.Prelude.{◌≡◌, ℕ, true, List, length, map, Some, is_some, slice_get}
use Rattle.vf_tree.specs.Core.{Identity}
use Rattle.vf_model.specs.Values.{Values}
use Rattle.vf_model.specs.Values as values
use Rattle.vf_meaning.specs.Valuations.{value_at, appended, of_arguments}
use Rattle.vf_meaning.specs.GhostValues.{Interpretation}
use Rattle.vf_closure.specs.Values.{of_kind}
use Rattle.vf_formula.specs.Heads.{shown_kind}
use Rattle.vf_sorts.specs.declared.sort.Head.TheVariants as heads
use Rattle.vf_sorts.specs.Sorts.{Sort, Sorts, sort}
use Rattle.vf_sorts.specs.Unknowns.{Filling, IsBelow}
use Rattle.vf_syntax.specs.declared.item.FixpointBody.{FixpointBody}
use Rattle.vf_syntax.specs.declared.item.GhostParameter.{GhostParameter}
use Rattle.vf_syntax.specs.declared.written.Name.{Name}
use Rattle.vf_declared.specs.declared.declaration.Constructor.{Constructor}
use Rattle.vf_declared.specs.declared.declaration.Fixpoint as declaration
use Rattle.vf_declared.specs.declared.declaration.GhostDeclaration.{GhostDeclaration}
use Rattle.vf_declared.specs.declared.declaration.GhostDeclaration.TheVariants as ghosts
use Rattle.vf_declared.specs.declared.scope.Scope.{Scope}
use Rattle.vf_declared.specs.Scopes.{datatype_of, ghost_of}
use Rattle.vf_sorting.specs.Schemes.{count_in}
use Rattle.vf_terms.specs.Settings.{kind_of_sort}
use Rattle.vf_definitions.specs.Laws.{MeetsBody}
use Rattle.vf_definitions.specs.Unfolded.{case_for}
use Rattle.vf_definitions.specs.declared.fixpoint.Case.{Case}
use Rattle.vf_definitions.specs.declared.fixpoint.Body.{Body}
use Rattle.vf_definitions.specs.declared.fixpoint.Body.TheVariants.{Returns, Switches}
use Rattle.vf_definitions.specs.declared.fixpoint.Fixpoint as definitions
use Rattle.vf_defining.specs.Fixpoints.{Defines}
use Rattle.vf_defining.specs.Symbols.{without_locals}
use Rattle.vf_defining.specs.UpTo.{up_to}
use Rattle.vf_defining.specs.Units.{within_fixpoint}
use Rattle.vf_fixpoint_laws.specs.values.Instances.{Instance, placed}
use Rattle.vf_fixpoint_laws.specs.values.Declares.{Covers, Declared, Declares}
use Rattle.vf_fixpoint_laws.specs.values.Worth.{HasValue, HaveValues, Sets, Tests, passing}
use Rattle.vf_fixpoint_laws.specs.values.Given.{TermKeepsSorts}
use Rattle.vf_fixpoint_laws.specs.bodies.Closed.{Each, IsClosed}

-- what is declared at file level
abbrev pub declared_at : Scope → List (List ℕ) → Declared
declared_at s paths = record { scope = without_locals s; paths = paths }

-- an identity is that of one declaration, and no sort stands in the arguments of constructors that is unknown, or a type parameter but those of the datatype
pub record IsWellDeclared (d : Declared) : Type 0 where
  pub tells : (c : Identity) (a b : GhostDeclaration) → Declares d c a → Declares d c b → a ≡ b
  pub constructors : (c : Identity) (k : Constructor) → Declares d c (ghosts.Constructor k) → Each (IsClosed (count_in (datatype_of d.scope k.datatype))) k.arguments

-- the fixpoints that a body applies at arguments keep sorts there
abbrev pub BodyKeepsSorts : Declared → Interpretation → Sets → Values → Body → Type 0
BodyKeepsSorts d i sets vs (Returns t) = TermKeepsSorts d i (of_arguments vs) sets t
BodyKeepsSorts d i sets vs (Switches k cases) = (c : Identity) (us : Values) (x : Case) → value_at vs k ≡ values.Constructed c us → case_for cases c ≡ Some x → TermKeepsSorts d i (of_arguments (appended vs us)) sets x.result

-- a body with parameters of these sorts has a case for each constructor of the datatype of the one that it switches over
abbrev pub HasEachCase : Declared → List Sort → Body → Type 0
HasEachCase d ts (Returns t) = Unit {0}
HasEachCase d ts (Switches k cases) = (n : ℕ) (us : Sorts) → slice_get ts k ≡ Some (sort (heads.Datatype n) us) → (c : Identity) (x : Constructor) → Declares d c (ghosts.Constructor x) → x.datatype ≡ n → is_some (case_for cases c) ≡ true

-- a declared fixpoint with a body as terms, where its name is the last of file level and all that is declared covers what is so up to it, and its definition for the kind of its result's sort
pub record IsDefinedBy (s : Scope) (paths : List (List ℕ)) (x : declaration.Fixpoint) (body : Body) (k : definitions.Fixpoint) : Type 0 where
  pub name : Name
  pub number : ℕ
  pub parameters : List GhostParameter
  pub text : FixpointBody
  pub stands : ghost_of s number ≡ Some (ghosts.Fixpoint x)
  pub known_result : IsBelow 0 x.result
  pub known_arguments : Each (IsBelow 0) x.arguments
  pub long : length parameters ≡ length x.arguments
  pub covers : Covers (declared_at s paths) (declared_at (up_to name s) paths)
  pub defines : Defines (within_fixpoint (up_to name s) parameters x.arguments) paths number text body
  pub each_case : HasEachCase (declared_at s paths) x.arguments body
  pub counted : k.parameters ≡ length parameters
  pub kind : shown_kind k.kind ≡ kind_of_sort x.result

-- at values of its arguments' sorts a fixpoint that has the values of its body has, as its kind has it, one of its result's sort, where the fixpoints that the body applies keep sorts there
abbrev pub GivesItsSort : Sets → Type 0
GivesItsSort sets =
    (s : Scope) (paths : List (List ℕ)) (x : declaration.Fixpoint) (body : Body) (k : definitions.Fixpoint) (i : Interpretation) → IsWellDeclared (declared_at s paths) → IsDefinedBy s paths x body k → MeetsBody i k body
    → (vs : Values) (g : Instance) (f : Filling) → HaveValues (declared_at s paths) sets vs (map (placed g f) x.arguments) → BodyKeepsSorts (declared_at s paths) i sets vs body
    → HasValue (declared_at s paths) sets (of_kind (kind_of_sort x.result) (i.fixpoint k.identity vs)) (placed g f x.result)

-- so it is for all sets that are told by tests
abbrev pub BodiesGiveSorts : Type 0
BodiesGiveSorts = (tests : Tests) → GivesItsSort (passing tests)
