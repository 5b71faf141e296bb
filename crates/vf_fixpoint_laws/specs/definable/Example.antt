-- A unit that is accepted, in which a function behind a fixpoint has a name that is in the body of the fixpoint.
use Rattle.std.specs.Prelude.{ℕ, false, List, [], ◌∷◌, codes, None, Ok, Err}
use Rattle.vf_base.specs.declared.int_type.IntType.TheVariants as integers
use Rattle.vf_base.specs.declared.place.Place.{Place}
use Rattle.vf_base.specs.declared.refusal.Refusal.{Refusal}
use Rattle.vf_closure.specs.Terms.{Term}
use Rattle.vf_formula.specs.declared.head.Kind.TheVariants as kinds
use Rattle.vf_declared.specs.declared.scope.Scope.{Scope}
use Rattle.vf_syntax.specs.declared.item.FixpointBody.{FixpointBody}
use Rattle.vf_syntax.specs.declared.item.FixpointBody.TheVariants as bodies
use Rattle.vf_syntax.specs.declared.item.GhostForm.TheVariants as forms
use Rattle.vf_syntax.specs.declared.item.Item.{Item}
use Rattle.vf_syntax.specs.declared.item.Item.TheVariants as items
use Rattle.vf_syntax.specs.declared.item.Parameters.TheVariants as parameters
use Rattle.vf_syntax.specs.declared.written.Name.{Name}
use Rattle.vf_syntax.specs.declared.written.ResultType.TheVariants as results
use Rattle.vf_syntax.specs.GhostExprTree.{no_ghost_expr, more_ghost_expr}
use Rattle.vf_syntax.specs.GhostExprTree as tree
use Rattle.vf_syntax.specs.SortTree as sorts
use Rattle.vf_equations.specs.Fixpoints.{EquationsCome}
use Rattle.vf_definitions.specs.declared.fixpoint.Body.TheVariants as terms
use Rattle.vf_definitions.specs.declared.fixpoint.Fixpoint as definitions
use Rattle.vf_resolve.specs.declared.files.Files.{Files}
use Rattle.vf_resolve.specs.Beginning.{beginning}
use Rattle.vf_resolve.specs.Units.{ItemsCome}
use Rattle.vf_defining.specs.Symbols.{without_locals}
use Rattle.vf_defining.specs.Units.{HaveDefinitions}
use Rattle.vf_fixpoint_laws.specs.definable.Files.{SeesThrough}

-- a place on a line of the unit's own file
abbrev pub line : ℕ → Place
line n = record { file = 0; line = n; column = 1 }

-- a name there
abbrev pub name_on : ℕ → List ℕ → Name
name_on n text = record { text = text; place = line n }

-- a unit of one file
abbrev pub one_file : Files
one_file = record { own = 0; headers = (0 ∷ []) ∷ []; preludes = []; has_stdlib = false; has_arrays = false }

-- `typedef void t(void);`
abbrev pub function_type : Item
function_type = items.FunctionType (line 1) (record { «result» = results.Void (line 1); name = name_on 1 (codes "t"); parameters = parameters.Void }) None

-- `fixpoint any tested() { return is_t(0); }`
abbrev pub body : FixpointBody
body = bodies.Value (tree.application (line 2) (codes "is_t") (more_ghost_expr (tree.number (line 2) 0 integers.Int) no_ghost_expr))

abbrev pub fixpoint : Item
fixpoint = items.Ghost (record { place = line 2; form = forms.Fixpoint (sorts.any_ (line 2)) (name_on 2 (codes "tested")) [] [] body })

-- `void is_t(void);`
abbrev pub function : Item
function = items.Prototype (record { «result» = results.Void (line 3); name = name_on 3 (codes "is_t"); parameters = parameters.Void }) None None

abbrev pub unit : List Item
unit = function_type ∷ fixpoint ∷ function ∷ []

-- the paths of its files
abbrev pub paths : List (List ℕ)
paths = codes "u.c" ∷ []

-- the definition of its fixpoint, whose body gives a term
abbrev pub definition : Term → definitions.Fixpoint
definition t = record { kind = kinds.Other; identity = codes "u.c#tested"; parameters = 0; body = terms.Returns t }

-- the unit is accepted, its file sees all that it sees, and behind it the fixpoint has its definition; with all names of the unit its body is refused there
pub record LaterNamesDoNotCount : Type 0 where
  pub whole : Scope
  pub accepted : ItemsCome unit (beginning one_file unit) (Ok whole)
  pub sees : SeesThrough (beginning one_file unit)
  pub value : Term
  pub defined : HaveDefinitions (without_locals whole) paths unit (definition value ∷ [])
  pub refusal : Refusal
  pub refused : EquationsCome 0 0 (without_locals whole) body (Err refusal)
