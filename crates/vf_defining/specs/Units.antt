-- The fixpoints of a unit as definitions.
use Rattle.std.specs.Prelude.{◌≡◌, ℕ, List, [], ◌∷◌, ◌++◌, length, map, Option, Some, None, Err}
use Rattle.std.specs.declared.result.Result.{Result}
use Rattle.vf_base.specs.declared.refusal.Refusal.{Refusal}
use Rattle.vf_base.specs.declared.refusal.RuleFault.{RuleFault}
use Rattle.vf_tree.specs.Core.{Identity}
use Rattle.vf_normal.specs.Sums.{as_integer}
use Rattle.vf_formula.specs.declared.head.Kind.TheVariants as kinds
use Rattle.vf_sorts.specs.declared.sort.Head.TheVariants as heads
use Rattle.vf_sorts.specs.Sorts.{Sort, sort}
use Rattle.vf_declared.specs.declared.declaration.Meaning.TheVariants as meanings
use Rattle.vf_declared.specs.declared.declaration.GhostDeclaration.TheVariants as ghosts
use Rattle.vf_declared.specs.declared.declaration.Fixpoint as declared
use Rattle.vf_declared.specs.declared.scope.Scope.{Scope}
use Rattle.vf_declared.specs.Scopes.{declaration_of, ghost_of}
use Rattle.vf_syntax.specs.declared.item.FixpointBody.{FixpointBody}
use Rattle.vf_syntax.specs.declared.item.GhostParameter.{GhostParameter}
use Rattle.vf_syntax.specs.declared.item.Item.{Item}
use Rattle.vf_syntax.specs.declared.item.Item.TheVariants as items
use Rattle.vf_syntax.specs.declared.item.GhostForm.{GhostForm}
use Rattle.vf_syntax.specs.declared.item.GhostForm.TheVariants as forms
use Rattle.vf_syntax.specs.declared.written.Name.{Name}
use Rattle.vf_defining.specs.declared.units.Written as code
use Rattle.vf_sorting.specs.Answers.{Answers}
use Rattle.vf_binding.specs.Bound.{with_names}
use Rattle.vf_asserting.specs.Leaving.{count}
use Rattle.vf_equations.specs.Fixpoints.{EquationsCome}
use Rattle.vf_definitions.specs.declared.fixpoint.Body.{Body}
use Rattle.vf_definitions.specs.declared.fixpoint.Body.TheVariants.{Returns, Switches}
use Rattle.vf_definitions.specs.declared.fixpoint.Case.{Case}
use Rattle.vf_definitions.specs.declared.fixpoint.Fixpoint as definitions
use Rattle.vf_defining.specs.Symbols.{without_locals}
use Rattle.vf_defining.specs.UpTo.{up_to}
use Rattle.vf_defining.specs.Bodies.{identity_at}
use Rattle.vf_defining.specs.Fixpoints.{Defines}

-- what is declared in the body of a fixpoint: its parameters are the locals
abbrev pub within_fixpoint : Scope → List GhostParameter → List Sort → Scope
within_fixpoint s gs ts = with_names (without_locals s) (record { names = map (λ (g : GhostParameter). g.name.text) gs; sorts = ts })

-- a fixpoint, its name, its parameters and its body, as the text has it
pub record Written : Type 0 where
  pub name : Name
  pub parameters : List GhostParameter
  pub body : FixpointBody

-- the same as the code has it
abbrev pub written_of : code.Written → Written
written_of w = record { name = w.name.now; parameters = w.parameters.now; body = w.body.now }

-- the fixpoint that an item is, if it is one
abbrev pub written_form : GhostForm → Option Written
written_form (forms.Fixpoint t n ps gs b) = Some (record { name = n; parameters = gs; body = b })
written_form x = None

abbrev pub written_in : Item → Option Written
written_in (items.Ghost x) = written_form x.form
written_in x = None

-- a case whose result is taken as a number
abbrev pub case_of_integers : Case → Case
case_of_integers c = record { constructor = c.constructor; names = c.names; result = as_integer c.result }

-- a body whose results are taken as numbers
abbrev pub of_integers : Body → Body
of_integers (Returns t) = Returns (as_integer t)
of_integers (Switches k cases) = Switches k (map case_of_integers cases)

-- the definitions of a fixpoint with an identity, so many parameters, a body in terms and a result of a sort, one for each kind of its applications: it has both kinds where that is a type parameter, and as an integer it gives the number of what it gives
abbrev pub definitions_by : Identity → ℕ → Body → Sort → List definitions.Fixpoint
definitions_by c m b (sort heads.Int ts) = (record { kind = kinds.Integer; identity = c; parameters = m; body = b }) ∷ []
definitions_by c m b (sort (heads.Parameter n) ts) = (record { kind = kinds.Other; identity = c; parameters = m; body = b }) ∷ (record { kind = kinds.Integer; identity = c; parameters = m; body = of_integers b }) ∷ []
definitions_by c m b t = (record { kind = kinds.Other; identity = c; parameters = m; body = b }) ∷ []

-- the same of a fixpoint as the text has it
abbrev pub definitions_of : Scope → List (List ℕ) → Written → Body → Sort → List definitions.Fixpoint
definitions_of s paths w b t = definitions_by (identity_at s paths w.name) (length w.parameters) b t

-- the number and the declaration of the fixpoint that a name means
pub record IsNumbered (s : Scope) (w : Written) (n : ℕ) (f : declared.Fixpoint) : Type 0 where
  pub means : declaration_of s w.name.text w.name.place.file ≡ Some (meanings.Ghost n)
  pub is : ghost_of s n ≡ Some (ghosts.Fixpoint f)

-- An item has these definitions: one for each kind of applications of a fixpoint, whose body is defined where its parameters are the locals and its name is the last of file level; every other item has none
pub data ItemDefines (s : Scope) (paths : List (List ℕ)) : Item → List definitions.Fixpoint → Type 0 where
  other_item : {x : Item} → written_in x ≡ None → ItemDefines s paths x []
  stray_item : {x : Item} {w : Written} → written_in x ≡ Some w → ((n : ℕ) (f : declared.Fixpoint) → IsNumbered s w n f → ⊥) → ItemDefines s paths x []
  fixpoint : {x : Item} {w : Written} {n : ℕ} {f : declared.Fixpoint} {b : Body} → written_in x ≡ Some w → IsNumbered s w n f → Defines (within_fixpoint (up_to w.name s) w.parameters f.arguments) paths n w.body b → ItemDefines s paths x (definitions_of s paths w b f.result)

-- the body of a fixpoint is refused where its parameters are the locals and its name is the last of file level
pub data ItemIsRefused (s : Scope) : Item → Refusal → Type 0 where
  its_body : {x : Item} {w : Written} {n : ℕ} {f : declared.Fixpoint} {r : Refusal} → written_in x ≡ Some w → IsNumbered s w n f → EquationsCome (count (within_fixpoint (up_to w.name s) w.parameters f.arguments)) n (within_fixpoint (up_to w.name s) w.parameters f.arguments) w.body (Err r) → ItemIsRefused s x r

-- items have the definitions of each, in their order
pub data HaveDefinitions (s : Scope) (paths : List (List ℕ)) : List Item → List definitions.Fixpoint → Type 0 where
  no_items : HaveDefinitions s paths [] []
  more_items : {x : Item} {xs : List Item} {ds es : List definitions.Fixpoint} → ItemDefines s paths x ds → HaveDefinitions s paths xs es → HaveDefinitions s paths (x ∷ xs) (ds ++ es)

-- one of some items is refused
pub data AnyIsRefused (s : Scope) : List Item → Refusal → Type 0 where
  this_item : {x : Item} {xs : List Item} {r : Refusal} → ItemIsRefused s x r → AnyIsRefused s (x ∷ xs) r
  later_item : {x : Item} {xs : List Item} {r : Refusal} → AnyIsRefused s xs r → AnyIsRefused s (x ∷ xs) r

-- an answer for an item is its definitions behind those that there are, or its refusal
pub record IsAdded (s : Scope) (paths : List (List ℕ)) (x : Item) (before after : List definitions.Fixpoint) (r : Result (Unit {0}) RuleFault) : Type 0 where
  pub answers : Answers (λ u. (ds : List definitions.Fixpoint) × (after ≡ before ++ ds) × ItemDefines s paths x ds) (ItemIsRefused s x) r

-- an answer for the items of a unit is their definitions, or a refusal
pub record AreDefined (s : Scope) (paths : List (List ℕ)) (xs : List Item) (r : Result (List definitions.Fixpoint) RuleFault) : Type 0 where
  pub answers : Answers (HaveDefinitions s paths xs) (AnyIsRefused s xs) r
