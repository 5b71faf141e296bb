-- Parameters of ghost text: each has a sort, and becomes a local that is visible behind it.
use Rattle.std.specs.Prelude.{ℕ, Bool, true, false, ◌||◌, if◌then◌else◌, List, [], ◌∷◌, ◌++◌, is_some, Option, Some, None, Result, Ok}
use Rattle.vf_base.specs.declared.refusal.Refusal.{Refusal}
use Rattle.vf_base.specs.declared.rule.Rule.TheVariants as rules
use Rattle.vf_names.specs.Names.{number_of}
use Rattle.vf_sorts.specs.Sorts.{Sort}
use Rattle.vf_declared.specs.declared.locals.Local.{Local}
use Rattle.vf_declared.specs.declared.locals.Local.TheVariants as locals
use Rattle.vf_declared.specs.declared.scope.Scope.{Scope}
use Rattle.vf_declared.specs.Changes.{with_local}
use Rattle.vf_declared.specs.Scopes.{local_of}
use Rattle.vf_syntax.specs.declared.item.GhostParameter.{GhostParameter}
use Rattle.vf_syntax.specs.declared.written.Name.{Name}
use Rattle.vf_sorting.specs.Refusals.{refused}
use Rattle.vf_sorting.specs.Spelling.{written_sort}
use Rattle.vf_datatypes.specs.NewNames.{names_c}
use Rattle.vf_datatypes.specs.Walking.{behind, unless}

-- a local is one of C
abbrev pub is_real : Option Local → Bool
is_real (Some (locals.Real t)) = true
is_real l = false

-- why ghost text may not give a local a name, if it may not: it is one of C, or another local's
abbrev pub local_refusal : Scope → Name → Option Refusal
local_refusal s n = if is_real (local_of s n.text) || names_c s n.text n.place.file then Some (refused rules.GhostInReal n.place) else (if is_some (number_of s.locals.names n.text) then Some (refused rules.Name n.place) else None)

-- what is declared behind some parameters, and their sorts in order
pub record Taken : Type 0 where
  pub scope : Scope
  pub sorts : List Sort

-- one more parameter of a sort, which is never assigned
abbrev pub with_parameter : Name → Sort → Taken → Taken
with_parameter n t k = record { scope = record k.scope { locals = with_local k.scope.locals n.text (locals.Ghost (record { is_variable = false; sort = t })) }; sorts = k.sorts ++ t ∷ [] }

-- a parameter that has a sort, unless its name is refused
abbrev pub named : Name → Taken → Sort → Result Taken Refusal
named n k t = unless (local_refusal k.scope n) (Ok (with_parameter n t k))

-- a parameter in the text of something with these type parameters: its sort, then its name
abbrev pub parameter_behind : List (List ℕ) → GhostParameter → Taken → Result Taken Refusal
parameter_behind ps g k = behind (named g.name k) (written_sort k.scope ps g.sort)

-- parameters one after the other
abbrev pub parameters_behind : List (List ℕ) → List GhostParameter → Taken → Result Taken Refusal
parameters_behind ps [] k = Ok k
parameters_behind ps (g ∷ gs) k = behind (parameters_behind ps gs) (parameter_behind ps g k)

-- no parameters so far
abbrev pub none_taken : Scope → Taken
none_taken s = record { scope = s; sorts = [] }
