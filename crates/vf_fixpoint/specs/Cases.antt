-- The cases of a fixpoint, and where its equations are refused.
use Rattle.std.specs.Prelude.{ℕ, Bool, false, ◌&&◌, ◌||◌, not, if◌then◌else◌, List, [], ◌∷◌, ◌++◌, map, Option, Some, None, is_some}
use Rattle.std.specs.List.{list_all}
use Rattle.std.specs.Option.{option_or}
use Rattle.vf_base.specs.declared.place.Place.{Place}
use Rattle.vf_names.specs.Names.{number_of}
use Rattle.vf_syntax.specs.declared.written.Name.{Name}
use Rattle.vf_syntax.specs.declared.item.FixpointBody.{FixpointBody}
use Rattle.vf_syntax.specs.declared.item.FixpointBody.TheVariants as bodies
use Rattle.vf_syntax.specs.declared.item.FixpointCase.{FixpointCase}
use Rattle.vf_syntax.specs.declared.item.GhostParameter.{GhostParameter}
use Rattle.vf_fixpoint.specs.Calls.{first_stray}

-- the constructors of cases, by their names
abbrev pub constructors_of : List FixpointCase → List (List ℕ)
constructors_of cases = map (λ (c : FixpointCase). c.pattern.constructor.text) cases

-- one of some names stands among these, or a second time
abbrev pub is_doubled : List (List ℕ) → List (List ℕ) → Bool
is_doubled seen [] = false
is_doubled seen (x ∷ xs) = is_some (number_of seen x) || is_doubled (seen ++ x ∷ []) xs

-- each of some constructors has a case
abbrev pub are_covered : List (List ℕ) → List (List ℕ) → Bool
are_covered constructors cases = list_all (λ k. is_some (number_of cases k)) constructors

-- no case is missing, and none is doubled
abbrev pub is_complete : List (List ℕ) → List (List ℕ) → Bool
is_complete constructors cases = not (is_doubled [] cases) && are_covered constructors cases

-- the names that a case gives to the components
abbrev pub components_of : Option (List Name) → List Name
components_of (Some names) = names
components_of None = []

-- the first call in a case that does not pass a component of the case
abbrev pub stray_in_case : List ℕ → Option ℕ → FixpointCase → Option Place
stray_in_case name parameter c = first_stray (record { name = name; parameter = parameter; components = components_of c.pattern.names }) c.value

-- the first call in some cases that does not pass a component of its case
abbrev pub first_stray_case : List ℕ → Option ℕ → List FixpointCase → Option Place
first_stray_case name parameter [] = None
first_stray_case name parameter (c ∷ cases) = option_or (stray_in_case name parameter c) (first_stray_case name parameter cases)

-- which of some parameters has a name
abbrev pub parameter_of : List GhostParameter → List ℕ → Option ℕ
parameter_of parameters x = number_of (map (λ (p : GhostParameter). p.name.text) parameters) x

-- where a fixpoint is refused: at its name where a case is missing or doubled, else at its first call that does not pass a component; without a switch nothing is a component
abbrev pub refused_at : Name → List GhostParameter → List (List ℕ) → FixpointBody → Option Place
refused_at name parameters constructors (bodies.Value e) = first_stray (record { name = name.text; parameter = None; components = [] }) e
refused_at name parameters constructors (bodies.Switch x cases) =
    if is_complete constructors (constructors_of cases) then first_stray_case name.text (parameter_of parameters x.text) cases else Some name.place
