-- Ghost locals: their declaration, and their assignment.
use Rattle.std.specs.Prelude.{◌≡◌, ℕ, true, if◌then◌else◌, List, length, Option, Some, None, Result, Ok, Err}
use Rattle.vf_base.specs.declared.place.Place.{Place}
use Rattle.vf_base.specs.declared.refusal.Refusal.{Refusal}
use Rattle.vf_base.specs.declared.rule.Rule.TheVariants as rules
use Rattle.vf_sorts.specs.Sorts.{Sort}
use Rattle.vf_sorts.specs.Unknowns.{IsBelow, Known}
use Rattle.vf_declared.specs.declared.locals.Local.{Local}
use Rattle.vf_declared.specs.declared.locals.Local.TheVariants as locals
use Rattle.vf_declared.specs.declared.scope.Scope.{Scope}
use Rattle.vf_declared.specs.Changes.{with_local}
use Rattle.vf_declared.specs.Scopes.{local_of}
use Rattle.vf_syntax.specs.declared.written.Name.{Name}
use Rattle.vf_syntax.specs.GhostExprTree.{GhostExprTree}
use Rattle.vf_syntax.specs.SortTree.{SortTree}
use Rattle.vf_sorting.specs.HasSort.{Passes}
use Rattle.vf_sorting.specs.IsRefused.{Fails}
use Rattle.vf_sorting.specs.Operators.{place_of}
use Rattle.vf_sorting.specs.Refusals.{refused}
use Rattle.vf_sorting.specs.Spelling.{written_sort}
use Rattle.vf_binding.specs.Bound.{name_refusal, no_names}
use Rattle.vf_commands.specs.declared.around.Around.{Around}

-- a scope with one more ghost local, of a sort
abbrev pub with_ghost : Scope → List ℕ → Sort → Scope
with_ghost s x t = record s { locals = with_local s.locals x (locals.Ghost (record { is_variable = true; sort = t })) }

-- a declaration may stand: its sort, its name, which is not visible in its value, and its value
pub data Declares (s : Scope) (w : Around) : Known → SortTree → Name → GhostExprTree → Sort → Known → Type 0 where
  declares : {k k' : Known} {u : SortTree} {n : Name} {e : GhostExprTree} {t : Sort} → written_sort s w.parameters u ≡ Ok t → name_refusal s no_names n ≡ None → Passes s w.context k t (place_of e) e k' → Declares s w k u n e t k'

-- a declaration is refused
pub data DeclarationFails (s : Scope) (w : Around) : Known → SortTree → Name → GhostExprTree → Refusal → Type 0 where
  its_sort : {k : Known} {u : SortTree} {n : Name} {e : GhostExprTree} {r : Refusal} → written_sort s w.parameters u ≡ Err r → DeclarationFails s w k u n e r
  its_name : {k : Known} {u : SortTree} {n : Name} {e : GhostExprTree} {t : Sort} {r : Refusal} → written_sort s w.parameters u ≡ Ok t → name_refusal s no_names n ≡ Some r → DeclarationFails s w k u n e r
  its_value : {k : Known} {u : SortTree} {n : Name} {e : GhostExprTree} {t : Sort} {r : Refusal} → written_sort s w.parameters u ≡ Ok t → name_refusal s no_names n ≡ None → Fails s w.context k t (place_of e) e r → DeclarationFails s w k u n e r

-- the sort of what a name at a place means, where it may be assigned: a ghost local; not one of C, and no parameter or name of a pattern or case
abbrev pub assigned_in : Place → Option Local → Result Sort Refusal
assigned_in p None = Err (refused rules.Name p)
assigned_in p (Some (locals.Real t)) = Err (refused rules.GhostInReal p)
assigned_in p (Some (locals.Ghost g)) = if g.is_variable then Ok g.sort else Err (refused rules.Typing p)

-- the same of a name
abbrev pub assigned_sort : Scope → Place → List ℕ → Result Sort Refusal
assigned_sort s p x = assigned_in p (local_of s x)

-- an assignment may stand: the value passes for the sort of the ghost local
pub data Assigns (s : Scope) (w : Around) : Known → Place → List ℕ → GhostExprTree → Known → Type 0 where
  assigns : {k k' : Known} {p : Place} {x : List ℕ} {e : GhostExprTree} {t : Sort} → assigned_sort s p x ≡ Ok t → IsBelow (length k) t → Passes s w.context k t (place_of e) e k' → Assigns s w k p x e k'

-- an assignment is refused
pub data AssignmentFails (s : Scope) (w : Around) : Known → Place → List ℕ → GhostExprTree → Refusal → Type 0 where
  its_target : {k : Known} {p : Place} {x : List ℕ} {e : GhostExprTree} {r : Refusal} → assigned_sort s p x ≡ Err r → AssignmentFails s w k p x e r
  stray : {k : Known} {p : Place} {x : List ℕ} {e : GhostExprTree} {t : Sort} → assigned_sort s p x ≡ Ok t → (IsBelow (length k) t → ⊥) → AssignmentFails s w k p x e (refused rules.Typing p)
  its_value : {k : Known} {p : Place} {x : List ℕ} {e : GhostExprTree} {t : Sort} {r : Refusal} → assigned_sort s p x ≡ Ok t → IsBelow (length k) t → Fails s w.context k t (place_of e) e r → AssignmentFails s w k p x e r
