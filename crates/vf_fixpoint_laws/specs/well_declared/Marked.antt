-- A unit that is accepted, in which two things share an identity, since a `#` stands in one of their names.
use Rattle.std.specs.Prelude.{ℕ, false, List, [], ◌∷◌, codes, Ok}
use Rattle.vf_base.specs.declared.place.Place.{Place}
use Rattle.vf_declared.specs.declared.scope.Scope.{Scope}
use Rattle.vf_syntax.specs.declared.item.GhostForm.TheVariants as forms
use Rattle.vf_syntax.specs.declared.item.Item.{Item}
use Rattle.vf_syntax.specs.declared.item.Item.TheVariants as items
use Rattle.vf_syntax.specs.declared.written.Name.{Name}
use Rattle.vf_syntax.specs.SortTree as sorts
use Rattle.vf_resolve.specs.declared.files.Files.{Files}
use Rattle.vf_resolve.specs.Beginning.{beginning}
use Rattle.vf_resolve.specs.Units.{ItemsCome}
use Rattle.vf_fixpoint_laws.specs.bodies.Bodies.{IsWellDeclared, declared_at}

-- the first place of a file
abbrev pub first_of : ℕ → Place
first_of file = record { file = file; line = 1; column = 1 }

-- a name there
abbrev pub name_in : ℕ → List ℕ → Name
name_in file text = record { text = text; place = first_of file }

-- a file that includes another
abbrev pub two_files : Files
two_files = record { own = 0; headers = (0 ∷ 1 ∷ []) ∷ (1 ∷ []) ∷ []; preludes = []; has_stdlib = false; has_arrays = false }

-- their paths, in the second of which stands a `#`
abbrev pub two_paths : List (List ℕ)
two_paths = codes "a" ∷ codes "a#b" ∷ []

-- `predicate c();` in the second file
abbrev pub in_header : Item
in_header = items.Ghost (record { place = first_of 1; form = forms.Predicate (name_in 1 (codes "c")) [] })

-- `predicate b#c(any x);` in the first
abbrev pub in_own : Item
in_own = items.Ghost (record { place = first_of 0; form = forms.Predicate (name_in 0 (codes "b#c")) ((record { after_semicolon = false; sort = sorts.any_ (first_of 0); name = name_in 0 (codes "x") }) ∷ []) })

abbrev pub marked_unit : List Item
marked_unit = in_header ∷ in_own ∷ []

-- the unit is accepted, and what it declares is not well declared
pub record MarkedNamesShareIdentities : Type 0 where
  pub whole : Scope
  pub accepted : ItemsCome marked_unit (beginning two_files marked_unit) (Ok whole)
  pub shared : IsWellDeclared (declared_at whole two_paths) → ⊥
