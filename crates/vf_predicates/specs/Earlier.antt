-- What stands for a predicate already where it is declared once more.
use Rattle.std.specs.Prelude.{◌≡◌, ℕ, Bool, false, not, ◌&&◌, ◌||◌, if◌then◌else◌, List, [], ◌∷◌, is_some, Option, Some, None}
use Rattle.vf_base.specs.declared.refusal.Refusal.{Refusal}
use Rattle.vf_base.specs.declared.rule.Rule.TheVariants as rules
use Rattle.vf_names.specs.Names.{number_of}
use Rattle.vf_sorts.specs.Sorts.{Sort, row}
use Rattle.vf_sorts.specs.Told.{untold_all}
use Rattle.vf_declared.specs.declared.declaration.Declaration.{Declaration}
use Rattle.vf_declared.specs.declared.declaration.GhostDeclaration.{GhostDeclaration}
use Rattle.vf_declared.specs.declared.declaration.GhostDeclaration.TheVariants as ghosts
use Rattle.vf_declared.specs.declared.declaration.GhostSides.{GhostSides}
use Rattle.vf_declared.specs.declared.scope.Scope.{Scope}
use Rattle.vf_declared.specs.Scopes.{at_name, declaration_of, ghost_of, has, sides_of_ghost}
use Rattle.vf_declared.specs.Writing.{with_name_again}
use Rattle.vf_syntax.specs.declared.written.Name.{Name}
use Rattle.vf_sorting.specs.Refusals.{refused}
use Rattle.vf_asserting.specs.Cases.{ghost_number}

-- the sorts of the arguments of what is a predicate
abbrev pub predicate_sorts : Option GhostDeclaration → Option (List Sort)
predicate_sorts (Some (ghosts.Predicate ts)) = Some ts
predicate_sorts d = None

-- a number of what annotations declare, where it is a predicate
abbrev pub if_predicate : Scope → Option ℕ → Option ℕ
if_predicate s None = None
if_predicate s (Some k) = if is_some (predicate_sorts (ghost_of s k)) then Some k else None

-- the predicate that a name means already where it stands, by its number
abbrev pub earlier : Scope → Name → Option ℕ
earlier s n = if_predicate s (ghost_number (declaration_of s n.text n.place.file))

-- some sorts, or none
abbrev pub or_none : Option (List Sort) → List Sort
or_none None = []
or_none (Some ts) = ts

-- the sorts of the arguments of the predicate with a number
abbrev pub sorts_of : Scope → ℕ → List Sort
sorts_of s k = or_none (predicate_sorts (ghost_of s k))

-- what is declared has a body already, or is declared without one already, as it is declared once more with a body or without one
abbrev pub is_doubled : Bool → Option GhostSides → Bool
is_doubled b None = false
is_doubled b (Some x) = if b then x.is_defined else is_some x.prototype

-- the first of some files is one of others
abbrev pub first_is_among : List ℕ → List ℕ → Bool
first_is_among fs [] = false
first_is_among fs (f ∷ more) = has fs f

-- a declaration stands first in a prelude
abbrev pub is_of_prelude : Scope → Option Declaration → Bool
is_of_prelude s None = false
is_of_prelude s (Some d) = first_is_among s.preludes d.files

-- a name is a prelude's, and does not stand in a prelude here
abbrev pub is_foreign : Scope → Name → Bool
is_foreign s n = is_of_prelude s (at_name s.names s.declarations n.text) && not (has s.preludes n.place.file)

-- why the predicate with a number may not be declared once more, with a body or without one, if it may not: it is so declared already, or it is a prelude's and would get a body outside of the preludes
abbrev pub again_refusal : Bool → Scope → Name → ℕ → Option Refusal
again_refusal b s n k = if is_doubled b (sides_of_ghost s k) || (b && is_foreign s n) then Some (refused rules.Name n.place) else None

-- two lists of sorts are alike, place by place, up to what pointers tell
abbrev pub AreSame : List Sort → List Sort → Type 0
AreSame ts us = untold_all (row ts) ≡ untold_all (row us)

-- what is declared under a name stands in the name's file too
abbrev pub stands_too : Scope → Name → Option ℕ → Scope
stands_too s n None = s
stands_too s n (Some k) = with_name_again s k n.place.file

-- the same, where the name has a number
abbrev pub seen_too : Scope → Name → Scope
seen_too s n = stands_too s n (number_of s.names n.text)
