-- What an accepted unit declares is well declared, and its fixpoints stand among its items.
use Rattle.std.specs.Prelude.{◌≡◌, ℕ, true, List, [], length, Ok}
use Rattle.vf_tree.specs.Core.{Identity}
use Rattle.vf_declared.specs.declared.declaration.GhostDeclaration.{GhostDeclaration}
use Rattle.vf_declared.specs.declared.scope.Scope.{Scope}
use Rattle.vf_syntax.specs.declared.item.Item.{Item}
use Rattle.vf_syntax.specs.declared.written.Name.{Name}
use Rattle.vf_sorting.specs.declared.scheme.Scheme.{Scheme}
use Rattle.vf_sorts.specs.Sorts.{Sort}
use Rattle.vf_datatypes.specs.Inhabited.{HasValue, names_below, StandInOrder}
use Rattle.vf_resolve.specs.declared.files.Files.{Files}
use Rattle.vf_resolve.specs.Beginning.{beginning}
use Rattle.vf_resolve.specs.Units.{ItemsCome}
use Rattle.vf_defining.specs.UpTo.{up_to}
use Rattle.vf_fixpoint_laws.specs.values.Declares.{BuildsPredicates, BuildsTerms, Declares}
use Rattle.vf_fixpoint_laws.specs.bodies.Bodies.{IsWellDeclared, declared_at}
use Rattle.vf_fixpoint_laws.specs.bodies.Units.{EachIsCovered, EachIsWritten}
use Rattle.vf_fixpoint_laws.specs.well_declared.Names.{AreUnmarked}

-- what an accepted unit declares is well declared, whatever the paths of its files, as long as no `#` stands in its names
abbrev pub AcceptedUnitsAreWellDeclared : Type 0
AcceptedUnitsAreWellDeclared = (f : Files) (xs : List Item) (s : Scope) (paths : List (List ℕ)) → ItemsCome xs (beginning f xs) (Ok s) → AreUnmarked xs → IsWellDeclared (declared_at s paths)

-- each fixpoint that an accepted unit declares stands among its items
abbrev pub AcceptedFixpointsAreWritten : Type 0
AcceptedFixpointsAreWritten = (f : Files) (xs : List Item) (s : Scope) (paths : List (List ℕ)) → ItemsCome xs (beginning f xs) (Ok s) → EachIsWritten s paths xs

-- what is declared up to a name is declared by the whole unit, whether this is accepted or not
abbrev pub DeclarationsGoOn : Type 0
DeclarationsGoOn = (s : Scope) (paths : List (List ℕ)) (n : Name) (c : Identity) (g : GhostDeclaration) → Declares (declared_at (up_to n s) paths) c g → Declares (declared_at s paths) c g

-- so terms that may be built where the names up to one count may be built by the whole unit
abbrev pub TermsGoOn : Type 0
TermsGoOn = (s : Scope) (paths : List (List ℕ)) (n : Name) (c : Identity) (x : Scheme) → BuildsTerms (declared_at (up_to n s) paths) c x → BuildsTerms (declared_at s paths) c x

-- what may be built as a predicate where the names up to one count may be built as it by all that an accepted unit declares: a predicate that stands later is declared over the sorts that were told of it
abbrev pub PredicatesAreDeclaredAsTold : Type 0
PredicatesAreDeclaredAsTold = (f : Files) (xs : List Item) (s : Scope) (paths : List (List ℕ)) → ItemsCome xs (beginning f xs) (Ok s)
    → (n : Name) (c : Identity) (x : Scheme) → BuildsPredicates (declared_at (up_to n s) paths) c x → BuildsPredicates (declared_at s paths) c x

-- so all that an accepted unit declares covers what is declared up to each of its fixpoints
abbrev pub AcceptedUnitsAreCovered : Type 0
AcceptedUnitsAreCovered = (f : Files) (xs : List Item) (s : Scope) (paths : List (List ℕ)) → ItemsCome xs (beginning f xs) (Ok s) → EachIsCovered s paths xs

-- the datatypes of an accepted unit stand in order, so each sort over them has a value
abbrev pub AcceptedSortsHaveValues : Type 0
AcceptedSortsHaveValues = (f : Files) (xs : List Item) (s : Scope) → ItemsCome xs (beginning f xs) (Ok s) → StandInOrder s × ((t : Sort) → names_below (length s.datatypes) t ≡ true → HasValue s [] t)
