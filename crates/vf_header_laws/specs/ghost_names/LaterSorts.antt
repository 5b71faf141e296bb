-- Over which sorts a predicate is told of ahead of its declaration, as a header sees them.
use Rattle.std.specs.Prelude.{◌≡◌, ℕ, true, if◌then◌else◌, List, Option, Some, None, Ok, slice_get}
use Rattle.vf_names.specs.Names.{number_of}
use Rattle.vf_sorts.specs.Sorts.{Sort}
use Rattle.vf_declared.specs.declared.declaration.Declaration.{Declaration}
use Rattle.vf_declared.specs.declared.declaration.GhostDeclaration.TheVariants as ghosts
use Rattle.vf_declared.specs.declared.declaration.Meaning.TheVariants as meaning
use Rattle.vf_declared.specs.declared.scope.Scope.{Scope}
use Rattle.vf_declared.specs.Scopes.{at_name, ghost_of, is_declared, later_predicate}
use Rattle.vf_syntax.specs.declared.item.Item.{Item}
use Rattle.vf_datatypes.specs.declared.stated.Stated.{Stated}
use Rattle.vf_annotations.specs.Forms.{meanings}
use Rattle.vf_walk.specs.Items.{WalksItems}
use Rattle.vf_header_laws.specs.c_names.Items.{IsBetweenItems}
use Rattle.vf_header_laws.specs.c_names.Parts.{is_part_of}
use Rattle.vf_header_laws.specs.c_names.Same.{Both}
use Rattle.vf_header_laws.specs.c_names.Units.{IsBeginning, IsHeaderOfBoth}
use Rattle.vf_header_laws.specs.ghost_names.Later.{KnowsPredicates, stands_anywhere}
use Rattle.vf_header_laws.specs.ghost_names.Same.{AreOneSorts}
use Rattle.vf_header_laws.specs.ghost_names.Units.{HaveTheSameGhosts}

-- ---- what is told
-- the sorts that are told of a predicate that stands anywhere in the unit, in a file that is seen from another
abbrev pub told_of : Scope → List ℕ → ℕ → Option (List Sort)
told_of s name from = if stands_anywhere s name from then at_name s.predicates s.predicate_sorts name else None

-- a predicate is declared, in whichever files, over the sorts that are told of it by its place among the predicates of the unit
pub record IsDeclaredAsTold (s whole : Scope) (name : List ℕ) (k : ℕ) : Type 0 where
  pub sorts : List Sort
  pub told : slice_get s.predicate_sorts k ≡ Some sorts
  pub declaration : Declaration
  pub number : ℕ
  pub found : at_name whole.names whole.declarations name ≡ Some declaration
  pub means : declaration.meaning ≡ meaning.Ghost number
  pub is : ghost_of whole number ≡ Some (ghosts.Predicate sorts)

-- each predicate that is told of a unit is declared by the whole of it over the sorts that are told
abbrev pub AreDeclaredAsTold : Scope → Scope → Type 0
AreDeclaredAsTold s whole = (name : List ℕ) (k : ℕ) → number_of s.predicates name ≡ Some k → IsDeclaredAsTold s whole name k

-- ---- what a header foresees
-- from each file of a header the same predicates are told of in two units, over sorts that mean the same behind all their items
pub record ForeseeTheSameSorts (header : ℕ) (s t u v : Scope) : Type 0 where
  pub sorts : (file : ℕ) (name : List ℕ) → is_part_of s header file ≡ true → Both (AreOneSorts header u v) (told_of s name file) (told_of t name file)

-- where the same items of annotations stand in a header of two units, among any others that stand elsewhere, both are accepted, and their predicates are known and declared as they are told, a header foresees predicates over the same sorts in both
abbrev pub SortsAreForeseen : Type 0
SortsAreForeseen = (header : ℕ) (d e : Stated) (xs ys : List Item) (s t u v : Scope) → IsBeginning s → IsBeginning t → IsHeaderOfBoth header s t
    → KnowsPredicates xs s → KnowsPredicates ys t → AreDeclaredAsTold s u → AreDeclaredAsTold t v
    → HaveTheSameGhosts (is_part_of s header) xs ys → WalksItems (meanings d) xs s (Ok u) → WalksItems (meanings e) ys t (Ok v) → ForeseeTheSameSorts header s t u v

-- and so it does behind any items that are accepted
abbrev pub SortsStayForeseen : Type 0
SortsStayForeseen = (header : ℕ) (d e : Stated) (xs ys : List Item) (s t p q u v : Scope) → IsBetweenItems s → IsBetweenItems t → WalksItems (meanings d) xs s (Ok p) → WalksItems (meanings e) ys t (Ok q)
    → ForeseeTheSameSorts header s t u v → ForeseeTheSameSorts header p q u v

-- where a header foresees predicates over the same sorts in two units, a name that is declared so far in both, or in neither, in whichever files, is that of a predicate that stands later in both, over the same sorts, or in neither
abbrev pub LaterSortsAgree : Type 0
LaterSortsAgree = (header : ℕ) (s t u v : Scope) (file : ℕ) (name : List ℕ) → ForeseeTheSameSorts header s t u v → is_part_of s header file ≡ true → is_declared s name ≡ is_declared t name
    → Both (AreOneSorts header u v) (later_predicate s name file) (later_predicate t name file)
