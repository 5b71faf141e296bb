-- Which names are those of predicates that stand anywhere in a unit, as a header sees them.
use Rattle.std.specs.Prelude.{◌≡◌, ℕ, Bool, true, List, Ok}
use Rattle.vf_declared.specs.declared.scope.Scope.{Scope}
use Rattle.vf_declared.specs.Scopes.{at_name, is_declared, is_later_predicate, stands_in}
use Rattle.vf_syntax.specs.declared.item.Item.{Item}
use Rattle.vf_datatypes.specs.declared.stated.Stated.{Stated}
use Rattle.vf_gathering.specs.Named.{predicates_in}
use Rattle.vf_gathering.specs.Standing.{Tells}
use Rattle.vf_annotations.specs.Forms.{meanings}
use Rattle.vf_walk.specs.Items.{WalksItems}
use Rattle.vf_header_laws.specs.c_names.Items.{IsBetweenItems}
use Rattle.vf_header_laws.specs.c_names.Parts.{is_part_of}
use Rattle.vf_header_laws.specs.c_names.Units.{IsHeaderOfBoth}
use Rattle.vf_header_laws.specs.ghost_names.Units.{HaveTheSameGhosts}

-- a predicate of this name stands anywhere in the unit, in a file that is seen from another
abbrev pub stands_anywhere : Scope → List ℕ → ℕ → Bool
stands_anywhere s name from = stands_in s from (at_name s.predicates s.predicate_files name)

-- from each file of a header the same names are those of predicates that stand anywhere in the two units
pub record ForeseeTheSame (header : ℕ) (s t : Scope) : Type 0 where
  pub predicates : (file : ℕ) (name : List ℕ) → is_part_of s header file ≡ true → stands_anywhere s name file ≡ stands_anywhere t name file

-- of the predicates that stand in some items it is known in which files they stand
abbrev pub KnowsPredicates : List Item → Scope → Type 0
KnowsPredicates xs s = Tells (predicates_in xs) (record { names = s.predicates; files = s.predicate_files })

-- where the same items of annotations stand in a header of two units, among any others that stand elsewhere, and of the predicates of both it is known where they stand, a header foresees the same predicates in both
abbrev pub PredicatesAreForeseen : Type 0
PredicatesAreForeseen = (header : ℕ) (xs ys : List Item) (s t : Scope) → IsHeaderOfBoth header s t → KnowsPredicates xs s → KnowsPredicates ys t → HaveTheSameGhosts (is_part_of s header) xs ys → ForeseeTheSame header s t

-- and so it does behind any items that are accepted
abbrev pub PredicatesStayForeseen : Type 0
PredicatesStayForeseen = (header : ℕ) (d e : Stated) (xs ys : List Item) (s t u v : Scope) → IsBetweenItems s → IsBetweenItems t → WalksItems (meanings d) xs s (Ok u) → WalksItems (meanings e) ys t (Ok v) → ForeseeTheSame header s t → ForeseeTheSame header u v

-- where a header foresees the same predicates in two units, a name that is declared so far in both, or in neither, in whichever files, is that of a predicate that stands later in both or in neither
abbrev pub LaterPredicatesAgree : Type 0
LaterPredicatesAgree = (header : ℕ) (s t : Scope) (file : ℕ) (name : List ℕ) → ForeseeTheSame header s t → is_part_of s header file ≡ true → is_declared s name ≡ is_declared t name → is_later_predicate s name file ≡ is_later_predicate t name file
