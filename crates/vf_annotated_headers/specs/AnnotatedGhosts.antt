-- Names of annotations mean the same in a header of every unit that is accepted.
use Rattle.std.specs.Prelude.{ℕ, List, Ok}
use Rattle.vf_declared.specs.declared.scope.Scope.{Scope}
use Rattle.vf_syntax.specs.declared.item.Item.{Item}
use Rattle.vf_resolve.specs.declared.files.Files.{Files}
use Rattle.vf_resolve.specs.Beginning.{beginning}
use Rattle.vf_resolve.specs.Units.{ItemsCome}
use Rattle.vf_header_laws.specs.c_names.Parts.{is_part_of}
use Rattle.vf_header_laws.specs.c_names.Units.{IsHeaderOfBoth}
use Rattle.vf_header_laws.specs.ghost_names.Later.{ForeseeTheSame}
use Rattle.vf_header_laws.specs.ghost_names.LaterSorts.{AreDeclaredAsTold, ForeseeTheSameSorts}
use Rattle.vf_header_laws.specs.ghost_names.Same.{ShowTheSameGhosts}
use Rattle.vf_header_laws.specs.ghost_names.Units.{HaveTheSameGhosts}

-- where two units are accepted, and the same items of annotations stand in a header of both, the header shows the same names of annotations in both
abbrev pub AnnotatedUnitsShowTheSameGhosts : Type 0
AnnotatedUnitsShowTheSameGhosts = (header : ℕ) (f g : Files) (xs ys : List Item) (u v : Scope) → IsHeaderOfBoth header (beginning f xs) (beginning g ys) → HaveTheSameGhosts (is_part_of (beginning f xs) header) xs ys → ItemsCome xs (beginning f xs) (Ok u) → ItemsCome ys (beginning g ys) (Ok v) → ShowTheSameGhosts header u v

-- where the same items of annotations stand in a header of two units, the header foresees the same predicates in front of the items of both
abbrev pub AnnotatedUnitsForeseeTheSame : Type 0
AnnotatedUnitsForeseeTheSame = (header : ℕ) (f g : Files) (xs ys : List Item) → IsHeaderOfBoth header (beginning f xs) (beginning g ys) → HaveTheSameGhosts (is_part_of (beginning f xs) header) xs ys → ForeseeTheSame header (beginning f xs) (beginning g ys)

-- each predicate of a unit that is accepted is declared over the sorts that are told of it in front of the items
abbrev pub AcceptedUnitsDeclareAsTold : Type 0
AcceptedUnitsDeclareAsTold = (f : Files) (xs : List Item) (u : Scope) → ItemsCome xs (beginning f xs) (Ok u) → AreDeclaredAsTold (beginning f xs) u

-- where two units are accepted, and the same items of annotations stand in a header of both, the header foresees predicates over the same sorts in front of the items of both
abbrev pub AnnotatedUnitsForeseeTheSameSorts : Type 0
AnnotatedUnitsForeseeTheSameSorts = (header : ℕ) (f g : Files) (xs ys : List Item) (u v : Scope) → IsHeaderOfBoth header (beginning f xs) (beginning g ys) → HaveTheSameGhosts (is_part_of (beginning f xs) header) xs ys → ItemsCome xs (beginning f xs) (Ok u) → ItemsCome ys (beginning g ys) (Ok v) → ForeseeTheSameSorts header (beginning f xs) (beginning g ys) u v
