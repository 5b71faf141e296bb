-- A header means the same to C text in every unit, whatever annotations stand in the units.
use Rattle.std.specs.Prelude.{ℕ, Bool, List, Ok}
use Rattle.vf_declared.specs.declared.scope.Scope.{Scope}
use Rattle.vf_syntax.specs.declared.item.Item.{Item}
use Rattle.vf_resolve.specs.declared.files.Files.{Files}
use Rattle.vf_resolve.specs.Beginning.{beginning}
use Rattle.vf_resolve.specs.Units.{ItemsCome}
use Rattle.vf_erasure_laws.specs.seen.Seen.{seen}
use Rattle.vf_erasure_laws.specs.plain.Stripped.{stripped_items}
use Rattle.vf_header_laws.specs.c_names.Items.{HaveTheSameInside}
use Rattle.vf_header_laws.specs.c_names.Parts.{is_part_of}
use Rattle.vf_header_laws.specs.c_names.Same.{ShowTheSame}
use Rattle.vf_header_laws.specs.c_names.Units.{IsHeaderOfBoth}

-- where two units are accepted, and the same items stand in a header of both but for their annotations, the header shows the same in both of what C text sees
abbrev pub AnnotatedUnitsShowTheSame : Type 0
AnnotatedUnitsShowTheSame = (header : ℕ) (f g : Files) (xs ys : List Item) (u v : Scope) → IsHeaderOfBoth header (beginning f xs) (beginning g ys) → HaveTheSameInside (is_part_of (beginning f xs) header) (stripped_items xs) (stripped_items ys) → ItemsCome xs (beginning f xs) (Ok u) → ItemsCome ys (beginning g ys) (Ok v) → ShowTheSame header (seen u) (seen v)

-- where the same items stand in a header, the same of them are left without annotations
abbrev pub StrippedItemsAreTheSame : Type 0
StrippedItemsAreTheSame = (part : ℕ → Bool) (xs ys : List Item) → HaveTheSameInside part xs ys → HaveTheSameInside part (stripped_items xs) (stripped_items ys)
