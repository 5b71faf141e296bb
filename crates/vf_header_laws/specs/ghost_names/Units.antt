-- A header shows the same names of annotations in two units in which the same items of annotations stand in it.
use Rattle.std.specs.Prelude.{ℕ, Bool, List, [], ◌∷◌, Ok}
use Rattle.vf_declared.specs.declared.scope.Scope.{Scope}
use Rattle.vf_syntax.specs.declared.item.GhostItem.{GhostItem}
use Rattle.vf_syntax.specs.declared.item.Item.{Item}
use Rattle.vf_syntax.specs.declared.item.Item.TheVariants as items
use Rattle.vf_datatypes.specs.declared.stated.Stated.{Stated}
use Rattle.vf_annotations.specs.Forms.{meanings}
use Rattle.vf_walk.specs.Items.{WalksItems}
use Rattle.vf_header_laws.specs.c_names.Items.{IsBetweenItems}
use Rattle.vf_header_laws.specs.c_names.Parts.{is_part_of}
use Rattle.vf_header_laws.specs.c_names.Same.{ConsistsOfHeaders}
use Rattle.vf_header_laws.specs.c_names.Units.{IsBeginning, IsHeaderOfBoth}
use Rattle.vf_header_laws.specs.ghost_names.Same.{ShowTheSameGhosts}
use Rattle.vf_header_laws.specs.ghost_names.Items.{IsDeclaredOutside, IsFormInside}

-- of two lists of items the same items of annotations, in the same order, stand in files of which a header consists, and all others declare names of annotations elsewhere alone, as items of C do
pub data HaveTheSameGhosts (part : ℕ → Bool) : List Item → List Item → Type 0 where
  none : HaveTheSameGhosts part [] []
  inside : {x : GhostItem} {xs ys : List Item} → IsFormInside part x.form → HaveTheSameGhosts part xs ys → HaveTheSameGhosts part (items.Ghost x ∷ xs) (items.Ghost x ∷ ys)
  outside_first : {x : Item} {xs ys : List Item} → IsDeclaredOutside part x → HaveTheSameGhosts part xs ys → HaveTheSameGhosts part (x ∷ xs) ys
  outside_second : {y : Item} {xs ys : List Item} → IsDeclaredOutside part y → HaveTheSameGhosts part xs ys → HaveTheSameGhosts part xs (y ∷ ys)

-- names of annotations mean the same in a header in every unit: where it shows the same of them in two units, and the same items of annotations stand in it behind that, it shows the same behind all items of both
abbrev pub HeadersMeanTheSameGhosts : Type 0
HeadersMeanTheSameGhosts = (header : ℕ) (d e : Stated) (xs ys : List Item) (s t u v : Scope) → ConsistsOfHeaders s header → ConsistsOfHeaders t header → IsBetweenItems s → IsBetweenItems t → HaveTheSameGhosts (is_part_of s header) xs ys → WalksItems (meanings d) xs s (Ok u) → WalksItems (meanings e) ys t (Ok v) → ShowTheSameGhosts header s t → ShowTheSameGhosts header u v

-- where the same items of annotations stand in a header of two units, among any others that stand elsewhere, the header shows the same names of annotations behind all items of both
abbrev pub UnitsShowTheSameGhosts : Type 0
UnitsShowTheSameGhosts = (header : ℕ) (d e : Stated) (xs ys : List Item) (s t u v : Scope) → IsBeginning s → IsBeginning t → IsHeaderOfBoth header s t → HaveTheSameGhosts (is_part_of s header) xs ys → WalksItems (meanings d) xs s (Ok u) → WalksItems (meanings e) ys t (Ok v) → ShowTheSameGhosts header u v
