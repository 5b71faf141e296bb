-- Units with annotations.
use Rattle.std.proofs.Common.{ℕ, List, [], ◌∷◌, refl}
use Rattle.vf_syntax.specs.declared.item.Item.{Item}
use Rattle.vf_syntax.specs.declared.item.Item.TheVariants as items
use Rattle.vf_resolve.specs.declared.files.Files.{Files}
use Rattle.vf_resolve.specs.Beginning.{beginning}
use Rattle.vf_erasure_laws.specs.seen.Seen.{seen}
use Rattle.vf_erasure_laws.specs.plain.Stripped.{stripped_items}
use Rattle.vf_erasure_laws.proofs.erased.WalkingUnits.{units_are_seen}
use Rattle.vf_header_laws.specs.c_names.Items.{HaveTheSameInside, inside, IsInside, IsOutside, none, outside_first, outside_second}
use Rattle.vf_header_laws.specs.c_names.Same.{ConsistsOfHeaders}
use Rattle.vf_header_laws.specs.c_names.Units.{IsBeginning}
use Rattle.vf_header_laws.proofs.c_names.Units.{units_show_the_same}
use Rattle.vf_annotated_headers.specs.AnnotatedUnits.{AnnotatedUnitsShowTheSame, StrippedItemsAreTheSame}

-- ---- items without annotations stand where they stood
pub stripped_items_are_the_same : StrippedItemsAreTheSame
stripped_items_are_the_same part [] [] none = none
stripped_items_are_the_same part (x ∷ xs) (y ∷ ys) (inside w h) = by_item x w (stripped_items_are_the_same part xs ys h)
  where
    by_item : (x : Item) → IsInside part x → HaveTheSameInside part (stripped_items xs) (stripped_items ys) → HaveTheSameInside part (stripped_items (x ∷ xs)) (stripped_items (x ∷ ys))
    by_item (items.Opaque p n) w h = inside w h
    by_item (items.Struct p n fs) w h = inside w h
    by_item (items.FunctionType p g c) w h = inside w h
    by_item (items.Prototype g k c) w h = inside w h
    by_item (items.Function g k c b) w h = inside w h
    by_item (items.Ghost g) w h = h
stripped_items_are_the_same part (x ∷ xs) ys (outside_first w h) = by_item x w (stripped_items_are_the_same part xs ys h)
  where
    by_item : (x : Item) → IsOutside part x → HaveTheSameInside part (stripped_items xs) (stripped_items ys) → HaveTheSameInside part (stripped_items (x ∷ xs)) (stripped_items ys)
    by_item (items.Opaque p n) w h = outside_first w h
    by_item (items.Struct p n fs) w h = outside_first w h
    by_item (items.FunctionType p g c) w h = outside_first w h
    by_item (items.Prototype g k c) w h = outside_first w h
    by_item (items.Function g k c b) w h = outside_first w h
    by_item (items.Ghost g) w h = h
stripped_items_are_the_same part xs (y ∷ ys) (outside_second w h) = by_item y w (stripped_items_are_the_same part xs ys h)
  where
    by_item : (y : Item) → IsOutside part y → HaveTheSameInside part (stripped_items xs) (stripped_items ys) → HaveTheSameInside part (stripped_items xs) (stripped_items (y ∷ ys))
    by_item (items.Opaque p n) w h = outside_second w h
    by_item (items.Struct p n fs) w h = outside_second w h
    by_item (items.FunctionType p g c) w h = outside_second w h
    by_item (items.Prototype g k c) w h = outside_second w h
    by_item (items.Function g k c b) w h = outside_second w h
    by_item (items.Ghost g) w h = h

-- ---- whole units
-- nothing is declared in front of the items of a unit
pub nothing_declared : (f : Files) (xs : List Item) → IsBeginning (beginning f xs)
nothing_declared f xs = record { names = refl; declarations = refl; tags = refl; structures = refl; locals = refl }

-- which files are headers does not hang on the items
consists_too : (header : ℕ) (f : Files) (xs ys : List Item) → ConsistsOfHeaders (beginning f xs) header → ConsistsOfHeaders (beginning f ys) header
consists_too header f xs ys c = record { headers = c.headers; within = c.within }

pub annotated_units_show_the_same : AnnotatedUnitsShowTheSame
annotated_units_show_the_same header f g xs ys u v h r e i = units_show_the_same header (stripped_items xs) (stripped_items ys) (beginning f (stripped_items xs)) (beginning g (stripped_items ys)) (seen u) (seen v)
    (nothing_declared f (stripped_items xs))
    (nothing_declared g (stripped_items ys))
    (record { files = h.files; first = consists_too header f xs (stripped_items xs) h.first; second = consists_too header g ys (stripped_items ys) h.second })
    r
    (units_are_seen f xs u e)
    (units_are_seen g ys v i)
