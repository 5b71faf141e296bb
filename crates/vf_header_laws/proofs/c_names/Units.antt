-- A header shows the same behind the items of two units.
use Rattle.std.proofs.Common.{◌≡◌, ℕ, Bool, true, List, [], ◌∷◌, length, None, Ok, refl, sym, ap, subst, ◌∙◌}
use Rattle.std.specs.List.{list_all}
use Rattle.std.proofs.lemmas.Bool.{and_parts}
use Rattle.vf_names.specs.Names.{number_of}
use Rattle.vf_declared.specs.declared.scope.Scope.{Scope}
use Rattle.vf_declared.specs.Scopes.{at_name, declaration_of, declared_in, tag_of, visible_tag}
use Rattle.vf_syntax.specs.declared.item.Item.{Item}
use Rattle.vf_syntax.specs.declared.item.Item.TheVariants as items
use Rattle.vf_walk.specs.Items.{WalksItem, WalksItems}
use Rattle.vf_walk.specs.Meanings.{no_meanings}
use Rattle.vf_header_laws.specs.c_names.Parts.{is_part_of}
use Rattle.vf_header_laws.specs.c_names.Same.{ConsistsOfHeaders, neither, ShowTheSame}
use Rattle.vf_header_laws.specs.c_names.Units.{IsBeginning, IsHeaderOfBoth, UnitsShowTheSame}
use Rattle.vf_header_laws.specs.c_names.Items.{files_of_typed, HaveTheSameInside, HeadersMeanTheSame, inside, IsBetweenItems, IsInside, IsOutside, ItemsInsideShowTheSame, none, outside_first, outside_second}
use Rattle.vf_header_laws.proofs.c_names.Elsewhere.{as_before, consists_same, items_elsewhere_are_unseen, unit_of}
use Rattle.vf_header_laws.proofs.c_names.Files.{of_one, of_one_both, OfOneUnit, part_same}
use Rattle.vf_header_laws.proofs.c_names.Functions.{definition_declares, prototype_declares, type_declares}
use Rattle.vf_header_laws.proofs.c_names.Growing.{both_at, part_both, shows_as_before}
use Rattle.vf_header_laws.proofs.c_names.Inside.{functions_show, types_show, within_signature}
use Rattle.vf_header_laws.proofs.c_names.InsideStructs.{structs_show, wholes_show}
use Rattle.vf_header_laws.proofs.c_names.Steps.{ok_same, went}
use Rattle.vf_header_laws.proofs.c_names.Structs.{struct_declares, whole_declares}

pub items_inside_show_the_same : ItemsInsideShowTheSame
items_inside_show_the_same header (items.Opaque p n) s t u v c d a b w e i h =
    structs_show header n true c d h (and_parts (is_part_of s header n.place.file) true w).0 (struct_declares n true s a e.is) (struct_declares n true t b i.is)
items_inside_show_the_same header (items.Struct p n xs) s t u v c d a b w e i h =
    let k = and_parts (is_part_of s header n.place.file) (list_all (is_part_of s header) (files_of_typed xs)) w in
    wholes_show header n xs c d k.0 k.1 (whole_declares n xs s a e.is) (whole_declares n xs t b i.is) h
items_inside_show_the_same header (items.FunctionType p g k) s t u v c d a b w e i h =
    types_show header g c d a b h (within_signature s header g w) (type_declares g k s a e) (type_declares g k t b i)
items_inside_show_the_same header (items.Prototype g q k) s t u v c d a b w e i h =
    functions_show header g c d a b h (within_signature s header g w) (prototype_declares g k s a e) (prototype_declares g k t b i)
items_inside_show_the_same header (items.Function g q k x) s t u v c d a b w e i h =
    functions_show header g c d a b h (within_signature s header g w) (definition_declares g k x s a e) (definition_declares g k x t b i)
items_inside_show_the_same header (items.Ghost g) s t u v c d a b w e i h = subst (λ z. ShowTheSame header z v) (ok_same e.is) (subst (ShowTheSame header s) (ok_same i.is) h)

-- ---- what is declared between items
record Between (s t : Scope) : Type 0 where
  unit : OfOneUnit s t
  between : IsBetweenItems t

item_between : (x : Item) (s t : Scope) → IsBetweenItems s → WalksItem no_meanings x s (Ok t) → Between s t
item_between (items.Opaque p n) s t b h = let d = struct_declares n true s b h.is in record { unit = d.keeps.unit; between = d.between }
item_between (items.Struct p n xs) s t b h =
    let d = whole_declares n xs s b h.is in
    record { unit = of_one_both d.struct_first.keeps.unit d.then_fields.keeps.unit; between = d.then_fields.between }
item_between (items.FunctionType p g k) s t b h = let d = type_declares g k s b h in record { unit = d.name.unit; between = d.name.between }
item_between (items.Prototype g q k) s t b h = let d = prototype_declares g k s b h in record { unit = d.name.unit; between = d.name.between }
item_between (items.Function g q k x) s t b h = let d = definition_declares g k x s b h in record { unit = d.name.unit; between = d.name.between }
item_between (items.Ghost g) s t b h = record { unit = subst (OfOneUnit s) (ok_same h.is) (of_one s); between = subst IsBetweenItems (ok_same h.is) b }

-- ---- units

parts_same : {s t : Scope} (header : ℕ) → OfOneUnit s t → is_part_of s header ≡ is_part_of t header
parts_same header h = λ i x. sym (part_same header x h) i

units_show : (header : ℕ) (part : ℕ → Bool) (xs ys : List Item) (s t u v : Scope) → HaveTheSameInside part xs ys → part ≡ is_part_of s header → part ≡ is_part_of t header → ConsistsOfHeaders s header → ConsistsOfHeaders t header → IsBetweenItems s → IsBetweenItems t → WalksItems no_meanings xs s (Ok u) → WalksItems no_meanings ys t (Ok v) → ShowTheSame header s t → ShowTheSame header u v
units_show header part [] [] s t u v none p q c d a b e i h = subst (λ z. ShowTheSame header z v) (ok_same e.is) (subst (ShowTheSame header s) (ok_same i.is) h)
units_show header part (x ∷ xs) (y ∷ ys) s t u v (inside w r) p q c d a b e i h =
    let k = went e in
    let j = went i in
    let first = item_between x s k.at a k.first in
    let second = item_between x t j.at b j.first in
    units_show header part xs ys k.at j.at u v r (p ∙ parts_same header first.unit) (q ∙ parts_same header second.unit) (consists_same first.unit c) (consists_same second.unit d) first.between second.between k.next j.next
    (items_inside_show_the_same header x s t k.at j.at c d a b (subst (λ f. IsInside f x) p w) k.first j.first h)
units_show header part (x ∷ xs) ys s t u v (outside_first w r) p q c d a b e i h =
    let k = went e in
    let first = items_elsewhere_are_unseen header x s k.at c a (subst (λ f. IsOutside f x) p w) k.first in
    units_show header part xs ys k.at t u v r (p ∙ parts_same header (unit_of first.0)) q (consists_same (unit_of first.0) c) d first.1 b k.next i
    (shows_as_before first.0 (as_before header t) h)
units_show header part xs (y ∷ ys) s t u v (outside_second w r) p q c d a b e i h =
    let j = went i in
    let second = items_elsewhere_are_unseen header y t j.at d b (subst (λ f. IsOutside f y) q w) j.first in
    units_show header part xs ys s j.at u v r p (q ∙ parts_same header (unit_of second.0)) c (consists_same (unit_of second.0) d) a second.1 e j.next
    (shows_as_before (as_before header s) second.0 h)

pub headers_mean_the_same : HeadersMeanTheSame
headers_mean_the_same header xs ys s t u v c d a b r e i h = units_show header (is_part_of s header) xs ys s t u v r refl (λ j x. part_both x h j) c d a b e i h

-- ---- beginnings
nothing_named : (s : Scope) (name : List ℕ) (from : ℕ) → IsBeginning s → declaration_of s name from ≡ None
nothing_named s name from b = ap (λ xs. declared_in s from (at_name xs s.declarations name)) b.names

nothing_tagged : (s : Scope) (tag : List ℕ) (from : ℕ) → IsBeginning s → tag_of s tag from ≡ None
nothing_tagged s tag from b = ap (λ xs. visible_tag s from (number_of xs tag)) b.tags

beginning_between : (s : Scope) → IsBeginning s → IsBetweenItems s
beginning_between s b = record {
  names = ap length b.names ∙ sym (ap length b.declarations);
  tags = ap length b.tags ∙ sym (ap length b.structures);
  cleared = b.locals;
}

beginnings_show : (header : ℕ) (s t : Scope) → IsBeginning s → IsBeginning t → IsHeaderOfBoth header s t → ShowTheSame header s t
beginnings_show header s t a b h = record {
  files = h.files;
  names = λ from name p. both_at (nothing_named s name from a) (nothing_named t name from b) neither;
  tags = λ from tag p. both_at (nothing_tagged s tag from a) (nothing_tagged t tag from b) neither;
}

pub units_show_the_same : UnitsShowTheSame
units_show_the_same header xs ys s t u v a b h r e i = headers_mean_the_same header xs ys s t u v h.first h.second (beginning_between s a) (beginning_between t b) r e i (beginnings_show header s t a b h)
