-- Items that stand elsewhere are not seen from a header.
use Rattle.std.proofs.Common.{◌≡◌, ℕ, Bool, true, false, if◌then◌else◌, nat_eq, List, [], ◌∷◌, is_some, Option, Some, None, Ok, slice_get, refl, sym, ap, subst, ◌∙◌}
use Rattle.std.specs.List.{list_any}
use Rattle.std.specs.Option.{option_or}
use Rattle.std.proofs.lemmas.Bool.{or_parts}
use Rattle.vf_names.specs.Names.{number_of}
use Rattle.vf_declared.specs.declared.ctype.CType.{CType}
use Rattle.vf_declared.specs.declared.declaration.Fields.{Fields}
use Rattle.vf_declared.specs.declared.declaration.Meaning.{Meaning}
use Rattle.vf_declared.specs.declared.declaration.Meaning.TheVariants as meanings
use Rattle.vf_declared.specs.declared.scope.Scope.{Scope}
use Rattle.vf_declared.specs.Scopes.{at_name, field_in, sees}
use Rattle.vf_syntax.specs.declared.item.Item.TheVariants as items
use Rattle.vf_syntax.specs.declared.item.Typed.{Typed}
use Rattle.vf_syntax.specs.declared.written.Name.{Name}
use Rattle.vf_typing.specs.Names.{written_type}
use Rattle.vf_walk.specs.Items.{field_walked, fields_behind, with_field}
use Rattle.vf_header_laws.specs.c_names.Parts.{is_part_of}
use Rattle.vf_header_laws.specs.c_names.Same.{ConsistsOfHeaders}
use Rattle.vf_header_laws.specs.c_names.Items.{files_of_typed, IsBetweenItems, ItemsElsewhereAreUnseen, SeesAsBefore}
use Rattle.vf_header_laws.proofs.c_names.Effects.{also_field}
use Rattle.vf_header_laws.proofs.c_names.Files.{also_unseen, OfOneUnit, part_same, unseen}
use Rattle.vf_header_laws.proofs.c_names.Functions.{DeclaresName, definition_declares, prototype_declares, type_declares}
use Rattle.vf_header_laws.proofs.c_names.Steps.{ok_same, refused_where, through}
use Rattle.vf_header_laws.proofs.c_names.Structs.{DeclaresFields, DeclaresStruct, DeclaresWhole, struct_declares, whole_declares}

-- ---- one part behind another
pub unit_of : {header : ℕ} {s t : Scope} → SeesAsBefore header s t → OfOneUnit s t
unit_of h = record { file = h.file; headers = h.headers }

pub as_before : (header : ℕ) (s : Scope) → SeesAsBefore header s s
as_before header s = record {
  file = refl;
  headers = refl;
  names = λ from name p. refl;
  tags = λ from tag p. refl;
  fields = λ from n name p. refl;
  functions = λ n f e. e;
  function_types = λ n f e. e;
}

pub as_before_both : {header : ℕ} {s t u : Scope} → SeesAsBefore header s t → SeesAsBefore header t u → SeesAsBefore header s u
as_before_both {header} {s} {t} h k =
    let part : (from : ℕ) → is_part_of s header from ≡ true → is_part_of t header from ≡ true = λ from p. part_same header from (unit_of h) ∙ p in
    record {
      file = k.file ∙ h.file;
      headers = k.headers ∙ h.headers;
      names = λ from name p. k.names from name (part from p) ∙ h.names from name p;
      tags = λ from tag p. k.tags from tag (part from p) ∙ h.tags from tag p;
      fields = λ from n name p. k.fields from n name (part from p) ∙ h.fields from n name p;
      functions = λ n f e. k.functions n f (h.functions n f e);
      function_types = λ n f e. k.function_types n f (h.function_types n f e);
    }

-- a header consists of the same files
pub consists_same : {header : ℕ} {s t : Scope} → OfOneUnit s t → ConsistsOfHeaders s header → ConsistsOfHeaders t header
consists_same {header} h c = record {
  headers = λ file p. ap (nat_eq file) h.file ∙ c.headers file (sym (part_same header file h) ∙ p);
  within = λ file p inner q. part_same header inner h ∙ c.within file (sym (part_same header file h) ∙ p) inner (sym (part_same file inner h) ∙ q);
}

-- ---- what stands in another file
module _ (header : ℕ) (s : Scope) (c : ConsistsOfHeaders s header) where
  name_elsewhere : {t : Scope} (x : List ℕ) (m : Meaning) (file : ℕ) → is_part_of s header file ≡ false → DeclaresName x m file s t → SeesAsBefore header s t
  name_elsewhere x m file o d = record {
    file = d.unit.file;
    headers = d.unit.headers;
    names = λ from y p. d.names y from ∙ also_unseen s from file y x m _ (unseen s header from file c p o);
    tags = λ from y p. d.tags y from;
    fields = λ from n y p. d.fields n y from;
    functions = d.functions;
    function_types = d.function_types;
  }

  struct_elsewhere : {t : Scope} (n : Name) (opaque : Bool) → is_part_of s header n.place.file ≡ false → DeclaresStruct n opaque s t → SeesAsBefore header s t
  struct_elsewhere n opaque o d = record {
    file = d.keeps.unit.file;
    headers = d.keeps.unit.headers;
    names = λ from y p. d.keeps.names y from;
    tags = λ from y p. d.tags y from ∙ also_unseen s from n.place.file y n.text d.number _ (unseen s header from n.place.file c p o);
    fields = λ from k y p. d.fields k y from;
    functions = λ k f e. ap (λ fs. slice_get fs k) d.keeps.functions ∙ e;
    function_types = λ k f e. ap (λ fs. slice_get fs k) d.keeps.function_types ∙ e;
  }

  unseen_field : (from n k : ℕ) (fs : Fields) (y : List ℕ) (o : Option CType) → sees s from fs.file ≡ false → option_or o (also_field s from n k fs y) ≡ o
  unseen_field from n k fs y o e = by_test (nat_eq n k)
    where
      by_option : (o : Option CType) → option_or o None ≡ o
      by_option None = refl
      by_option (Some a) = refl

      by_test : (b : Bool) → option_or o (if b then field_in s from y (Some fs) else None) ≡ o
      by_test true = ap (λ b. option_or o (if b then at_name fs.names fs.types y else None)) e ∙ by_option o
      by_test false = by_option o

  fields_elsewhere : {t : Scope} (k : ℕ) (fs : Fields) → is_part_of s header fs.file ≡ false → DeclaresFields k fs s t → SeesAsBefore header s t
  fields_elsewhere k fs o d = record {
    file = d.keeps.unit.file;
    headers = d.keeps.unit.headers;
    names = λ from y p. d.keeps.names y from;
    tags = λ from y p. d.tags y from;
    fields = λ from n y p. d.fields n y from ∙ unseen_field from n k fs y _ (unseen s header from fs.file c p o);
    functions = λ k f e. ap (λ fs. slice_get fs k) d.keeps.functions ∙ e;
    function_types = λ k f e. ap (λ fs. slice_get fs k) d.keeps.function_types ∙ e;
  }

-- fields stand in the file in which they begin
pub fields_file : {gs : Fields} (s : Scope) (xs : List Typed) (fs : Fields) → fields_behind s xs fs ≡ Ok gs → gs.file ≡ fs.file
fields_file s [] fs h = ap (λ (z : Fields). z.file) (sym (ok_same h))
fields_file s (x ∷ xs) fs h =
    let k = through (fields_behind s xs) (field_walked s x fs) h in
    let j = through (λ t. with_field x t fs) (written_type s x.written) k.first in
    let is = refused_where _ _ (is_some (number_of fs.names x.name.text)) j.next in
    fields_file s xs k.at k.next ∙ ap (λ (z : Fields). z.file) is.is

whole_elsewhere : {t : Scope} (header : ℕ) (s : Scope) → ConsistsOfHeaders s header → (n : Name) (xs : List Typed) → is_part_of s header n.place.file ≡ false → DeclaresWhole n xs s t → SeesAsBefore header s t
whole_elsewhere header s c n xs o d =
    let first = struct_elsewhere header s c n false o d.struct_first in
    let file = fields_file d.at xs _ d.walked in
    as_before_both first (fields_elsewhere header d.at (consists_same d.struct_first.keeps.unit c) d.struct_first.number d.found
    (ap (is_part_of d.at header) file ∙ part_same header n.place.file d.struct_first.keeps.unit ∙ o)
    d.then_fields)

pub items_elsewhere_are_unseen : ItemsElsewhereAreUnseen
items_elsewhere_are_unseen header (items.Opaque p n) s t c b o h =
    let d = struct_declares n true s b h.is in
    (struct_elsewhere header s c n true (or_parts (is_part_of s header n.place.file) false o).0 d, d.between)
items_elsewhere_are_unseen header (items.Struct p n xs) s t c b o h =
    let d = whole_declares n xs s b h.is in
    (whole_elsewhere header s c n xs (or_parts (is_part_of s header n.place.file) (list_any (is_part_of s header) (files_of_typed xs)) o).0 d, d.then_fields.between)
items_elsewhere_are_unseen header (items.FunctionType p g k) s t c b o h =
    let d = type_declares g k s b h in
    (name_elsewhere header s c g.name.text (meanings.FunctionType d.number) g.name.place.file (or_parts (is_part_of s header g.name.place.file) _ o).0 d.name, d.name.between)
items_elsewhere_are_unseen header (items.Prototype g q k) s t c b o h =
    let d = prototype_declares g k s b h in
    (name_elsewhere header s c g.name.text (meanings.Function d.number) g.name.place.file (or_parts (is_part_of s header g.name.place.file) _ o).0 d.name, d.name.between)
items_elsewhere_are_unseen header (items.Function g q k x) s t c b o h =
    let d = definition_declares g k x s b h in
    (name_elsewhere header s c g.name.text (meanings.Function d.number) g.name.place.file (or_parts (is_part_of s header g.name.place.file) _ o).0 d.name, d.name.between)
items_elsewhere_are_unseen header (items.Ghost g) s t c b o h = (subst (SeesAsBefore header s) (ok_same h.is) (as_before header s), subst IsBetweenItems (ok_same h.is) b)
