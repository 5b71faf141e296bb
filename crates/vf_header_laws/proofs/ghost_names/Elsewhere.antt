-- Items of annotations that stand elsewhere are not seen from a header.
use Rattle.std.proofs.Common.{◌≡◌, refl, ap, subst, ◌∙◌, ℕ, true, false, List, [], ◌∷◌, length, Ok}
use Rattle.std.specs.List.{list_any}
use Rattle.std.proofs.lemmas.Bool.{or_parts}
use Rattle.vf_declared.specs.declared.declaration.Datatype.{Datatype}
use Rattle.vf_declared.specs.declared.declaration.GhostDeclaration.{GhostDeclaration}
use Rattle.vf_declared.specs.declared.scope.Scope.{Scope}
use Rattle.vf_syntax.specs.declared.item.Constructor.{Constructor}
use Rattle.vf_syntax.specs.declared.item.GhostForm.{GhostForm}
use Rattle.vf_syntax.specs.declared.item.GhostForm.TheVariants as forms
use Rattle.vf_syntax.specs.declared.item.Item.{Item}
use Rattle.vf_syntax.specs.declared.item.Item.TheVariants as items
use Rattle.vf_syntax.specs.declared.written.Name.{Name}
use Rattle.vf_syntax.specs.AssertionTree.{part_list}
use Rattle.vf_asserting.specs.Cases.{ghost_number}
use Rattle.vf_datatypes.specs.declared.own.Own.{Own}
use Rattle.vf_datatypes.specs.declared.stated.Stated.{Stated}
use Rattle.vf_datatypes.specs.Datatypes.{begun, constructor_behind, constructors_behind, own}
use Rattle.vf_annotations.specs.Forms.{FormComes, meanings}
use Rattle.vf_walk.specs.Items.{WalksItem}
use Rattle.vf_header_laws.specs.c_names.Items.{IsBetweenItems}
use Rattle.vf_header_laws.specs.c_names.Parts.{is_part_of}
use Rattle.vf_header_laws.specs.c_names.Same.{ConsistsOfHeaders}
use Rattle.vf_header_laws.proofs.c_names.Elsewhere.{consists_same}
use Rattle.vf_header_laws.proofs.c_names.Files.{also_unseen, OfOneUnit, part_same, unseen}
use Rattle.vf_header_laws.proofs.c_names.Steps.{ok_same}
use Rattle.vf_header_laws.specs.ghost_names.Items.{files_of_names, GhostsElsewhereAreUnseen, IsDeclaredOutside, names_of_constructors, names_of_form}
use Rattle.vf_header_laws.specs.ghost_names.Meaning.{ghost_at}
use Rattle.vf_header_laws.proofs.ghost_names.Behind.{form_behind, form_between}
use Rattle.vf_header_laws.proofs.ghost_names.Datatypes.{datatype_names, is_datatype, IsDatatype, step, with_datatype}
use Rattle.vf_header_laws.proofs.ghost_names.Declaring.{Adds, again_adds, new_adds}
use Rattle.vf_header_laws.proofs.ghost_names.Growing.{Grows}
use Rattle.vf_header_laws.proofs.ghost_names.Heads.{again, constructor_declares, Declares, family_declares, fixpoint_declares, instance_rest, new, predicate_body_declares, predicate_declares}
use Rattle.vf_header_laws.proofs.ghost_names.Lemmas.{definition_declares, prototype_declares}
use Rattle.vf_header_laws.proofs.ghost_names.Plain.{annotations_plain}
use Rattle.vf_header_laws.proofs.ghost_names.Real.{definition_keeps, Keeps, prototype_keeps, struct_keeps, type_keeps, whole_keeps}
use Rattle.vf_header_laws.proofs.ghost_names.Rest.{rest_name}
use Rattle.vf_header_laws.proofs.ghost_names.Walks.{through}

-- ---- behind a part that a header does not see
-- from the files of a header names mean of annotations what they meant
abbrev NamesUnseen : ℕ → Scope → Scope → Type 0
NamesUnseen header s t = (from : ℕ) (name : List ℕ) → is_part_of s header from ≡ true → ghost_at t name from ≡ ghost_at s name from

unseen_both : (header : ℕ) (s t u : Scope) → OfOneUnit s t → NamesUnseen header s t → NamesUnseen header t u → NamesUnseen header s u
unseen_both header s t u e h k from name p = k from name (part_same header from e ∙ p) ∙ h from name p

adds_unseen : {x : List ℕ} {k file : ℕ} {s t : Scope} (header : ℕ) → ConsistsOfHeaders s header → is_part_of s header file ≡ false → Adds x k file s t → NamesUnseen header s t
adds_unseen {x} {k} {file} {s} header c o a from name p = a.names name from ∙ also_unseen s from file name x k _ (unseen s header from file c p o)

declares_unseen : {n : Name} {Q : GhostDeclaration → Type 0} {s t : Scope} (header : ℕ) → ConsistsOfHeaders s header → length s.names ≡ length s.declarations → list_any (is_part_of s header) (n.place.file ∷ []) ≡ false → Declares n Q s t → NamesUnseen header s t
declares_unseen {n} {s = s} header c b o (new d q) = adds_unseen header c (or_parts (is_part_of s header n.place.file) false o).0 (new_adds b d)
declares_unseen {n} {s = s} header c b o (again d) = adds_unseen header c (or_parts (is_part_of s header n.place.file) false o).0 (again_adds b d)

-- ---- datatypes
outside_same : {s t : Scope} (header : ℕ) (files : List ℕ) → OfOneUnit s t → list_any (is_part_of s header) files ≡ false → list_any (is_part_of t header) files ≡ false
outside_same header files h o = ap (λ f. list_any f files) (λ i x. part_same header x h i) ∙ o

constructors_unseen : {t : Scope} (header : ℕ) (d : Stated) (q : Own) (cs : List Constructor) (s : Scope) → ConsistsOfHeaders s header → length s.names ≡ length s.declarations → list_any (is_part_of s header) (files_of_names (names_of_constructors cs)) ≡ false → constructors_behind d q cs s ≡ Ok t → NamesUnseen header s t
constructors_unseen {t} header d q [] s c b o h = subst (NamesUnseen header s) (ok_same h) (λ from name p. refl)
constructors_unseen {t} header d q (x ∷ cs) s c b o h =
    let k = through (constructors_behind d q cs) (constructor_behind d q x s) h in
    let p = or_parts (is_part_of s header x.name.place.file) (list_any (is_part_of s header) (files_of_names (names_of_constructors cs))) o in
    let first = new_adds b (step d q x s k.first).declares in
    unseen_both header s k.at t first.grows.unit (adds_unseen header c p.0 first) (constructors_unseen header d q cs k.at (consists_same first.grows.unit c) first.beside (outside_same header (files_of_names (names_of_constructors cs)) first.grows.unit p.1) k.next)

-- a datatype that is complete changes no names
complete_unseen : (header : ℕ) (s w t : Scope) (x : Datatype) → t ≡ with_datatype w x → NamesUnseen header s w → NamesUnseen header s t
complete_unseen header s w t x e h from name p = ap (λ (u : Scope). ghost_at u name from) e ∙ datatype_names w x name from ∙ h from name p

datatype_unseen : {t : Scope} (header : ℕ) (d : Stated) (n : Name) (ns : List Name) (cs : List Constructor) (s : Scope) → ConsistsOfHeaders s header → length s.names ≡ length s.declarations → list_any (is_part_of s header) (n.place.file ∷ files_of_names (names_of_constructors cs)) ≡ false → IsDatatype d n ns cs s t → NamesUnseen header s t
datatype_unseen {t} header d n ns cs s c b o i =
    let p = or_parts (is_part_of s header n.place.file) (list_any (is_part_of s header) (files_of_names (names_of_constructors cs))) o in
    let first = new_adds b i.declares in
    let s₁ = begun s n in
    let second = constructors_unseen header d (own s n i.parameters) cs s₁ (consists_same first.grows.unit c) first.beside (outside_same header (files_of_names (names_of_constructors cs)) first.grows.unit p.1) i.constructors in
    let to_end : NamesUnseen header s i.at = unseen_both header s s₁ i.at first.grows.unit (adds_unseen header c p.0 first) second in
    complete_unseen header s i.at t _ i.is to_end

-- ---- forms
form_unseen : (header : ℕ) (d : Stated) (x : GhostForm) (s t : Scope) → ConsistsOfHeaders s header → length s.names ≡ length s.declarations → list_any (is_part_of s header) (files_of_names (names_of_form x)) ≡ false → FormComes d x s (Ok t) → NamesUnseen header s t
form_unseen header d (forms.Inductive n ns b cs) s t c e o h = datatype_unseen header d n ns cs s c e o (is_datatype d n ns cs s h.is)
form_unseen header d (forms.Fixpoint r n ns gs b) s t c e o h = declares_unseen header c e o (fixpoint_declares r n ns gs b s h)
form_unseen header d (forms.Predicate n gs) s t c e o h = declares_unseen header c e o (predicate_declares n gs s h)
form_unseen header d (forms.PredicateBody n gs a) s t c e o h = declares_unseen header c e o (predicate_body_declares n gs (part_list a) s h)
form_unseen header d (forms.Family n i gs) s t c e o h = declares_unseen header c e o (family_declares n i gs s h.is)
form_unseen header d (forms.Instance f g gs a) s t c e o h = λ from name p. ap ghost_number (rest_name name from (instance_rest f g gs (part_list a) s h))
form_unseen header d (forms.PredicateConstructor n fs gs a) s t c e o h = declares_unseen header c e o (constructor_declares n fs gs (part_list a) s h)
form_unseen header d (forms.LemmaPrototype n ns gs k) s t c e o h = declares_unseen header c e o (prototype_declares n ns gs k s h)
form_unseen header d (forms.Lemma n ns gs k b) s t c e o h = declares_unseen header c e o (definition_declares n ns gs k b s h)

-- ---- items
-- behind an item that a header does not see
pub record IsUnseen (header : ℕ) (s t : Scope) : Type 0 where
  pub grows : Grows s t
  pub names : (from : ℕ) (name : List ℕ) → is_part_of s header from ≡ true → ghost_at t name from ≡ ghost_at s name from
  pub between : IsBetweenItems t

keeps_unseen : {s t : Scope} (header : ℕ) → Keeps s t → IsUnseen header s t
keeps_unseen header k = record { grows = k.grows; names = λ from name p. k.names name from; between = k.between }

pub item_unseen : (header : ℕ) (d : Stated) (x : Item) (s t : Scope) → ConsistsOfHeaders s header → IsBetweenItems s → IsDeclaredOutside (is_part_of s header) x → WalksItem (meanings d) x s (Ok t) → IsUnseen header s t
item_unseen header d (items.Opaque p n) s t c b o h = keeps_unseen header (struct_keeps n true s b h.is)
item_unseen header d (items.Struct p n xs) s t c b o h = keeps_unseen header (whole_keeps n xs s b h.is)
item_unseen header d (items.FunctionType p g k) s t c b o h = keeps_unseen header (type_keeps (meanings d) (annotations_plain d) g k s b h)
item_unseen header d (items.Prototype g q k) s t c b o h = keeps_unseen header (prototype_keeps (meanings d) (annotations_plain d) g k s b h)
item_unseen header d (items.Function g q k x) s t c b o h = keeps_unseen header (definition_keeps (meanings d) (annotations_plain d) g k x s b h)
item_unseen header d (items.Ghost x) s t c b o h = record {
  grows = (form_behind d x.form s t b.names h).grows;
  names = form_unseen header d x.form s t c b.names o h;
  between = form_between d x.form s t b h;
}

pub ghosts_elsewhere_are_unseen : GhostsElsewhereAreUnseen
ghosts_elsewhere_are_unseen header d x s t c b o h =
    let u = item_unseen header d x s t c b o h in (
      record {
        file = u.grows.unit.file;
        headers = u.grows.unit.headers;
        names = u.names;
        tags = λ tag n e. u.grows.tags tag header n e;
        ghosts = u.grows.ghosts;
        datatypes = u.grows.datatypes;
      },
      u.between,
    )
