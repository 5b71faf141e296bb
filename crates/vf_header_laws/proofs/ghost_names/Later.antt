-- Predicates that stand anywhere in a unit, as a header sees them.
use Rattle.std.proofs.Common.{◌≡◌, refl, sym, ap, subst, ◌∙◌, ℕ, Bool, true, false, ◌||◌, if◌then◌else◌, List, [], ◌∷◌, Option, Some, None, Ok}
use Rattle.std.specs.List.{list_any}
use Rattle.std.specs.Str.{bytes_eq}
use Rattle.std.proofs.lemmas.Bool.{or_parts}
use Rattle.vf_declared.specs.declared.scope.Scope.{Scope}
use Rattle.vf_declared.specs.Scopes.{at_name, is_visible, stands_in}
use Rattle.vf_syntax.specs.declared.item.GhostForm.{GhostForm}
use Rattle.vf_syntax.specs.declared.item.GhostForm.TheVariants as forms
use Rattle.vf_syntax.specs.declared.item.Item.{Item}
use Rattle.vf_syntax.specs.declared.item.Item.TheVariants as items
use Rattle.vf_syntax.specs.declared.written.Name.{Name}
use Rattle.vf_datatypes.specs.declared.stated.Stated.{Stated}
use Rattle.vf_gathering.specs.Named.{in_front, predicate_in, predicate_of, predicates_in}
use Rattle.vf_gathering.specs.Standing.{any_files, files_of}
use Rattle.vf_annotations.specs.Forms.{meanings}
use Rattle.vf_walk.specs.Items.{WalksItem, WalksItems}
use Rattle.vf_header_laws.specs.c_names.Items.{IsBetweenItems}
use Rattle.vf_header_laws.specs.c_names.Parts.{is_part_of}
use Rattle.vf_header_laws.specs.c_names.Same.{ConsistsOfHeaders}
use Rattle.vf_header_laws.proofs.c_names.Files.{part_same, unseen, visible_alike}
use Rattle.vf_header_laws.proofs.c_names.Lists.{none_some, some_same}
use Rattle.vf_header_laws.proofs.c_names.Steps.{ok_same, went}
use Rattle.vf_header_laws.specs.ghost_names.Items.{files_of_names, IsDeclaredOutside, names_of_form}
use Rattle.vf_header_laws.specs.ghost_names.Later.{LaterPredicatesAgree, PredicatesAreForeseen, PredicatesStayForeseen, stands_anywhere}
use Rattle.vf_header_laws.specs.ghost_names.Units.{HaveTheSameGhosts, inside, none, outside_first, outside_second}
use Rattle.vf_header_laws.proofs.ghost_names.Behind.{form_behind, form_between}
use Rattle.vf_header_laws.proofs.ghost_names.Growing.{Grows}
use Rattle.vf_header_laws.proofs.ghost_names.Plain.{annotations_plain}
use Rattle.vf_header_laws.proofs.ghost_names.Real.{definition_keeps, Keeps, prototype_keeps, struct_keeps, type_keeps, whole_keeps}
use Rattle.vf_header_laws.proofs.ghost_names.Rest.{KeepsPredicates, predicates_both, predicates_itself}
use Rattle.vf_header_laws.proofs.ghost_names.Two.{AreTwo, part_both, sees_both}

-- ---- where predicates stand
pub files_seen : (s : Scope) (from : ℕ) (files : List ℕ) → stands_in s from (any_files files) ≡ is_visible s from files
files_seen s from [] = refl
files_seen s from (f ∷ files) = refl

-- the predicate that an item declares stands elsewhere where the item does
form_outside : (part : ℕ → Bool) (x : GhostForm) (n : Name) → list_any part (files_of_names (names_of_form x)) ≡ false → predicate_in x ≡ Some n → part n.place.file ≡ false
form_outside part (forms.Predicate m gs) n o e = ap (λ (z : Name). part z.place.file) (sym (some_same e)) ∙ (or_parts (part m.place.file) false o).0
form_outside part (forms.PredicateBody m gs a) n o e = ap (λ (z : Name). part z.place.file) (sym (some_same e)) ∙ (or_parts (part m.place.file) false o).0
form_outside part (forms.Inductive m ns b cs) n o e = none_some e
form_outside part (forms.Fixpoint t m ns gs b) n o e = none_some e
form_outside part (forms.Family m i gs) n o e = none_some e
form_outside part (forms.Instance f g gs a) n o e = none_some e
form_outside part (forms.PredicateConstructor m fs gs a) n o e = none_some e
form_outside part (forms.LemmaPrototype m ns gs c) n o e = none_some e
form_outside part (forms.Lemma m ns gs c b) n o e = none_some e

item_outside : (part : ℕ → Bool) (x : Item) (n : Name) → IsDeclaredOutside part x → predicate_of x ≡ Some n → part n.place.file ≡ false
item_outside part (items.Ghost x) n o e = form_outside part x.form n o e
item_outside part (items.Opaque p m) n o e = none_some e
item_outside part (items.Struct p m xs) n o e = none_some e
item_outside part (items.FunctionType p g c) n o e = none_some e
item_outside part (items.Prototype g k c) n o e = none_some e
item_outside part (items.Function g k c b) n o e = none_some e

-- one more predicate, which stands elsewhere
front_unseen : (s : Scope) (header from : ℕ) (x : List ℕ) (ns : List Name) → ConsistsOfHeaders s header → is_part_of s header from ≡ true → (o : Option Name) → ((n : Name) → o ≡ Some n → is_part_of s header n.place.file ≡ false) → is_visible s from (files_of x (in_front o ns)) ≡ is_visible s from (files_of x ns)
front_unseen s header from x ns c p None f = refl
front_unseen s header from x ns c p (Some n) f = by_test (bytes_eq x n.text)
  where
    by_test : (b : Bool) → is_visible s from (if b then n.place.file ∷ files_of x ns else files_of x ns) ≡ is_visible s from (files_of x ns)
    by_test true = ap (λ v. v || is_visible s from (files_of x ns)) (unseen s header from n.place.file c p (f n refl))
    by_test false = refl

-- one more predicate of both units
front_both : {header : ℕ} {s t : Scope} (from : ℕ) (x : List ℕ) (ns ms : List Name) → AreTwo header s t → is_part_of s header from ≡ true → (o : Option Name) → is_visible s from (files_of x ns) ≡ is_visible t from (files_of x ms) → is_visible s from (files_of x (in_front o ns)) ≡ is_visible t from (files_of x (in_front o ms))
front_both from x ns ms two p None h = h
front_both {header} {s} {t} from x ns ms two p (Some n) h = by_test (bytes_eq x n.text)
  where
    by_test : (b : Bool) → is_visible s from (if b then n.place.file ∷ files_of x ns else files_of x ns) ≡ is_visible t from (if b then n.place.file ∷ files_of x ms else files_of x ms)
    by_test true = λ i. sees_both from n.place.file two p i || h i
    by_test false = h

visible_both : (header : ℕ) (part : ℕ → Bool) (s t : Scope) (from : ℕ) (x : List ℕ) (xs ys : List Item) → AreTwo header s t → is_part_of s header from ≡ true → part ≡ is_part_of s header → part ≡ is_part_of t header → HaveTheSameGhosts part xs ys → is_visible s from (files_of x (predicates_in xs)) ≡ is_visible t from (files_of x (predicates_in ys))
visible_both header part s t from x [] [] two p q r none = refl
visible_both header part s t from x (items.Ghost g ∷ xs) (items.Ghost h ∷ ys) two p q r (inside w k) = front_both from x (predicates_in xs) (predicates_in ys) two p (predicate_in g.form) (visible_both header part s t from x xs ys two p q r k)
visible_both header part s t from x (z ∷ xs) ys two p q r (outside_first w k) =
    front_unseen s header from x (predicates_in xs) two.first p (predicate_of z) (λ n e. ap (λ f. f n.place.file) (sym q) ∙ item_outside part z n w e)
    ∙ visible_both header part s t from x xs ys two p q r k
visible_both header part s t from x xs (z ∷ ys) two p q r (outside_second w k) =
    visible_both header part s t from x xs ys two p q r k
    ∙ sym (front_unseen t header from x (predicates_in ys) two.second (sym (part_both two from) ∙ p) (predicate_of z) (λ n e. ap (λ f. f n.place.file) (sym r) ∙ item_outside part z n w e))

pub predicates_are_foreseen : PredicatesAreForeseen
predicates_are_foreseen header xs ys s t h k l r =
    let two : AreTwo header s t = record { first = h.first; second = h.second; files = h.files } in
    record {
      predicates = λ file name p.
          ap (stands_in s file) (k.files name) ∙ files_seen s file (files_of name (predicates_in xs))
          ∙ visible_both header (is_part_of s header) s t file name xs ys two p refl (λ i x. part_both two x i) r
          ∙ sym (files_seen t file (files_of name (predicates_in ys))) ∙ sym (ap (stands_in t file) (l.files name));
    }

-- ---- behind items
-- what stands between items, what names mean, and what is known of predicates
pub record IsThen (s t : Scope) : Type 0 where
  pub foreseen : KeepsPredicates s t
  pub grows : Grows s t
  pub between : IsBetweenItems t

keeps_then : {s t : Scope} → Keeps s t → IsThen s t
keeps_then k = record { foreseen = k.foreseen; grows = k.grows; between = k.between }

pub item_then : (d : Stated) (x : Item) (s t : Scope) → IsBetweenItems s → WalksItem (meanings d) x s (Ok t) → IsThen s t
item_then d (items.Opaque p n) s t b h = keeps_then (struct_keeps n true s b h.is)
item_then d (items.Struct p n xs) s t b h = keeps_then (whole_keeps n xs s b h.is)
item_then d (items.FunctionType p g k) s t b h = keeps_then (type_keeps (meanings d) (annotations_plain d) g k s b h)
item_then d (items.Prototype g q k) s t b h = keeps_then (prototype_keeps (meanings d) (annotations_plain d) g k s b h)
item_then d (items.Function g q k x) s t b h = keeps_then (definition_keeps (meanings d) (annotations_plain d) g k x s b h)
item_then d (items.Ghost x) s t b h = let k = form_behind d x.form s t b.names h in record { foreseen = k.kept.foreseen; grows = k.grows; between = form_between d x.form s t b h }

pub items_then : (d : Stated) (xs : List Item) (s t : Scope) → IsBetweenItems s → WalksItems (meanings d) xs s (Ok t) → KeepsPredicates s t
items_then d [] s t b h = subst (KeepsPredicates s) (ok_same h.is) (predicates_itself s)
items_then d (x ∷ xs) s t b h =
    let k = went h in
    let i = item_then d x s k.at b k.first in
    predicates_both i.foreseen (items_then d xs k.at t i.between k.next)

-- the same predicates are seen
pub stands_same : (s t : Scope) (name : List ℕ) (from : ℕ) → KeepsPredicates s t → stands_anywhere t name from ≡ stands_anywhere s name from
stands_same s t name from k = by_files (at_name t.predicates t.predicate_files name) ∙ (λ i. stands_in s from (at_name (k.predicates i) (k.predicate_files i) name))
  where
    by_files : (o : Option (List ℕ)) → stands_in t from o ≡ stands_in s from o
    by_files None = refl
    by_files (Some files) = visible_alike from files k.unit

pub predicates_stay_foreseen : PredicatesStayForeseen
predicates_stay_foreseen header d e xs ys s t u v a b h k r =
    let i = items_then d xs s u a h in
    let j = items_then e ys t v b k in
    record { predicates = λ file name p. stands_same s u name file i ∙ r.predicates file name (sym (part_same header file i.unit) ∙ p) ∙ sym (stands_same t v name file j) }

-- ---- predicates that stand later
pub later_predicates_agree : LaterPredicatesAgree
later_predicates_agree header s t file name h p e = λ i. if e i then false else h.predicates file name p i
