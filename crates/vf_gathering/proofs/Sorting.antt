-- Loops over sorts that are told, and what is foretold of predicates.
use Rattle.std.proofs.Common.{◌≡◌, ℕ, ◌+◌, ◌≤◌, List, [], ◌∷◌, ◌++◌, length, drop, Some, slice_get, refl, sym, ap, ◌∙◌}
use Rattle.std.proofs.lemmas.List.{drop_all}
use Rattle.vf_sorts.specs.Sorts.{Sort}
use Rattle.vf_syntax.specs.declared.item.GhostForm.{GhostForm}
use Rattle.vf_syntax.specs.declared.item.GhostForm.TheVariants as forms
use Rattle.vf_syntax.specs.declared.item.Item.{Item}
use Rattle.vf_syntax.specs.declared.item.Item.TheVariants as items
use Rattle.vf_syntax.specs.SortTree.{SortTree, sort_list}
use Rattle.vf_sorting.proofs.Lists.{left_at}
use Rattle.vf_gathering.specs.declared.ahead.Ahead.{Ahead}
use Rattle.vf_gathering.specs.declared.foretold.Foretold.{Foretold}
use Rattle.vf_gathering.specs.Foretold.{none_foretold, with_form, with_item, with_items}
use Rattle.vf_gathering.specs.Named.{predicate_in, predicate_of, predicates_in, with_optional}
use Rattle.vf_gathering.specs.Standing.{Tells, with_names}
use Rattle.vf_gathering.specs.Told.{told, told_all}
use Rattle.vf_gathering.proofs.Tables.{all_told, nothing_behind, one_by_one, one_more}

-- ---- sorts

pub sorts_on : (w : Ahead) (xs : List SortTree) (i : ℕ) (x : SortTree) (ts us : List Sort) (t : Sort) → slice_get xs i ≡ Some x → t ≡ told w x → us ≡ ts ++ t ∷ [] → told_all w (sort_list xs) ≡ ts ++ told_all w (sort_list (drop i xs)) → told_all w (sort_list xs) ≡ us ++ told_all w (sort_list (drop (i + 1) xs))
sorts_on w xs i x ts us t h e q v =
    v ∙ ap (λ ys. ts ++ told_all w (sort_list ys)) (left_at xs i x h)
    ∙ ap (λ u. ts ++ u ∷ told_all w (sort_list (drop (i + 1) xs))) (sym e)
    ∙ sym (one_by_one ts t (told_all w (sort_list (drop (i + 1) xs))))
    ∙ ap (λ vs. vs ++ told_all w (sort_list (drop (i + 1) xs))) (sym q)

pub sorts_end : (w : Ahead) (xs : List SortTree) (i : ℕ) (ts : List Sort) → length xs ≤ i → told_all w (sort_list xs) ≡ ts ++ told_all w (sort_list (drop i xs)) → ts ≡ told_all w (sort_list xs)
sorts_end w xs i ts l v = sym (v ∙ ap (λ ys. ts ++ told_all w (sort_list ys)) (drop_all i xs l) ∙ nothing_behind ts)

-- ---- predicates

form_names : (w : Ahead) (t : Foretold) (f : GhostForm) → (with_form w t f).stated ≡ with_optional t.stated (predicate_in f)
form_names w t (forms.Predicate n gs) = refl
form_names w t (forms.PredicateBody n gs a) = refl
form_names w t (forms.Inductive n ns b cs) = refl
form_names w t (forms.Fixpoint r n ns gs b) = refl
form_names w t (forms.Family n i gs) = refl
form_names w t (forms.Instance f g gs a) = refl
form_names w t (forms.PredicateConstructor n fs gs a) = refl
form_names w t (forms.LemmaPrototype n ns gs c) = refl
form_names w t (forms.Lemma n ns gs c b) = refl

item_names : (w : Ahead) (t : Foretold) (x : Item) → (with_item w t x).stated ≡ with_optional t.stated (predicate_of x)
item_names w t (items.Ghost x) = form_names w t x.form
item_names w t (items.Opaque p n) = refl
item_names w t (items.Struct p n xs) = refl
item_names w t (items.FunctionType p g c) = refl
item_names w t (items.Prototype g k c) = refl
item_names w t (items.Function g k c b) = refl

names_foretold : (w : Ahead) (xs : List Item) (t : Foretold) → (with_items w t xs).stated ≡ with_names t.stated (predicates_in xs)
names_foretold w [] t = refl
names_foretold w (x ∷ xs) t = names_foretold w xs (with_item w t x) ∙ sym (one_more t.stated (with_item w t x).stated (predicate_of x) (predicates_in xs) (item_names w t x))

-- of each predicate it is told in which files it stands
pub predicates_told : (w : Ahead) (xs : List Item) (t : Foretold) → t ≡ with_items w none_foretold xs → Tells (predicates_in xs) t.stated
predicates_told w xs t e = all_told (predicates_in xs) (ap (λ (u : Foretold). u.stated) e ∙ names_foretold w xs none_foretold)
