-- The datatypes and tags that are told ahead of items have the numbers that they are declared by.
use Rattle.std.proofs.Common.{◌≡◌, refl, sym, subst, ◌∙◌, ap, ℕ, ⊎_elim, List, [], ◌∷◌, ◌++◌, length, Option, Some, None, slice_get, arith}
use Rattle.vf_names.specs.Names.{number_of, put_found}
use Rattle.vf_names.proofs.Numbering.{number_of-push}
use Rattle.vf_declared.specs.declared.declaration.Constructor.{Constructor}
use Rattle.vf_declared.specs.declared.declaration.Declaration.{Declaration}
use Rattle.vf_declared.specs.declared.declaration.GhostDeclaration.{GhostDeclaration}
use Rattle.vf_declared.specs.declared.declaration.GhostDeclaration.TheVariants as ghosts
use Rattle.vf_declared.specs.Scopes.{at_name}
use Rattle.vf_syntax.specs.declared.item.GhostForm.{GhostForm}
use Rattle.vf_syntax.specs.declared.item.GhostForm.TheVariants as forms
use Rattle.vf_syntax.specs.declared.item.Item.{Item}
use Rattle.vf_syntax.specs.declared.item.Item.TheVariants as items
use Rattle.vf_syntax.specs.declared.written.Name.{Name}
use Rattle.vf_sorting.specs.Schemes.{count_in}
use Rattle.vf_gathering.specs.declared.ahead.Ahead.{Ahead}
use Rattle.vf_gathering.specs.Ahead.{with_datatype, with_form, with_item, with_items, with_number, with_tag}
use Rattle.vf_fixpoint_laws.proofs.definable.Extending.{Core}
use Rattle.vf_fixpoint_laws.proofs.definable.Lists.{get_below, get_front, number_below, number_front, one_beside}
use Rattle.vf_fixpoint_laws.proofs.well_declared.Adding.{Adds, IsOrdered, Means, OfDatatype, datatype_adds, datatype_datatypes, datatype_found, its_own, itself}
use Rattle.vf_fixpoint_laws.proofs.well_declared.Ghosts.{IsDatatype}
use Rattle.vf_fixpoint_laws.proofs.well_declared.Lists.{get_at_last, none_beside, number_push}

-- ---- datatypes
-- a datatype of a name was told with a number, and with as many type parameters as it is declared with
abbrev pub HasNumber : Ahead → Core → List ℕ → ℕ → Type 0
HasNumber a c x k = (number_of a.datatypes x ≡ Some k) × (slice_get a.counts k ≡ Some (count_in (slice_get c.datatypes k)))

-- the datatypes that are declared are those that were told, each with its number and as many type parameters
pub record Numbers (a : Ahead) (c : Core) : Type 0 where
  pub as_many : length a.datatypes ≡ length c.datatypes
  pub counted : length a.counts ≡ length a.datatypes
  pub declared : (x : List ℕ) (k : ℕ) → number_of a.datatypes x ≡ Some k → (d : Declaration) × (at_name c.names c.declarations x ≡ Some d)
  pub numbered : (x : List ℕ) (n k : ℕ) → Means c x n (ghosts.Datatype k) → HasNumber a c x k

-- they stay so where no datatype is new
pub numbers_kept : {F : List ℕ → List ℕ → GhostDeclaration → Type 0} {a : Ahead} {c e : Core} → ((x fs : List ℕ) (k : ℕ) → F x fs (ghosts.Datatype k) → ⊥) → Adds F c e → e.datatypes ≡ c.datatypes → Numbers a c → Numbers a e
numbers_kept {a = a} f h q b = record {
  as_many = b.as_many ∙ sym (ap length q);
  counted = b.counted;
  declared = λ x k i. let d = b.declared x k i in let w = h.kept x d.0 d.1 in (w.after, w.stands);
  numbered = λ x n k m. ⊎_elim (λ w. let p = b.numbered x n k w.before in (p.0, p.1 ∙ ap (λ ds. Some (count_in (slice_get ds k))) (sym q))) (λ i. absurd (f x m.declaration.files k i)) (h.old_or_new x n (ghosts.Datatype k) m);
}

unknown : {a : Ahead} {c : Core} (n : Name) → Numbers a c → number_of c.names n.text ≡ None → number_of a.datatypes n.text ≡ None
unknown {a = a} {c = c} n b e = by_number (number_of a.datatypes n.text) refl
  where
    by_number : (o : Option ℕ) → number_of a.datatypes n.text ≡ o → number_of a.datatypes n.text ≡ None
    by_number None f = f
    by_number (Some k) f = let d = b.declared n.text k f in absurd (none_beside c.names c.declarations n.text d.0 e d.1)

datatype_number : {j k : ℕ} → ◌≡◌ {A = GhostDeclaration} (ghosts.Datatype j) (ghosts.Datatype k) → j ≡ k
datatype_number e = cc

no_constructor : {A : Type 0} {j : ℕ} {k : Constructor} → ◌≡◌ {A = GhostDeclaration} (ghosts.Datatype j) (ghosts.Constructor k) → A
no_constructor e = absurd cc

-- one datatype more
told_more : {a : Ahead} {n : Name} {ns : List Name} {c e : Core} → IsOrdered c → IsDatatype n ns c e → Numbers a c → number_of a.datatypes n.text ≡ None → Numbers (with_number a n (length ns) None) e
told_more {a = a} {n = n} {ns = ns} {c = c} {e = e} o d b u = record {
  as_many = one_beside a.datatypes n.text c.datatypes d.datatype b.as_many ∙ sym (ap length q);
  counted = one_beside a.counts (length ns) a.datatypes n.text b.counted;
  declared = λ x k i. ⊎_elim (λ f. let p = b.declared x k f in let w = h.kept x p.0 p.1 in (w.after, w.stands)) (λ f. let p = datatype_found o d in (p.0, ap (at_name e.names e.declarations) f.0 ∙ p.1)) (number_push a.datatypes n.text x k i);
  numbered = λ x j k m. ⊎_elim (λ w. old x k (b.numbered x j k w.before)) (λ f. new x m.declaration.files k f) (h.old_or_new x j (ghosts.Datatype k) m);
}
  where
    h : Adds (OfDatatype n (length c.datatypes) (length ns)) c e
    h = datatype_adds o d

    q : e.datatypes ≡ c.datatypes ++ d.datatype ∷ []
    q = datatype_datatypes d

    old : (x : List ℕ) (k : ℕ) → HasNumber a c x k → HasNumber (with_number a n (length ns) None) e x k
    old x k p =
        let l = number_below a.datatypes x k p.0 in
        let m = b.as_many in
        (number_front a.datatypes (n.text ∷ []) x k p.0, get_front a.counts (length ns ∷ []) k _ p.1 ∙ ap (λ o. Some (count_in o)) (sym (ap (λ ds. slice_get ds k) q ∙ get_below c.datatypes (d.datatype ∷ []) k (omega (arith, l, m)))))

    new : (x fs : List ℕ) (k : ℕ) → OfDatatype n (length c.datatypes) (length ns) x fs (ghosts.Datatype k) → HasNumber (with_number a n (length ns) None) e x k
    new x fs k (itself f g) =
        let is : k ≡ length c.datatypes = datatype_number g in (
          ap (number_of (a.datatypes ++ n.text ∷ [])) f ∙ (number_of-push a.datatypes n.text u ∙ ap Some (b.as_many ∙ sym is)),
          get_at_last a.counts (length ns) k (is ∙ (sym b.as_many ∙ sym b.counted)) ∙ ap Some (sym (ap (λ ds. count_in (slice_get ds k)) q ∙ (ap count_in (get_at_last c.datatypes d.datatype k is) ∙ d.counted))),
        )
    new x fs k (its_own j g i l) = no_constructor g

pub numbers_datatype : {a : Ahead} {n : Name} {ns : List Name} {c e : Core} → IsOrdered c → IsDatatype n ns c e → Numbers a c → Numbers (with_datatype a n (length ns)) e
numbers_datatype {a = a} {n = n} {ns = ns} {e = e} o d b =
    let u = unknown n b d.named.fresh in
    subst (λ o. Numbers (with_number a n (length ns) o) e) (sym u) (told_more o d b u)

-- ---- what is told goes on
-- what is told of one is told of another
pub record Goes (a w : Ahead) : Type 0 where
  pub datatypes : (x : List ℕ) (k : ℕ) → number_of a.datatypes x ≡ Some k → number_of w.datatypes x ≡ Some k
  pub counts : (k m : ℕ) → slice_get a.counts k ≡ Some m → slice_get w.counts k ≡ Some m
  pub tags : (x : List ℕ) (k : ℕ) → number_of a.tags x ≡ Some k → number_of w.tags x ≡ Some k

goes_itself : (a : Ahead) → Goes a a
goes_itself a = record { datatypes = λ x k e. e; counts = λ k m e. e; tags = λ x k e. e }

goes_both : {a b w : Ahead} → Goes a b → Goes b w → Goes a w
goes_both h k = record { datatypes = λ x n e. k.datatypes x n (h.datatypes x n e); counts = λ n m e. k.counts n m (h.counts n m e); tags = λ x n e. k.tags x n (h.tags x n e) }

goes_number : (a : Ahead) (n : Name) (m : ℕ) (o : Option ℕ) → Goes a (with_number a n m o)
goes_number a n m None = record { datatypes = λ x k e. number_front a.datatypes (n.text ∷ []) x k e; counts = λ k j e. get_front a.counts (m ∷ []) k j e; tags = λ x k e. e }
goes_number a n m (Some j) = goes_itself a

put_front : (ns : List (List ℕ)) (y : List ℕ) (o : Option ℕ) (x : List ℕ) (k : ℕ) → number_of ns x ≡ Some k → number_of (put_found ns y o) x ≡ Some k
put_front ns y None x k e = number_front ns (y ∷ []) x k e
put_front ns y (Some j) x k e = e

goes_tag : (a : Ahead) (n : Name) → Goes a (with_tag a n)
goes_tag a n = record { datatypes = λ x k e. e; counts = λ k m e. e; tags = λ x k e. put_front a.tags n.text (number_of a.tags n.text) x k e }

goes_form : (a : Ahead) (x : GhostForm) → Goes a (with_form a x)
goes_form a (forms.Inductive n ns b cs) = goes_number a n (length ns) (number_of a.datatypes n.text)
goes_form a (forms.Fixpoint t n ns gs b) = goes_itself a
goes_form a (forms.Predicate n gs) = goes_itself a
goes_form a (forms.PredicateBody n gs x) = goes_itself a
goes_form a (forms.Family n i gs) = goes_itself a
goes_form a (forms.Instance f g gs x) = goes_itself a
goes_form a (forms.PredicateConstructor n fs gs x) = goes_itself a
goes_form a (forms.LemmaPrototype n ns gs c) = goes_itself a
goes_form a (forms.Lemma n ns gs c b) = goes_itself a

goes_item : (a : Ahead) (x : Item) → Goes a (with_item a x)
goes_item a (items.Opaque p n) = goes_tag a n
goes_item a (items.Struct p n xs) = goes_tag a n
goes_item a (items.FunctionType p g c) = goes_itself a
goes_item a (items.Prototype g k c) = goes_itself a
goes_item a (items.Function g k c b) = goes_itself a
goes_item a (items.Ghost x) = goes_form a x.form

-- what is told of the first of some items is told of all
pub goes_items : (a : Ahead) (xs : List Item) → Goes a (with_items a xs)
goes_items a [] = goes_itself a
goes_items a (x ∷ xs) = goes_both (goes_item a x) (goes_items (with_item a x) xs)
