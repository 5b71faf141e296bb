-- The definitions of items are those of fixpoints among them, none of which is refused where no item is.
use Rattle.std.proofs.Common.{◌≡◌, refl, subst, ◌⊎◌, inl, inr, ⊎_elim, ℕ, zero, suc, List, [], ◌∷◌, ◌++◌, length, Some, None, arith}
use Rattle.std.specs.Prelude.{Contains}
use Rattle.vf_syntax.specs.declared.item.GhostForm.{GhostForm}
use Rattle.vf_syntax.specs.declared.item.GhostForm.TheVariants as forms
use Rattle.vf_syntax.specs.declared.item.Item.{Item}
use Rattle.vf_syntax.specs.declared.item.Item.TheVariants as items
use Rattle.vf_declared.specs.declared.declaration.Fixpoint as declaration
use Rattle.vf_declared.specs.declared.scope.Scope.{Scope}
use Rattle.vf_definitions.specs.declared.fixpoint.Body.{Body}
use Rattle.vf_definitions.specs.declared.fixpoint.Fixpoint as definitions
use Rattle.vf_defining.specs.Bodies.{identity_at}
use Rattle.vf_defining.specs.Fixpoints.{Defines}
use Rattle.vf_defining.specs.Units.{HaveDefinitions, no_items, more_items, IsNumbered, ItemDefines, other_item, stray_item, fixpoint, Written, of_integers, within_fixpoint, written_form, written_in}
use Rattle.vf_defining.specs.UpTo.{up_to}
use Rattle.vf_fixpoint_laws.proofs.bodies.Taken.{one_of}
use Rattle.vf_fixpoint.specs.Cases.{refused_at}
use Rattle.vf_recursion.specs.Faults.{constructors_of, fault_among, form_fault, item_fault}
use Rattle.vf_fixpoint_laws.proofs.descending.Bodies.{neither_there}
use Rattle.vf_fixpoint_laws.proofs.descending.Lists.{none_some, some_same}

-- ---- lists
apart : {A : Type 0} (xs ys : List A) (a : A) → Contains (xs ++ ys) a → Contains xs a ⊎ Contains ys a
apart [] ys a c = inr c
apart (x ∷ xs) ys a (zero, l, is) = inl (zero, omega arith, is)
apart (x ∷ xs) ys a (suc k, l, is) = ⊎_elim (λ p. inl (suc p.0, omega (arith, p.1), p.2)) (λ q. inr q) (apart xs ys a (k, omega (arith, l), is))

-- ---- definitions
-- a definition is that of a fixpoint among items, with its body as it is read, or taken as numbers
pub record IsOfItem (s : Scope) (paths : List (List ℕ)) (xs : List Item) (k : definitions.Fixpoint) : Type 0 where
  pub item : Item
  pub among : Contains xs item
  pub written : Written
  pub is : written_in item ≡ Some written
  pub number : ℕ
  pub declared : declaration.Fixpoint
  pub numbered : IsNumbered s written number declared
  pub body : Body
  pub defines : Defines (within_fixpoint (up_to written.name s) written.parameters declared.arguments) paths number written.body body
  pub taken : (k.body ≡ body) ⊎ (k.body ≡ of_integers body)
  pub identity : k.identity ≡ identity_at s paths written.name
  pub counted : k.parameters ≡ length written.parameters

item_defines : (s : Scope) (paths : List (List ℕ)) (x : Item) (xs : List Item) (ds : List definitions.Fixpoint) → ItemDefines s paths x ds → Contains xs x → (k : definitions.Fixpoint) → Contains ds k → IsOfItem s paths xs k
item_defines s paths x xs ds (other_item e) among k (j, l, is) = absurd (omega (arith, l))
item_defines s paths x xs ds (stray_item e stray) among k (j, l, is) = absurd (omega (arith, l))
item_defines s paths x xs ds (fixpoint {w} {n} {f} {b} e numbered defines) among k there =
    let o = one_of s paths w b f.result k there in
    record { item = x; among = among; written = w; is = e; number = n; declared = f; numbered = numbered; body = b; defines = defines; taken = o.taken; identity = o.identity; counted = o.counted }

further : {s : Scope} {paths : List (List ℕ)} {x : Item} {xs : List Item} {k : definitions.Fixpoint} → IsOfItem s paths xs k → IsOfItem s paths (x ∷ xs) k
further h = record {
  item = h.item;
  among = (suc h.among.0, omega (arith, h.among.1), h.among.2);
  written = h.written;
  is = h.is;
  number = h.number;
  declared = h.declared;
  numbered = h.numbered;
  body = h.body;
  defines = h.defines;
  taken = h.taken;
  identity = h.identity;
  counted = h.counted;
}

pub of_item : (s : Scope) (paths : List (List ℕ)) (xs : List Item) (fs : List definitions.Fixpoint) → HaveDefinitions s paths xs fs → (k : definitions.Fixpoint) → Contains fs k → IsOfItem s paths xs k
of_item s paths xs fs no_items k (j, l, is) = absurd (omega (arith, l))
of_item s paths _ _ (more_items {x} {xs} {ds} {es} d h) k there = ⊎_elim (λ p. item_defines s paths x (x ∷ xs) ds d (zero, omega arith, refl) k p) (λ q. further (of_item s paths xs es h k q)) (apart ds es k there)

-- ---- faults
form_kept : (all : List Item) (x : GhostForm) (w : Written) → written_form x ≡ Some w → form_fault all x ≡ None → refused_at w.name w.parameters (constructors_of all w.parameters w.body) w.body ≡ None
form_kept all (forms.Fixpoint t n ps gs b) w e f = subst (λ (v : Written). refused_at v.name v.parameters (constructors_of all v.parameters v.body) v.body ≡ None) (some_same e) f
form_kept all (forms.Inductive n ns p cs) w e f = absurd (none_some e)
form_kept all (forms.Predicate n gs) w e f = absurd (none_some e)
form_kept all (forms.PredicateBody n gs x) w e f = absurd (none_some e)
form_kept all (forms.Family n i gs) w e f = absurd (none_some e)
form_kept all (forms.Instance y g gs x) w e f = absurd (none_some e)
form_kept all (forms.PredicateConstructor n fs gs x) w e f = absurd (none_some e)
form_kept all (forms.LemmaPrototype n ns gs c) w e f = absurd (none_some e)
form_kept all (forms.Lemma n ns gs c y) w e f = absurd (none_some e)

item_kept : (all : List Item) (x : Item) (w : Written) → written_in x ≡ Some w → item_fault all x ≡ None → refused_at w.name w.parameters (constructors_of all w.parameters w.body) w.body ≡ None
item_kept all (items.Ghost a) w e f = form_kept all a.form w e f
item_kept all (items.Opaque p n) w e f = absurd (none_some e)
item_kept all (items.Struct p n xs) w e f = absurd (none_some e)
item_kept all (items.FunctionType p g c) w e f = absurd (none_some e)
item_kept all (items.Prototype g k c) w e f = absurd (none_some e)
item_kept all (items.Function g k c y) w e f = absurd (none_some e)

none_among : (all xs : List Item) → fault_among all xs ≡ None → (x : Item) → Contains xs x → item_fault all x ≡ None
none_among all [] e x (j, l, is) = absurd (omega (arith, l))
none_among all (y ∷ xs) e x (zero, l, is) = subst (λ z. item_fault all z ≡ None) is (neither_there (item_fault all y) (fault_among all xs) e).0
none_among all (y ∷ xs) e x (suc j, l, is) = none_among all xs (neither_there (item_fault all y) (fault_among all xs) e).1 x (j, omega (arith, l), is)

-- a fixpoint among items of which none is refused is not refused
pub item_accepted : (all : List Item) → fault_among all all ≡ None → (x : Item) (w : Written) → Contains all x → written_in x ≡ Some w → refused_at w.name w.parameters (constructors_of all w.parameters w.body) w.body ≡ None
item_accepted all e x w among is = item_kept all x w is (none_among all all e x among)
