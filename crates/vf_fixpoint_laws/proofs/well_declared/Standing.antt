-- What names of annotations mean stays well declared from item to item.
use Rattle.std.proofs.Common.{◌≡◌, refl, sym, subst, ◌∙◌, ap, ℕ, suc, ◌≤◌, ⊎_elim, List, [], ◌∷◌, ◌++◌, length, length-append, Contains, Some, Ok, slice_get, arith}
use Rattle.vf_base.specs.declared.place.Place.{Place}
use Rattle.vf_sorts.specs.Unknowns.{IsBelow}
use Rattle.vf_declared.specs.declared.declaration.Datatype.{Datatype}
use Rattle.vf_declared.specs.declared.declaration.Fixpoint.{Fixpoint}
use Rattle.vf_declared.specs.declared.declaration.GhostDeclaration.{GhostDeclaration}
use Rattle.vf_declared.specs.declared.declaration.GhostDeclaration.TheVariants as ghosts
use Rattle.vf_declared.specs.declared.scope.Scope.{Scope}
use Rattle.vf_syntax.specs.declared.item.GhostForm.{GhostForm}
use Rattle.vf_syntax.specs.declared.item.GhostForm.TheVariants as forms
use Rattle.vf_syntax.specs.declared.item.GhostParameter.{GhostParameter}
use Rattle.vf_syntax.specs.declared.item.Item.{Item}
use Rattle.vf_syntax.specs.declared.item.Item.TheVariants as items
use Rattle.vf_syntax.specs.declared.written.Name.{Name}
use Rattle.vf_sorting.specs.Schemes.{count_in}
use Rattle.vf_datatypes.specs.declared.stated.Stated.{Stated}
use Rattle.vf_defining.specs.Units.{Written, written_in}
use Rattle.vf_walk.specs.Items.{WalksItems}
use Rattle.vf_annotations.specs.Forms.{meanings}
use Rattle.vf_erasure_laws.proofs.hidden.Coming.{Leads, ok_comes, only_leads, then_leads}
use Rattle.vf_fixpoint_laws.specs.bodies.Closed.{Each, IsClosed}
use Rattle.vf_fixpoint_laws.proofs.definable.Extending.{Core, core}
use Rattle.vf_fixpoint_laws.proofs.definable.Lists.{get_below}
use Rattle.vf_fixpoint_laws.proofs.well_declared.Adding.{Adds, IsOrdered, Means, OfDatatype, datatype_adds, datatype_datatypes, its_own, itself, new_adds, new_datatypes, others_add, others_datatypes}
use Rattle.vf_fixpoint_laws.proofs.well_declared.Cores.{IsOther, New, Others, plain}
use Rattle.vf_fixpoint_laws.proofs.well_declared.Ghosts.{IsDatatype, PredicateFrom, first}
use Rattle.vf_fixpoint_laws.proofs.well_declared.Ghosts as ghost_items
use Rattle.vf_fixpoint_laws.proofs.well_declared.Items.{FormLeaves, ItemLeaves, item_leaves}
use Rattle.vf_fixpoint_laws.proofs.well_declared.Lists.{get_at_last}

-- ---- what is well declared
-- a fixpoint stands among items: its name has the text that is declared, first in its file, there are as many parameters as arguments, and no unknown sorts stand in what it is declared with
pub record IsOfItem (xs : List Item) (x : List ℕ) (files : List ℕ) (f : Fixpoint) : Type 0 where
  pub item : Item
  pub among : Contains xs item
  pub written : Written
  pub is : written_in item ≡ Some written
  pub text : written.name.text ≡ x
  pub more : List ℕ
  pub first : files ≡ written.name.place.file ∷ more
  pub known_result : IsBelow 0 f.result
  pub known_arguments : Each (IsBelow 0) f.arguments
  pub long : length written.parameters ≡ length f.arguments

-- what a name that is declared in some files means is well declared where these datatypes are complete: a constructor is of one of them, and its arguments are closed
abbrev pub IsWell : List Item → List Datatype → List ℕ → List ℕ → GhostDeclaration → Type 0
IsWell xs ds x files (ghosts.Constructor k) = (suc k.datatype ≤ length ds) × Each (IsClosed (count_in (slice_get ds k.datatype))) k.arguments
IsWell xs ds x files (ghosts.Fixpoint f) = IsOfItem xs x files f
IsWell xs ds x files g = Unit {0}

-- so it is of each name
pub record Stands (xs : List Item) (c : Core) : Type 0 where
  pub ordered : IsOrdered c
  pub each : (x : List ℕ) (n : ℕ) (g : GhostDeclaration) (m : Means c x n g) → IsWell xs c.datatypes x m.declaration.files g

-- ---- more names
well_later : (xs : List Item) (ds : List Datatype) (x files more both : List ℕ) → both ≡ files ++ more → (g : GhostDeclaration) → IsWell xs ds x files g → IsWell xs ds x both g
well_later xs ds x files more both e (ghosts.Fixpoint f) h = record { item = h.item; among = h.among; written = h.written; is = h.is; text = h.text; more = h.more ++ more; first = e ∙ ap (λ fs. fs ++ more) h.first; known_result = h.known_result; known_arguments = h.known_arguments; long = h.long }
well_later xs ds x files more both e (ghosts.Constructor k) h = h
well_later xs ds x files more both e (ghosts.Datatype d) h = tt
well_later xs ds x files more both e (ghosts.Predicate ts) h = tt
well_later xs ds x files more both e (ghosts.Family f) h = tt
well_later xs ds x files more both e (ghosts.PredicateConstructor k) h = tt
well_later xs ds x files more both e (ghosts.Lemma l) h = tt

well_wider : (xs : List Item) (ds more : List Datatype) (x files : List ℕ) (g : GhostDeclaration) → IsWell xs ds x files g → IsWell xs (ds ++ more) x files g
well_wider xs ds more x files (ghosts.Constructor k) h =
    let l = length-append ds more in
    let a = h.0 in
    (omega (arith, l, a), subst (λ o. Each (IsClosed (count_in o)) k.arguments) (sym (get_below ds more k.datatype h.0)) h.1)
well_wider xs ds more x files (ghosts.Fixpoint f) h = h
well_wider xs ds more x files (ghosts.Datatype d) h = tt
well_wider xs ds more x files (ghosts.Predicate ts) h = tt
well_wider xs ds more x files (ghosts.Family f) h = tt
well_wider xs ds more x files (ghosts.PredicateConstructor k) h = tt
well_wider xs ds more x files (ghosts.Lemma l) h = tt

-- what is new is well declared, and no datatype is complete but those
adds_stand : {F : List ℕ → List ℕ → GhostDeclaration → Type 0} {xs : List Item} {c e : Core} (more : List Datatype) → e.datatypes ≡ c.datatypes ++ more → Adds F c e → ((x fs : List ℕ) (g : GhostDeclaration) → F x fs g → IsWell xs (c.datatypes ++ more) x fs g) → Stands xs c → Stands xs e
adds_stand {xs = xs} {c = c} more q a f h = record {
  ordered = a.ordered;
  each = λ x n g m. subst (λ ds. IsWell xs ds x m.declaration.files g) (sym q) (⊎_elim (λ w. well_later xs (c.datatypes ++ more) x w.before.declaration.files w.later.more m.declaration.files w.later.files g (well_wider xs c.datatypes more x w.before.declaration.files g (h.each x n g w.before))) (λ i. f x m.declaration.files g i) (a.old_or_new x n g m));
}

-- the same where none is
adds_beside : {F : List ℕ → List ℕ → GhostDeclaration → Type 0} {xs : List Item} {c e : Core} → e.datatypes ≡ c.datatypes → Adds F c e → ((x fs : List ℕ) (g : GhostDeclaration) → F x fs g → IsWell xs c.datatypes x fs g) → Stands xs c → Stands xs e
adds_beside {xs = xs} {c = c} q a f h = record {
  ordered = a.ordered;
  each = λ x n g m. subst (λ ds. IsWell xs ds x m.declaration.files g) (sym q) (⊎_elim (λ w. well_later xs c.datatypes x w.before.declaration.files w.later.more m.declaration.files w.later.files g (h.each x n g w.before)) (λ i. f x m.declaration.files g i) (a.old_or_new x n g m));
}

other_well : (xs : List Item) (ds : List Datatype) (x files : List ℕ) (g : GhostDeclaration) → IsOther g → IsWell xs ds x files g
other_well xs ds x files (ghosts.Family f) o = tt
other_well xs ds x files (ghosts.PredicateConstructor k) o = tt
other_well xs ds x files (ghosts.Lemma l) o = tt
other_well xs ds x files (ghosts.Datatype d) o = absurd o
other_well xs ds x files (ghosts.Constructor k) o = absurd o
other_well xs ds x files (ghosts.Fixpoint f) o = absurd o
other_well xs ds x files (ghosts.Predicate ts) o = absurd o

others_stand : {xs : List Item} {c e : Core} → Others c e → Stands xs c → Stands xs e
others_stand {xs = xs} {c = c} a h = adds_beside (others_datatypes a) (others_add h.ordered a) (other_well xs c.datatypes) h

new_stands : {xs : List Item} {c e : Core} {n : Name} {g : GhostDeclaration} → New n g c e → IsWell xs c.datatypes n.text (n.place.file ∷ []) g → Stands xs c → Stands xs e
new_stands {xs = xs} {c = c} a w h = adds_beside (new_datatypes a) (new_adds (IsWell xs c.datatypes) w h.ordered a) (λ x fs g i. i) h

-- ---- datatypes
of_datatype : (xs : List Item) (ds : List Datatype) (t : Datatype) (n : Name) (m : ℕ) → t.parameters ≡ m → (x fs : List ℕ) (g : GhostDeclaration) → OfDatatype n (length ds) m x fs g → IsWell xs (ds ++ t ∷ []) x fs g
of_datatype xs ds t n m e x fs g (itself i f) = subst (IsWell xs (ds ++ t ∷ []) x fs) (sym f) tt
of_datatype xs ds t n m e x fs g (its_own k f i c) =
    let l = length-append ds (t ∷ []) in
    subst (IsWell xs (ds ++ t ∷ []) x fs) (sym f) (omega (arith, i, l), subst (λ m. Each (IsClosed m) k.arguments) (sym (ap count_in (get_at_last ds t k.datatype i) ∙ e)) c)

datatype_stands : {xs : List Item} {n : Name} {ns : List Name} {c e : Core} → IsDatatype n ns c e → Stands xs c → Stands xs e
datatype_stands {xs = xs} {n = n} {ns = ns} {c = c} a h = adds_stand (a.datatype ∷ []) (datatype_datatypes a) (datatype_adds h.ordered a) (of_datatype xs c.datatypes a.datatype n (length ns) a.counted) h

-- ---- items
predicate_stands : {xs : List Item} {n : Name} {gs : List GhostParameter} {s t : Scope} → PredicateFrom n gs s t → Stands xs (core s) → Stands xs (core t)
predicate_stands (first ts w a) h = new_stands a.is tt h
predicate_stands (ghost_items.again k e p) h = others_stand (plain p.is) h

form_stands : {xs : List Item} (s t : Scope) (place : Place) (x : GhostForm) → Contains xs (items.Ghost (record { place = place; form = x })) → FormLeaves x s t → Stands xs (core s) → Stands xs (core t)
form_stands s t p (forms.Inductive n ns b cs) a l h = datatype_stands l h
form_stands s t p (forms.Fixpoint y n ns gs b) a l h = new_stands l.new.is (record { item = items.Ghost (record { place = p; form = forms.Fixpoint y n ns gs b }); among = a; written = record { name = n; parameters = gs; body = b }; is = refl; text = refl; more = []; first = refl; known_result = l.known_result; known_arguments = l.known_arguments; long = l.long }) h
form_stands s t p (forms.Predicate n gs) a l h = predicate_stands l h
form_stands s t p (forms.PredicateBody n gs x) a l h = predicate_stands l h
form_stands s t p (forms.Family n i gs) a l h = others_stand l.is h
form_stands s t p (forms.Instance f g gs x) a l h = others_stand l.is h
form_stands s t p (forms.PredicateConstructor n fs gs x) a l h = others_stand l.is h
form_stands s t p (forms.LemmaPrototype n ns gs c) a l h = others_stand l.is h
form_stands s t p (forms.Lemma n ns gs c b) a l h = others_stand l.is h

pub item_stands : {xs : List Item} (s t : Scope) (x : Item) → Contains xs x → ItemLeaves x s t → Stands xs (core s) → Stands xs (core t)
item_stands s t (items.Opaque p n) a l h = others_stand l.is h
item_stands s t (items.Struct p n fs) a l h = others_stand l.is h
item_stands s t (items.FunctionType p g c) a l h = others_stand l.is h
item_stands s t (items.Prototype g k c) a l h = others_stand l.is h
item_stands s t (items.Function g k c b) a l h = others_stand l.is h
item_stands s t (items.Ghost x) a l h = form_stands s t x.place x.form a l h

-- what stands well declared
abbrev StandsWith : List Item → Scope → Type 0
StandsWith xs s = Stands xs (core s)

-- items that are among some leave what stands well declared
pub items_stand : (xs : List Item) (d : Stated) (ys : List Item) (s : Scope) → ((y : Item) → Contains ys y → Contains xs y) → Stands xs (core s) → Leads (StandsWith xs) (WalksItems (meanings d) ys s)
items_stand xs d [] s a h = only_leads (StandsWith xs) (Ok s) (ok_comes (StandsWith xs) h)
items_stand xs d (y ∷ ys) s a h =
    then_leads (ItemLeaves y s) (StandsWith xs) (item_leaves d y s h.ordered.beside)
    (λ u l t w. items_stand xs d ys u (λ z i. a z (there z i)) (item_stands s u y (a y here) l h) t w)
  where
    here : Contains (y ∷ ys) y
    here = (0, omega arith, refl)

    there : (z : Item) → Contains ys z → Contains (y ∷ ys) z
    there z i = let l = i.1 in (suc i.0, omega (arith, l), i.2)
