-- The bodies of fixpoints of an accepted unit are accepted where more is declared.
use Rattle.std.proofs.Common.{◌≡◌, refl, sym, subst, ◌∙◌, ap, ℕ, ◌+◌, ◌≤◌, List, [], ◌∷◌, length, length-append, Option, Some, None, Result, Ok, Err, arith}
use Rattle.vf_base.specs.declared.refusal.Refusal.{Refusal}
use Rattle.vf_declared.specs.declared.declaration.Fixpoint.{Fixpoint}
use Rattle.vf_declared.specs.declared.declaration.GhostDeclaration.TheVariants as ghosts
use Rattle.vf_declared.specs.declared.declaration.Meaning.TheVariants as names
use Rattle.vf_declared.specs.declared.scope.Scope.{Scope}
use Rattle.vf_declared.specs.Beginning.{no_locals}
use Rattle.vf_declared.specs.Scopes.{declaration_of, ghost_of}
use Rattle.vf_syntax.specs.declared.item.FixpointBody.{FixpointBody}
use Rattle.vf_syntax.specs.declared.item.GhostForm.{GhostForm}
use Rattle.vf_syntax.specs.declared.item.GhostForm.TheVariants as forms
use Rattle.vf_syntax.specs.declared.item.GhostParameter.{GhostParameter}
use Rattle.vf_syntax.specs.declared.item.Item.{Item}
use Rattle.vf_syntax.specs.declared.item.Item.TheVariants as items
use Rattle.vf_syntax.specs.declared.written.Name.{Name}
use Rattle.vf_syntax.specs.SortTree.{SortTree}
use Rattle.vf_asserting.specs.Leaving.{count}
use Rattle.vf_datatypes.specs.declared.stated.Stated.{Stated}
use Rattle.vf_heads.specs.Heads.{fixpoint_behind}
use Rattle.vf_walk.specs.Items.{WalksItem, WalksItems}
use Rattle.vf_equations.specs.Fixpoints.{EquationsCome, FixpointComes}
use Rattle.vf_annotations.specs.Forms.{FormComes, meanings}
use Rattle.vf_resolve.specs.Beginning.{beginning}
use Rattle.vf_order_laws.proofs.walk.EquationsCome.{equations_come}
use Rattle.vf_defining.specs.Symbols.{without_locals}
use Rattle.vf_defining.specs.Units.{AnyIsRefused, Written, within_fixpoint, written_form, written_in}
use Rattle.vf_defining.specs.Units as units
use Rattle.vf_defining.specs.UpTo.{up_to}
use Rattle.vf_erasure_laws.proofs.hidden.Coming.{Leads, none_some, ok_comes, only_leads, then_leads}
use Rattle.vf_fixpoint_laws.specs.definable.Files.{SeesThrough}
use Rattle.vf_fixpoint_laws.specs.definable.Laws.{AcceptedUnitsAreDefined, EquationsArePreserved, SortsArePreserved}
use Rattle.vf_fixpoint_laws.proofs.definable.Equations.{equations_kept}
use Rattle.vf_fixpoint_laws.proofs.definable.Extending.{AreOf, Grows, are_both, are_wider, grows_behind, grows_both, grows_kept, grows_wider, keeps_same, sees_kept}
use Rattle.vf_fixpoint_laws.proofs.definable.Ghosts.{IsHead, equations_clear, fixpoint_head}
use Rattle.vf_fixpoint_laws.proofs.definable.Items.{Leaves, item_leaves}
use Rattle.vf_fixpoint_laws.proofs.definable.Naming.{any_of_body}
use Rattle.vf_fixpoint_laws.proofs.definable.Seeing.{meaning_with}
use Rattle.vf_fixpoint_laws.proofs.definable.Sorting.{sort_kept}
use Rattle.vf_fixpoint_laws.proofs.definable.UpTo.{IsBetween, is_itself, own_ghost, shorter_datatypes, shorter_preserves}

pub sorts_are_preserved : SortsArePreserved
sorts_are_preserved ns s t c k k' e u h n a = sort_kept h n a

pub equations_are_preserved : EquationsArePreserved
equations_are_preserved ns s t u l m n f b h j g y a = equations_kept h j l m n f g b u y a

-- ---- between items
more_datatypes : {m : ℕ} {s t : Scope} → Grows m s t → length s.datatypes ≤ length t.datatypes
more_datatypes {s = s} {t = t} g =
    let e : length t.datatypes ≡ length s.datatypes + length g.extends.more_datatypes = ap length g.extends.datatypes ∙ length-append s.datatypes g.extends.more_datatypes in
    omega (arith, e)

between_next : {s t : Scope} → IsBetween s → Leaves s t → IsBetween t
between_next {s = s} {t = t} b l =
    let x = l.grows.extends in
    record {
      locals = l.locals;
      beside = x.beside b.beside;
      whole = subst (AreOf (length t.datatypes)) (sym x.ghosts) (are_both (length t.datatypes) s.ghosts x.more_ghosts (are_wider (more_datatypes l.grows) s.ghosts b.whole) x.of);
    }

-- what items leave grows to the end
abbrev GrowsTo : Scope → Scope → Type 0
GrowsTo s t = Grows (length t.datatypes) s t

items_grow : (d : Stated) (xs : List Item) (s : Scope) → SeesThrough s → IsBetween s → Leads (GrowsTo s) (WalksItems (meanings d) xs s)
items_grow d [] s v b = only_leads (GrowsTo s) (Ok s) (ok_comes (GrowsTo s) (grows_kept (length s.datatypes) (keeps_same s)))
items_grow d (x ∷ xs) s v b =
    then_leads (Leaves s) (GrowsTo s) (item_leaves d x s v b.locals)
    (λ u l t w. let g = items_grow d xs u (sees_kept l.grows v) (between_next b l) t w in grows_both (grows_wider (more_datatypes g) l.grows) g)

-- ---- fixpoints
not_both : {A : Type 0} {r : Result A Refusal} {a : A} {x : Refusal} → r ≡ Ok a → r ≡ Err x → ⊥
not_both e f = apart (sym e ∙ f)
  where
    apart : {A : Type 0} {a : A} {x : Refusal} → ◌≡◌ {A = Result A Refusal} (Ok a) (Err x) → ⊥
    apart e = cc

-- the body of a fixpoint is refused where its parameters are the locals
abbrev Refused : List GhostParameter → FixpointBody → Refusal → Scope → ℕ → Fixpoint → Type 0
Refused gs c r t k f = EquationsCome (count (within_fixpoint t gs f.arguments)) k (within_fixpoint t gs f.arguments) c (Err r)

-- it is not refused with the names that are declared up to it
abbrev StaysAt : Name → List GhostParameter → FixpointBody → Scope → ℕ → Fixpoint → Type 0
StaysAt n gs c t k f = (r : Refusal) → Refused gs c r (up_to n t) k f → ⊥

body_stays : (n : Name) (gs : List GhostParameter) (c : FixpointBody) (s u v t : Scope) (m : ℕ) → IsBetween s → IsHead n gs s u → EquationsCome (count s) (length s.ghosts) u c (Ok v) → Grows m u t → (k : ℕ) (f : Fixpoint) → declaration_of t n.text n.place.file ≡ Some (names.Ghost k) → ghost_of t k ≡ Some (ghosts.Fixpoint f) → StaysAt n gs c t k f
body_stays n gs c s u v t m b h e g k f i j =
    let own = is_itself n gs s u t m b h g k f i j in
    subst (λ k. StaysAt n gs c t k f) own.0 (subst (λ f. StaysAt n gs c t (length s.ghosts) f) own.1 it)
  where
    up : Scope
    up = within_fixpoint (up_to n t) gs h.fixpoint.arguments

    it : StaysAt n gs c t (length s.ghosts) h.fixpoint
    it r a = not_both (equations_come (equations_kept (shorter_preserves n gs s u t m b h g) (shorter_datatypes n gs s u t m b h g) (count s) (count up) (length s.ghosts) h.fixpoint (own_ghost n gs s u t m b h g) c v (any_of_body u.locals.names c) e).1) (equations_come a)

-- what a fixpoint leads to: its body is not refused behind the whole unit with the names that are declared up to it
abbrev StaysAccepted : Name → List GhostParameter → FixpointBody → Scope → Type 0
StaysAccepted n gs c v = (t : Scope) → GrowsTo v t → (k : ℕ) (f : Fixpoint) → declaration_of t n.text n.place.file ≡ Some (names.Ghost k) → ghost_of t k ≡ Some (ghosts.Fixpoint f) → StaysAt n gs c t k f

fixpoint_stays : (y : SortTree) (n : Name) (ns : List Name) (gs : List GhostParameter) (c : FixpointBody) (s : Scope) → IsBetween s → Leads (StaysAccepted n gs c) (FixpointComes y n ns gs c s)
fixpoint_stays y n ns gs c s b =
    then_leads (IsHead n gs s) (StaysAccepted n gs c) (only_leads (IsHead n gs s) (fixpoint_behind y n ns gs s) (fixpoint_head y n ns gs s))
    (λ u h v e t g k f i j. body_stays n gs c s u v t (length t.datatypes) b h e (grows_behind (equations_clear s b.locals (length s.ghosts) c u v e).keeps g) k f i j)

-- ---- items
some_same : {A : Type 0} {a b : A} → ◌≡◌ {A = Option A} (Some a) (Some b) → a ≡ b
some_same e = cc

-- the body of what an item is stays accepted
abbrev BodyStays : Scope → Option Written → Type 0
BodyStays v o = (w : Written) → o ≡ Some w → StaysAccepted w.name w.parameters w.body v

no_body : (v : Scope) → BodyStays v None
no_body v w e = absurd (none_some e)

form_stays : (d : Stated) (x : GhostForm) (s : Scope) → IsBetween s → Leads (λ v. BodyStays v (written_form x)) (FormComes d x s)
form_stays d (forms.Fixpoint y n ns gs c) s b v h = λ w e. subst (λ (w : Written). StaysAccepted w.name w.parameters w.body v) (some_same e) (fixpoint_stays y n ns gs c s b v h)
form_stays d (forms.Inductive n ns p cs) s b v h = no_body v
form_stays d (forms.Predicate n gs) s b v h = no_body v
form_stays d (forms.PredicateBody n gs x) s b v h = no_body v
form_stays d (forms.Family n i gs) s b v h = no_body v
form_stays d (forms.Instance f g gs x) s b v h = no_body v
form_stays d (forms.PredicateConstructor n fs gs x) s b v h = no_body v
form_stays d (forms.LemmaPrototype n ns gs c) s b v h = no_body v
form_stays d (forms.Lemma n ns gs c y) s b v h = no_body v

item_stays : (d : Stated) (x : Item) (s : Scope) → IsBetween s → Leads (λ v. BodyStays v (written_in x)) (WalksItem (meanings d) x s)
item_stays d (items.Opaque p n) s b v h = no_body v
item_stays d (items.Struct p n xs) s b v h = no_body v
item_stays d (items.FunctionType p g c) s b v h = no_body v
item_stays d (items.Prototype g k c) s b v h = no_body v
item_stays d (items.Function g k c y) s b v h = no_body v
item_stays d (items.Ghost x) s b v h = form_stays d x.form s b v h

-- no body is refused with the names that are declared up to its fixpoint
abbrev NoneIsRefused : List Item → Scope → Type 0
NoneIsRefused xs t = (r : Refusal) → AnyIsRefused (without_locals t) xs r → ⊥

-- an item leaves something, and its body stays accepted
record LeavesBody (x : Item) (s v : Scope) : Type 0 where
  leaves : Leaves s v
  stays : BodyStays v (written_in x)

item_refused : {x : Item} {xs : List Item} {s v t : Scope} → LeavesBody x s v → GrowsTo v t → NoneIsRefused xs t → (r : Refusal) → AnyIsRefused (without_locals t) (x ∷ xs) r → ⊥
item_refused {t = t} h g k r (units.this_item (units.its_body {w = w} {n = n} {f = f} e i a)) = h.stays w e t g n f (sym (meaning_with t no_locals w.name.text w.name.place.file) ∙ i.means) i.is r a
item_refused h g k r (units.later_item a) = k r a

none_at_all : {t : Scope} {r : Refusal} {xs : List Item} → AnyIsRefused t xs r → xs ≡ [] → ⊥
none_at_all (units.this_item a) e = absurd cc
none_at_all (units.later_item a) e = absurd cc

none_refused : (d : Stated) (xs : List Item) (s : Scope) → SeesThrough s → IsBetween s → Leads (NoneIsRefused xs) (WalksItems (meanings d) xs s)
none_refused d [] s o b = λ t h r a. none_at_all a refl
none_refused d (x ∷ xs) s o b =
    then_leads (LeavesBody x s) (NoneIsRefused (x ∷ xs)) (λ v h. record { leaves = item_leaves d x s o b.locals v h; stays = item_stays d x s b v h })
    (λ v l t w.
    let p = sees_kept l.leaves.grows o in
    let c = between_next b l.leaves in
    let g = items_grow d xs v p c t w in
    let k = none_refused d xs v p c t w in
    λ r a. item_refused l g k r a)

pub accepted_units_are_defined : AcceptedUnitsAreDefined
accepted_units_are_defined f xs s r v c a = none_refused c.stated xs (beginning f xs) v (record { locals = refl; beside = refl; whole = tt }) s c.walks r a
