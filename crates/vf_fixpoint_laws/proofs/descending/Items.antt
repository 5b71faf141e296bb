-- What stands behind the items of a unit.
use Rattle.std.proofs.Common.{◌≡◌, refl, sym, ap, subst, ◌∙◌, ℕ, zero, suc, List, [], ◌∷◌, ◌++◌, length, append_assoc, append-nil, Option, Some, None, Ok, Bool, true, false, if◌then◌else◌, arith}
use Rattle.std.specs.Prelude.{Contains, slice_get}
use Rattle.std.specs.Str.{bytes_eq}
use Rattle.std.proofs.lemmas.Slice.Eq.{bytes_eq-Decides}
use Rattle.vf_syntax.specs.declared.contract.Contract.{Contract}
use Rattle.vf_syntax.specs.declared.contract.Invariant.{Invariant}
use Rattle.vf_syntax.specs.declared.item.Constructor.{Constructor as WrittenConstructor}
use Rattle.vf_syntax.specs.declared.item.GhostForm.{GhostForm}
use Rattle.vf_syntax.specs.declared.item.GhostForm.TheVariants as forms
use Rattle.vf_syntax.specs.declared.item.Item.{Item}
use Rattle.vf_syntax.specs.declared.item.Item.TheVariants as items
use Rattle.vf_syntax.specs.declared.written.Name.{Name}
use Rattle.vf_syntax.specs.AssertionTree.{part_list}
use Rattle.vf_syntax.specs.GhostCommandTree.{GhostCommandTree}
use Rattle.vf_declared.specs.declared.scope.Scope.{Scope}
use Rattle.vf_sorting.specs.declared.context.Context.{Context}
use Rattle.vf_asserting.specs.Leaving.{count}
use Rattle.vf_datatypes.specs.declared.stated.Stated.{Stated}
use Rattle.vf_datatypes.specs.Datatypes.{datatype_behind}
use Rattle.vf_heads.specs.Heads.{family_behind, fixpoint_behind}
use Rattle.vf_walk.specs.Items.{WalksItem, WalksItems, struct_, struct_walked}
use Rattle.vf_contracts.specs.Comes as contracts
use Rattle.vf_commands.specs.declared.around.Around.{Around}
use Rattle.vf_commands.specs.Comes as commands
use Rattle.vf_annotations.specs.Forms.{FormComes, meanings}
use Rattle.vf_resolve.specs.declared.files.Files.{Files}
use Rattle.vf_resolve.specs.Beginning.{beginning}
use Rattle.vf_resolve.specs.Units.{ItemsCome}
use Rattle.vf_defining.specs.Units.{Written, written_form, written_in}
use Rattle.vf_recursion.specs.Faults.{constructors_at, constructors_in, names_of}
use Rattle.vf_erasure_laws.proofs.hidden.Coming.{Leads, ok_comes, only_leads, then_leads}
use Rattle.vf_erasure_laws.proofs.hidden.Giving.{command, contract, parts}
use Rattle.vf_fixpoint_laws.proofs.definable.Extending.{Keeps}
use Rattle.vf_fixpoint_laws.proofs.definable.Functions.{IsBeside, fields_beside, struct_beside}
use Rattle.vf_fixpoint_laws.proofs.definable.Parts.{keeps_kept}
use Rattle.vf_fixpoint_laws.proofs.definable.Statements.{AreOrderly}
use Rattle.vf_fixpoint_laws.proofs.descending.Building.{Builds, builds_more, datatype_built}
use Rattle.vf_fixpoint_laws.proofs.descending.FunctionItems.{definition_adds, function_type_adds, prototype_adds}
use Rattle.vf_fixpoint_laws.proofs.descending.GhostItems.{constructor_adds, equations_keep, family_adds, fixpoint_adds, instance_adds, lemma_adds, lemma_prototype_adds, predicate_adds, predicate_body_adds}
use Rattle.vf_fixpoint_laws.proofs.descending.Heads.{HasHead, IsHead, fixpoint_head, has_head}
use Rattle.vf_fixpoint_laws.proofs.descending.Levels.{Adds, Level, More, adds_kept, level, level_kept, more_both, more_itself}
use Rattle.vf_fixpoint_laws.proofs.descending.Lists.{none_some, some_same}
use Rattle.vf_fixpoint_laws.proofs.descending.Standing.{NamesDatatype, NamesNone, Stands, stands_datatype, stands_other}

meanings_orderly : (d : Stated) → AreOrderly (meanings d)
meanings_orderly d = record { contract = λ o c s t h. of_contract h; invariant = λ file i s t h. of_invariant h; command = λ c s t h. of_command h }
  where
    of_contract : {c k : Context} {x : Contract} {s t : Scope} → contracts.ContractComes c k x s (Ok t) → Keeps s t
    of_contract (contracts.given g) = contract keeps_kept g

    of_invariant : {x : Invariant} {s t : Scope} → contracts.InvariantComes x s (Ok t) → Keeps s t
    of_invariant (contracts.given g) = parts keeps_kept g

    of_command : {w : Around} {x : GhostCommandTree} {s t : Scope} → commands.CommandComes w x s (Ok t) → Keeps s t
    of_command (commands.given g) = command keeps_kept g

-- ---- one item
-- the fixpoint that something is, if it is one, has its head
abbrev pub MayHaveHead : Option Written → Scope → Type 0
MayHaveHead o t = (w : Written) → o ≡ Some w → HasHead w t

-- behind an item there stands what stood before it and what it declares; a fixpoint has its head in all that comes
record Leaves (xs : List Item) (x : Item) (s t : Scope) : Type 0 where
  stands : Stands (xs ++ x ∷ []) t
  more : More (level s) (level t)
  head : (u : Scope) → More (level t) (level u) → MayHaveHead (written_in x) u

-- an item that declares other things than datatypes and fixpoints
other_leaves : (xs : List Item) (x : Item) (s : Scope) → Stands xs s → NamesNone x → written_in x ≡ None → (t : Scope) → Adds s t → Leaves xs x s t
other_leaves xs x s h none other t a = record { stands = stands_other x none h a; more = a.more; head = λ u m w e. absurd (none_some (sym other ∙ e)) }

-- an item names the constructors of a datatype
datatype_named : (n : Name) (cs : List WrittenConstructor) (x : Item) → ((y : List ℕ) → constructors_at y x ≡ (if bytes_eq y n.text then Some (names_of cs) else None)) → NamesDatatype n cs x
datatype_named n cs x names = record {
  same = names n.text ∙ ap (λ d. if d then Some (names_of cs) else None) ((bytes_eq-Decides n.text n.text).1 refl);
  only = λ y L e. by y (bytes_eq y n.text) refl L (sym (names y) ∙ e);
}
  where
    by : (y : List ℕ) (d : Bool) → bytes_eq y n.text ≡ d → (L : List (List ℕ)) → (if d then Some (names_of cs) else None) ≡ Some L → y ≡ n.text
    by y true q L e = (bytes_eq-Decides y n.text).0 q
    by y false q L e = absurd (none_some e)

datatype_leaves : (xs : List Item) (x : Item) (n : Name) (cs : List WrittenConstructor) (s : Scope) → Stands xs s → NamesDatatype n cs x → written_in x ≡ None → (t : Scope) → Builds n cs s t → Leaves xs x s t
datatype_leaves xs x n cs s h its other t b = record { stands = stands_datatype n cs x its xs s t h b; more = builds_more b; head = λ u m w e. absurd (none_some (sym other ∙ e)) }

fixpoint_leaves : (xs : List Item) (x : Item) (w : Written) (s u t : Scope) → Stands xs s → NamesNone x → written_in x ≡ Some w → IsHead w.name w.parameters s u → Keeps u t → Adds s t → Leaves xs x s t
fixpoint_leaves xs x w s u t h none is head k a = record {
  stands = stands_other x none h a;
  more = a.more;
  head = λ v m z e. subst (λ (y : Written). HasHead y v) (some_same (sym is ∙ e)) (has_head w s u v h.orderly head (subst (λ (c : Level). More c (level v)) (level_kept k) m));
}

-- a form of an item, which names the constructors and is the fixpoint that the form is
record IsForm (f : GhostForm) (x : Item) : Type 0 where
  names : (y : List ℕ) → constructors_at y x ≡ constructors_in y f
  written : written_in x ≡ written_form f

form_leaves : (d : Stated) (xs : List Item) (x : Item) (s : Scope) → Stands xs s → (f : GhostForm) → IsForm f x → Leads (Leaves xs x s) (FormComes d f s)
form_leaves d xs x s h (forms.Inductive n ns b cs) i t w = datatype_leaves xs x n cs s h (datatype_named n cs x i.names) i.written t (only_leads (Builds n cs s) (datatype_behind d n ns cs s) (datatype_built d n ns cs s) t w)
form_leaves d xs x s h (forms.Fixpoint y n ns gs b) i t w =
    then_leads (IsHead n gs s) (λ v. Adds s v → Leaves xs x s v) (only_leads (IsHead n gs s) (fixpoint_behind y n ns gs s) (fixpoint_head y n ns gs s))
    (λ u j v e. fixpoint_leaves xs x (record { name = n; parameters = gs; body = b }) s u v h i.names i.written j (equations_keep (count s) (length s.ghosts) b u v e)) t w
    (fixpoint_adds y n ns gs b s t w)
form_leaves d xs x s h (forms.Predicate n gs) i t w = other_leaves xs x s h i.names i.written t (predicate_adds n gs s t w)
form_leaves d xs x s h (forms.PredicateBody n gs a) i t w = other_leaves xs x s h i.names i.written t (predicate_body_adds n gs (part_list a) s t w)
form_leaves d xs x s h (forms.Family n j gs) i t w = other_leaves xs x s h i.names i.written t (only_leads (Adds s) (family_behind n j gs s) (family_adds n j gs s) t w)
form_leaves d xs x s h (forms.Instance f g gs a) i t w = other_leaves xs x s h i.names i.written t (instance_adds f g gs (part_list a) s t w)
form_leaves d xs x s h (forms.PredicateConstructor n fs gs a) i t w = other_leaves xs x s h i.names i.written t (constructor_adds n fs gs (part_list a) s t w)
form_leaves d xs x s h (forms.LemmaPrototype n ns gs c) i t w = other_leaves xs x s h i.names i.written t (lemma_prototype_adds n ns gs c s t w)
form_leaves d xs x s h (forms.Lemma n ns gs c b) i t w = other_leaves xs x s h i.names i.written t (lemma_adds n ns gs c b s t w)

item_leaves : (d : Stated) (xs : List Item) (x : Item) (s : Scope) → Stands xs s → Leads (Leaves xs x s) (WalksItem (meanings d) x s)
item_leaves d xs (items.Opaque p n) s h t w = other_leaves xs (items.Opaque p n) s h (λ y. refl) refl t (adds_kept (only_leads (IsBeside s) (struct_ n true s) (struct_beside n true s) t w).keeps)
item_leaves d xs (items.Struct p n fs) s h t w = other_leaves xs (items.Struct p n fs) s h (λ y. refl) refl t (adds_kept (only_leads (IsBeside s) (struct_walked n fs s) (fields_beside n fs s) t w).keeps)
item_leaves d xs (items.FunctionType p g c) s h t w = other_leaves xs (items.FunctionType p g c) s h (λ y. refl) refl t (function_type_adds (meanings d) (meanings_orderly d) g c s t w)
item_leaves d xs (items.Prototype g k c) s h t w = other_leaves xs (items.Prototype g k c) s h (λ y. refl) refl t (prototype_adds (meanings d) (meanings_orderly d) g c s t w)
item_leaves d xs (items.Function g k c b) s h t w = other_leaves xs (items.Function g k c b) s h (λ y. refl) refl t (definition_adds (meanings d) (meanings_orderly d) g c b s t w)
item_leaves d xs (items.Ghost a) s h t w = form_leaves d xs (items.Ghost a) s h a.form (record { names = λ y. refl; written = refl }) t w

-- ---- all items
-- behind items there stands what they declare, and each fixpoint among them has its head
pub record AllStand (before xs : List Item) (s t : Scope) : Type 0 where
  pub stands : Stands (before ++ xs) t
  pub more : More (level s) (level t)
  pub heads : (x : Item) → Contains xs x → MayHaveHead (written_in x) t

items_stand : (d : Stated) (xs before : List Item) (s : Scope) → Stands before s → Leads (AllStand before xs s) (WalksItems (meanings d) xs s)
items_stand d [] before s h =
    only_leads (AllStand before [] s) (Ok s) (ok_comes (AllStand before [] s) (record { stands = subst (λ ys. Stands ys s) (sym (append-nil before)) h; more = more_itself (level s); heads = λ x c. absurd (let l = c.1 in omega (arith, l)) }))
items_stand d (x ∷ xs) before s h =
    then_leads (Leaves before x s) (AllStand before (x ∷ xs) s) (item_leaves d before x s h)
    (λ u l t w. let r = items_stand d xs (before ++ x ∷ []) u l.stands t w in
    record {
      stands = subst (λ ys. Stands ys t) (append_assoc before (x ∷ []) xs) r.stands;
      more = more_both l.more r.more;
      heads = λ y c. either l r y c;
    })
  where
    either : {u t : Scope} → Leaves before x s u → AllStand (before ++ x ∷ []) xs u t → (y : Item) → Contains (x ∷ xs) y → MayHaveHead (written_in y) t
    either {u} {t} l r y (zero, c, is) = subst (λ z. MayHaveHead (written_in z) t) is (l.head t r.more)
    either l r y (suc k, c, is) = r.heads y (k, omega (arith, c), is)

none_get : (k : ℕ) (y : List ℕ) → slice_get [] k ≡ Some y → ⊥
none_get k y e = cc

pub unit_stands : (f : Files) (xs : List Item) (s : Scope) → ItemsCome xs (beginning f xs) (Ok s) → AllStand [] xs (beginning f xs) s
unit_stands f xs s c = items_stand c.stated xs [] (beginning f xs) first s c.walks
  where
    first : Stands [] (beginning f xs)
    first = record { orderly = record { beside = refl; fresh = tt }; whole = tt; declared = λ y L e. absurd (none_some e); named = λ y z d k p q e. absurd (none_get p.place y p.named) }
