-- No two items of an accepted unit are fixpoints of one name.
use Rattle.std.proofs.Common.{◌≡◌, refl, sym, subst, ap, ◌∙◌, ℕ, zero, suc, true, List, [], ◌∷◌, length, Option, Some, None, Ok, arith}
use Rattle.std.specs.Prelude.{Contains}
use Rattle.vf_names.specs.Names.{number_of}
use Rattle.vf_names.proofs.Numbering.{number_of-push}
use Rattle.vf_syntax.specs.declared.contract.Contract.{Contract}
use Rattle.vf_syntax.specs.declared.contract.Invariant.{Invariant}
use Rattle.vf_syntax.specs.declared.item.GhostForm.{GhostForm}
use Rattle.vf_syntax.specs.declared.item.GhostForm.TheVariants as forms
use Rattle.vf_syntax.specs.declared.item.Item.{Item}
use Rattle.vf_syntax.specs.declared.item.Item.TheVariants as items
use Rattle.vf_syntax.specs.AssertionTree.{part_list}
use Rattle.vf_syntax.specs.GhostCommandTree.{GhostCommandTree}
use Rattle.vf_declared.specs.declared.scope.Scope.{Scope}
use Rattle.vf_sorting.specs.declared.context.Context.{Context}
use Rattle.vf_asserting.specs.Leaving.{count}
use Rattle.vf_datatypes.specs.declared.stated.Stated.{Stated}
use Rattle.vf_datatypes.specs.Datatypes.{datatype_behind}
use Rattle.vf_heads.specs.Heads.{family_behind, fixpoint_behind}
use Rattle.vf_walk.specs.Items.{WalksItem, WalksItems, struct_, struct_walked}
use Rattle.vf_contracts.specs.Comes as contracts
use Rattle.vf_commands.specs.declared.around.Around.{Around}
use Rattle.vf_commands.specs.Comes as commands
use Rattle.vf_annotations.specs.Forms.{FormComes, meanings}
use Rattle.vf_resolve.specs.declared.files.Files.{Files}
use Rattle.vf_resolve.specs.Beginning.{beginning}
use Rattle.vf_resolve.specs.Units.{ItemsCome}
use Rattle.vf_defining.specs.Units.{Written, written_form, written_in}
use Rattle.vf_erasure_laws.proofs.hidden.Coming.{Leads, only_leads, then_leads}
use Rattle.vf_erasure_laws.proofs.hidden.Giving.{command, contract, parts}
use Rattle.vf_fixpoint_laws.proofs.definable.Extending.{Keeps}
use Rattle.vf_fixpoint_laws.proofs.definable.Functions.{fields_beside, struct_beside}
use Rattle.vf_fixpoint_laws.proofs.definable.Lists.{number_front}
use Rattle.vf_fixpoint_laws.proofs.definable.Parts.{keeps_kept}
use Rattle.vf_fixpoint_laws.proofs.definable.Statements.{AreOrderly}
use Rattle.vf_fixpoint_laws.proofs.descending.Building.{Builds, builds_more, datatype_built}
use Rattle.vf_fixpoint_laws.proofs.descending.FunctionItems.{definition_adds, function_type_adds, prototype_adds}
use Rattle.vf_fixpoint_laws.proofs.descending.GhostItems.{constructor_adds, equations_keep, family_adds, fixpoint_adds, instance_adds, lemma_adds, lemma_prototype_adds, predicate_adds, predicate_body_adds}
use Rattle.vf_fixpoint_laws.proofs.descending.Heads.{IsHead, fixpoint_head}
use Rattle.vf_fixpoint_laws.proofs.descending.Levels.{Adds, Level, More, adds_kept, level, level_kept}
use Rattle.vf_fixpoint_laws.proofs.descending.Lists.{none_some, some_same}

-- no item behind is a fixpoint of the same name
abbrev IsLast : Written → List Item → Type 0
IsLast w xs = (y : Item) (v : Written) → Contains xs y → written_in y ≡ Some v → v.name.text ≡ w.name.text → ⊥

-- each fixpoint among items is the only one of its name
abbrev pub EachIsOnce : List Item → Type 0
EachIsOnce [] = Unit {0}
EachIsOnce (x ∷ xs) = ((w : Written) → written_in x ≡ Some w → IsLast w xs) × EachIsOnce xs

-- a name is declared
abbrev IsThere : Scope → List ℕ → Type 0
IsThere s x = (k : ℕ) × (number_of s.names x ≡ Some k)

meanings_orderly : (d : Stated) → AreOrderly (meanings d)
meanings_orderly d = record { contract = λ o c s t h. of_contract h; invariant = λ file i s t h. of_invariant h; command = λ c s t h. of_command h }
  where
    of_contract : {c k : Context} {x : Contract} {s t : Scope} → contracts.ContractComes c k x s (Ok t) → Keeps s t
    of_contract (contracts.given g) = contract keeps_kept g

    of_invariant : {x : Invariant} {s t : Scope} → contracts.InvariantComes x s (Ok t) → Keeps s t
    of_invariant (contracts.given g) = parts keeps_kept g

    of_command : {w : Around} {x : GhostCommandTree} {s t : Scope} → commands.CommandComes w x s (Ok t) → Keeps s t
    of_command (commands.given g) = command keeps_kept g

-- ---- one item
-- behind an item there is more; the name of a fixpoint was not declared before it, and is behind it
record Goes (o : Option Written) (s t : Scope) : Type 0 where
  more : More (level s) (level t)
  new : (w : Written) → o ≡ Some w → (number_of s.names w.name.text ≡ None) × IsThere t w.name.text

-- what was declared is declared where there is more
still_there : (s t : Scope) → More (level s) (level t) → (x : List ℕ) → IsThere s x → IsThere t x
still_there s t m x h = (h.0, ap (λ xs. number_of xs x) m.names ∙ number_front s.names m.more_names x h.0 h.1)

other_goes : {s t : Scope} {o : Option Written} → o ≡ None → More (level s) (level t) → Goes o s t
other_goes none m = record { more = m; new = λ w is. absurd (none_some (sym none ∙ is)) }

fixpoint_goes : (w : Written) (s u t : Scope) → IsHead w.name w.parameters s u → Keeps u t → Adds s t → Goes (Some w) s t
fixpoint_goes w s u t head k a = record {
  more = a.more;
  new = λ v is. subst (λ (z : Written). (number_of s.names z.name.text ≡ None) × IsThere t z.name.text) (some_same is)
      (head.new, (length s.names, ap (λ (c : Level). number_of c.names w.name.text) (level_kept k ∙ head.is) ∙ number_of-push s.names w.name.text head.new));
}

form_goes : (d : Stated) (s : Scope) (f : GhostForm) → Leads (Goes (written_form f) s) (FormComes d f s)
form_goes d s (forms.Inductive n ns b cs) t w = other_goes refl (builds_more (only_leads (Builds n cs s) (datatype_behind d n ns cs s) (datatype_built d n ns cs s) t w))
form_goes d s (forms.Fixpoint y n ns gs b) t w =
    then_leads (IsHead n gs s) (λ v. Adds s v → Goes (Some (record { name = n; parameters = gs; body = b })) s v) (only_leads (IsHead n gs s) (fixpoint_behind y n ns gs s) (fixpoint_head y n ns gs s))
    (λ u j v e. fixpoint_goes (record { name = n; parameters = gs; body = b }) s u v j (equations_keep (count s) (length s.ghosts) b u v e)) t w
    (fixpoint_adds y n ns gs b s t w)
form_goes d s (forms.Predicate n gs) t w = other_goes refl (predicate_adds n gs s t w).more
form_goes d s (forms.PredicateBody n gs a) t w = other_goes refl (predicate_body_adds n gs (part_list a) s t w).more
form_goes d s (forms.Family n j gs) t w = other_goes refl (only_leads (Adds s) (family_behind n j gs s) (family_adds n j gs s) t w).more
form_goes d s (forms.Instance f g gs a) t w = other_goes refl (instance_adds f g gs (part_list a) s t w).more
form_goes d s (forms.PredicateConstructor n fs gs a) t w = other_goes refl (constructor_adds n fs gs (part_list a) s t w).more
form_goes d s (forms.LemmaPrototype n ns gs c) t w = other_goes refl (lemma_prototype_adds n ns gs c s t w).more
form_goes d s (forms.Lemma n ns gs c b) t w = other_goes refl (lemma_adds n ns gs c b s t w).more

item_goes : (d : Stated) (x : Item) (s : Scope) → Leads (Goes (written_in x) s) (WalksItem (meanings d) x s)
item_goes d (items.Opaque p n) s t w = other_goes refl (adds_kept (only_leads _ (struct_ n true s) (struct_beside n true s) t w).keeps).more
item_goes d (items.Struct p n fs) s t w = other_goes refl (adds_kept (only_leads _ (struct_walked n fs s) (fields_beside n fs s) t w).keeps).more
item_goes d (items.FunctionType p g c) s t w = other_goes refl (function_type_adds (meanings d) (meanings_orderly d) g c s t w).more
item_goes d (items.Prototype g k c) s t w = other_goes refl (prototype_adds (meanings d) (meanings_orderly d) g c s t w).more
item_goes d (items.Function g k c b) s t w = other_goes refl (definition_adds (meanings d) (meanings_orderly d) g c b s t w).more
item_goes d (items.Ghost a) s t w = form_goes d s a.form t w

-- ---- all items
-- the names of fixpoints among items are not declared before, and each is the only one of its name
record AreNew (xs : List Item) (s : Scope) : Type 0 where
  new : (y : Item) (w : Written) → Contains xs y → written_in y ≡ Some w → IsThere s w.name.text → ⊥
  once : EachIsOnce xs

new_more : {x : Item} {xs : List Item} {s u : Scope} → Goes (written_in x) s u → AreNew xs u → AreNew (x ∷ xs) s
new_more {x = x} {xs = xs} {s = s} {u = u} g r = record {
  new = new_at;
  once = ((λ w is y v there is' same. r.new y v there is' (subst (IsThere u) (sym same) (g.new w is).1)), r.once);
}
  where
    new_at : (y : Item) (w : Written) → Contains (x ∷ xs) y → written_in y ≡ Some w → IsThere s w.name.text → ⊥
    new_at y w (zero, l, same) is h = none_some (sym (g.new w (ap written_in same ∙ is)).0 ∙ h.1)
    new_at y w (suc k, l, same) is h = r.new y w (k, omega (arith, l), same) is (still_there s u g.more w.name.text h)

items_new : (d : Stated) (xs : List Item) (s : Scope) → Leads (λ (t : Scope). AreNew xs s) (WalksItems (meanings d) xs s)
items_new d [] s = λ t w. record { new = λ y w there. absurd (let l = there.1 in omega (arith, l)); once = tt }
items_new d (x ∷ xs) s = then_leads (Goes (written_in x) s) (λ (t : Scope). AreNew (x ∷ xs) s) (item_goes d x s) (λ u g t w. new_more g (items_new d xs u t w))

pub each_once : (f : Files) (xs : List Item) (s : Scope) → ItemsCome xs (beginning f xs) (Ok s) → EachIsOnce xs
each_once f xs s h = (items_new h.stated xs (beginning f xs) s h.walks).once
