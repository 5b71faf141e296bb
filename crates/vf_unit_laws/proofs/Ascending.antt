-- The names of the fixpoints of a unit are numbered in the order of its items.
use Rattle.std.proofs.Common.{◌≡◌, refl, sym, subst, ap, ◌∙◌, ℕ, zero, suc, ◌≤◌, true, List, [], ◌∷◌, length, Option, Some, None, Ok, arith}
use Rattle.std.specs.Prelude.{◌<◌, Contains}
use Rattle.vf_names.specs.Names.{number_of}
use Rattle.vf_names.proofs.Numbering.{number_of-push}
use Rattle.vf_syntax.specs.declared.contract.Contract.{Contract}
use Rattle.vf_syntax.specs.declared.contract.Invariant.{Invariant}
use Rattle.vf_syntax.specs.declared.item.GhostForm.{GhostForm}
use Rattle.vf_syntax.specs.declared.item.GhostForm.TheVariants as forms
use Rattle.vf_syntax.specs.declared.item.Item.{Item}
use Rattle.vf_syntax.specs.declared.item.Item.TheVariants as items
use Rattle.vf_syntax.specs.AssertionTree.{part_list}
use Rattle.vf_syntax.specs.GhostCommandTree.{GhostCommandTree}
use Rattle.vf_declared.specs.declared.scope.Scope.{Scope}
use Rattle.vf_sorting.specs.declared.context.Context.{Context}
use Rattle.vf_asserting.specs.Leaving.{count}
use Rattle.vf_datatypes.specs.declared.stated.Stated.{Stated}
use Rattle.vf_datatypes.specs.Datatypes.{datatype_behind}
use Rattle.vf_heads.specs.Heads.{family_behind, fixpoint_behind}
use Rattle.vf_walk.specs.Items.{WalksItem, WalksItems, struct_, struct_walked}
use Rattle.vf_contracts.specs.Comes as contracts
use Rattle.vf_commands.specs.declared.around.Around.{Around}
use Rattle.vf_commands.specs.Comes as commands
use Rattle.vf_annotations.specs.Forms.{FormComes, meanings}
use Rattle.vf_resolve.specs.declared.files.Files.{Files}
use Rattle.vf_resolve.specs.Beginning.{beginning}
use Rattle.vf_resolve.specs.Units.{ItemsCome}
use Rattle.vf_defining.specs.Units.{Written, written_form, written_in}
use Rattle.vf_erasure_laws.proofs.hidden.Coming.{Leads, ok_comes, only_leads, then_leads}
use Rattle.vf_erasure_laws.proofs.hidden.Giving.{command, contract, parts}
use Rattle.vf_fixpoint_laws.proofs.definable.Extending.{Keeps}
use Rattle.vf_fixpoint_laws.proofs.definable.Functions.{fields_beside, struct_beside}
use Rattle.vf_fixpoint_laws.proofs.definable.Lists.{number_front}
use Rattle.vf_fixpoint_laws.proofs.definable.Parts.{keeps_kept}
use Rattle.vf_fixpoint_laws.proofs.definable.Statements.{AreOrderly}
use Rattle.vf_fixpoint_laws.proofs.descending.Building.{Builds, builds_more, datatype_built}
use Rattle.vf_fixpoint_laws.proofs.descending.FunctionItems.{definition_adds, function_type_adds, prototype_adds}
use Rattle.vf_fixpoint_laws.proofs.descending.GhostItems.{constructor_adds, equations_keep, family_adds, fixpoint_adds, instance_adds, lemma_adds, lemma_prototype_adds, predicate_adds, predicate_body_adds}
use Rattle.vf_fixpoint_laws.proofs.descending.Heads.{IsHead, fixpoint_head}
use Rattle.vf_fixpoint_laws.proofs.descending.Levels.{Adds, Level, More, adds_kept, level, level_kept, longer, more_both, more_itself}
use Rattle.vf_fixpoint_laws.proofs.descending.Lists.{none_some, number_below, some_same}

-- ---- numbers
-- the name of a fixpoint has a number from one on and below another
pub record HasNumber (t : Scope) (low high : ℕ) (w : Written) : Type 0 where
  pub number : ℕ
  pub found : number_of t.names w.name.text ≡ Some number
  pub past : low ≤ number
  pub below : number < high

-- the names of the fixpoints among items have numbers from one on, in the order of the items
abbrev pub Ascend : Scope → ℕ → List Item → Type 0
Ascend t low [] = Unit {0}
Ascend t low (x ∷ xs) = (next : ℕ) × (low ≤ next) × ((w : Written) → written_in x ≡ Some w → HasNumber t low next w) × Ascend t next xs

-- each of them has a number from there on
pub from_there : (t : Scope) (xs : List Item) (low : ℕ) → Ascend t low xs → (x : Item) (w : Written) → Contains xs x → written_in x ≡ Some w → (k : ℕ) × (number_of t.names w.name.text ≡ Some k) × (low ≤ k)
from_there t [] low a x w (j, l, is) e = absurd (omega (arith, l))
from_there t (y ∷ xs) low (next, up, own, later) x w (zero, l, is) e = let h = own w (ap written_in is ∙ e) in (h.number, h.found, h.past)
from_there t (y ∷ xs) low (next, up, own, later) x w (suc j, l, is) e =
    let h = from_there t xs next later x w (j, omega (arith, l), is) e in
    let p = h.2 in
    (h.0, h.1, omega (arith, up, p))

-- ---- one item
-- behind an item there is more, and the name of a fixpoint has the next number
record Goes (o : Option Written) (s t : Scope) : Type 0 where
  more : More (level s) (level t)
  new : (w : Written) → o ≡ Some w → number_of t.names w.name.text ≡ Some (length s.names)

meanings_orderly : (d : Stated) → AreOrderly (meanings d)
meanings_orderly d = record { contract = λ o c s t h. of_contract h; invariant = λ file i s t h. of_invariant h; command = λ c s t h. of_command h }
  where
    of_contract : {c k : Context} {x : Contract} {s t : Scope} → contracts.ContractComes c k x s (Ok t) → Keeps s t
    of_contract (contracts.given g) = contract keeps_kept g

    of_invariant : {x : Invariant} {s t : Scope} → contracts.InvariantComes x s (Ok t) → Keeps s t
    of_invariant (contracts.given g) = parts keeps_kept g

    of_command : {w : Around} {x : GhostCommandTree} {s t : Scope} → commands.CommandComes w x s (Ok t) → Keeps s t
    of_command (commands.given g) = command keeps_kept g

other_goes : {s t : Scope} {o : Option Written} → o ≡ None → More (level s) (level t) → Goes o s t
other_goes none m = record { more = m; new = λ w is. absurd (none_some (sym none ∙ is)) }

fixpoint_goes : (w : Written) (s u t : Scope) → IsHead w.name w.parameters s u → Keeps u t → Adds s t → Goes (Some w) s t
fixpoint_goes w s u t head k a = record {
  more = a.more;
  new = λ v is. subst (λ (z : Written). number_of t.names z.name.text ≡ Some (length s.names)) (some_same is) (ap (λ (c : Level). number_of c.names w.name.text) (level_kept k ∙ head.is) ∙ number_of-push s.names w.name.text head.new);
}

form_goes : (d : Stated) (s : Scope) (f : GhostForm) → Leads (Goes (written_form f) s) (FormComes d f s)
form_goes d s (forms.Inductive n ns b cs) t w = other_goes refl (builds_more (only_leads (Builds n cs s) (datatype_behind d n ns cs s) (datatype_built d n ns cs s) t w))
form_goes d s (forms.Fixpoint y n ns gs b) t w =
    then_leads (IsHead n gs s) (λ v. Adds s v → Goes (Some (record { name = n; parameters = gs; body = b })) s v) (only_leads (IsHead n gs s) (fixpoint_behind y n ns gs s) (fixpoint_head y n ns gs s))
    (λ u j v e. fixpoint_goes (record { name = n; parameters = gs; body = b }) s u v j (equations_keep (count s) (length s.ghosts) b u v e)) t w
    (fixpoint_adds y n ns gs b s t w)
form_goes d s (forms.Predicate n gs) t w = other_goes refl (predicate_adds n gs s t w).more
form_goes d s (forms.PredicateBody n gs a) t w = other_goes refl (predicate_body_adds n gs (part_list a) s t w).more
form_goes d s (forms.Family n j gs) t w = other_goes refl (only_leads (Adds s) (family_behind n j gs s) (family_adds n j gs s) t w).more
form_goes d s (forms.Instance f g gs a) t w = other_goes refl (instance_adds f g gs (part_list a) s t w).more
form_goes d s (forms.PredicateConstructor n fs gs a) t w = other_goes refl (constructor_adds n fs gs (part_list a) s t w).more
form_goes d s (forms.LemmaPrototype n ns gs c) t w = other_goes refl (lemma_prototype_adds n ns gs c s t w).more
form_goes d s (forms.Lemma n ns gs c b) t w = other_goes refl (lemma_adds n ns gs c b s t w).more

item_goes : (d : Stated) (x : Item) (s : Scope) → Leads (Goes (written_in x) s) (WalksItem (meanings d) x s)
item_goes d (items.Opaque p n) s t w = other_goes refl (adds_kept (only_leads _ (struct_ n true s) (struct_beside n true s) t w).keeps).more
item_goes d (items.Struct p n fs) s t w = other_goes refl (adds_kept (only_leads _ (struct_walked n fs s) (fields_beside n fs s) t w).keeps).more
item_goes d (items.FunctionType p g c) s t w = other_goes refl (function_type_adds (meanings d) (meanings_orderly d) g c s t w).more
item_goes d (items.Prototype g k c) s t w = other_goes refl (prototype_adds (meanings d) (meanings_orderly d) g c s t w).more
item_goes d (items.Function g k c b) s t w = other_goes refl (definition_adds (meanings d) (meanings_orderly d) g c b s t w).more
item_goes d (items.Ghost a) s t w = form_goes d s a.form t w

-- ---- all items
-- behind items there is more, where the names of the fixpoints among them have numbers in their order
record AscendBehind (s : Scope) (xs : List Item) (t : Scope) : Type 0 where
  more : More (level s) (level t)
  ascend : Ascend t (length s.names) xs

ascend_more : {s u t : Scope} {x : Item} {xs : List Item} → Goes (written_in x) s u → AscendBehind u xs t → AscendBehind s (x ∷ xs) t
ascend_more {s} {u} {t} {x} g r = record {
  more = more_both g.more r.more;
  ascend = (length u.names, longer s.names g.more.more_names u.names g.more.names, (λ w is. own w (g.new w is)), r.ascend);
}
  where
    own : (w : Written) → number_of u.names w.name.text ≡ Some (length s.names) → HasNumber t (length s.names) (length u.names) w
    own w new = record { number = length s.names; found = ap (λ ns. number_of ns w.name.text) r.more.names ∙ number_front u.names r.more.more_names w.name.text (length s.names) new; past = omega arith; below = number_below u.names w.name.text (length s.names) new }

items_ascend : (d : Stated) (xs : List Item) (s : Scope) → Leads (AscendBehind s xs) (WalksItems (meanings d) xs s)
items_ascend d [] s = only_leads (AscendBehind s []) (Ok s) (ok_comes (AscendBehind s []) (record { more = more_itself (level s); ascend = tt }))
items_ascend d (x ∷ xs) s = then_leads (Goes (written_in x) s) (AscendBehind s (x ∷ xs)) (item_goes d x s) (λ u g t w. ascend_more g (items_ascend d xs u t w))

pub unit_ascends : (f : Files) (xs : List Item) (s : Scope) → ItemsCome xs (beginning f xs) (Ok s) → Ascend s (length (beginning f xs).names) xs
unit_ascends f xs s h = (items_ascend h.stated xs (beginning f xs) s h.walks).ascend
