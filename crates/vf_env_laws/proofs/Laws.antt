-- An accepted unit declares the names and tags of its items, and each has its first item.
use Rattle.std.proofs.Common.{◌≡◌, refl, sym, ap, subst, ◌∙◌, ℕ, true, List, [], ◌∷◌, ◌++◌, map, Ok, Some, slice_get}
use Rattle.std.specs.List.{flat_map, list_any}
use Rattle.vf_declared.specs.declared.scope.Scope.{Scope}
use Rattle.vf_syntax.specs.declared.contract.Contract.{Contract}
use Rattle.vf_syntax.specs.declared.contract.Invariant.{Invariant}
use Rattle.vf_syntax.specs.declared.item.GhostForm.{GhostForm}
use Rattle.vf_syntax.specs.declared.item.GhostForm.TheVariants as forms
use Rattle.vf_syntax.specs.declared.item.Item.{Item}
use Rattle.vf_syntax.specs.declared.item.Item.TheVariants as items
use Rattle.vf_syntax.specs.AssertionTree.{part_list}
use Rattle.vf_syntax.specs.GhostCommandTree.{GhostCommandTree}
use Rattle.vf_sorting.specs.declared.context.Context.{Context}
use Rattle.vf_datatypes.specs.declared.stated.Stated.{Stated}
use Rattle.vf_datatypes.specs.Datatypes.{datatype_behind}
use Rattle.vf_heads.specs.Heads.{family_behind}
use Rattle.vf_walk.specs.Items.{WalksItem, WalksItems, struct_, struct_walked}
use Rattle.vf_walk.specs.Meanings.{Meanings}
use Rattle.vf_contracts.specs.Comes as contracts
use Rattle.vf_commands.specs.declared.around.Around.{Around}
use Rattle.vf_commands.specs.Comes as commands
use Rattle.vf_annotations.specs.Forms.{FormComes, meanings}
use Rattle.vf_erasure_laws.proofs.hidden.Coming.{Leads, only_leads, then_leads}
use Rattle.vf_erasure_laws.proofs.hidden.Giving.{command, contract, parts}
use Rattle.vf_env.specs.Named.{named, named_by_form, tagged}
use Rattle.vf_env.specs.Trees.{HasTrees, declaring, is_among}
use Rattle.vf_env_laws.specs.Declared.{HasFirst, declared_by}
use Rattle.vf_env_laws.specs.Laws.{EachNameHasTrees, NamesAreDeclared, NamesStandOnce, OnlyNamesOfItems, TreesStandBesideNames}
use Rattle.vf_env_laws.proofs.Putting.{StandsOnce, begins, by_places, place_among}
use Rattle.vf_env_laws.proofs.Putting as putting
use Rattle.vf_env_laws.proofs.Keeping.{Brings, IsBeside, Keeps, brings_both, brings_none, keeps_kept, keeps_same, ok_keeps}
use Rattle.vf_env_laws.proofs.Statements.{AreOrderly}
use Rattle.vf_env_laws.proofs.Functions.{definition_brings, fields_bring, function_type_brings, prototype_brings, struct_brings}
use Rattle.vf_env_laws.proofs.Ghosts.{constructor_item_brings, datatype_brings, family_brings, fixpoint_brings, instance_brings, predicate_body_brings, predicate_brings}
use Rattle.vf_env_laws.proofs.Lemmas as lemmas

-- ---- annotations
form_brings : (d : Stated) (x : GhostForm) (s : Scope) → IsBeside s → Leads (Brings (named_by_form x) [] s) (FormComes d x s)
form_brings d (forms.Inductive n ns b cs) s a = only_leads (Brings (named_by_form (forms.Inductive n ns b cs)) [] s) (datatype_behind d n ns cs s) (datatype_brings d n ns cs s a)
form_brings d (forms.Fixpoint t n ns gs b) s a = fixpoint_brings t n ns gs b s a
form_brings d (forms.Predicate n gs) s a = predicate_brings n gs s a
form_brings d (forms.PredicateBody n gs x) s a = predicate_body_brings n gs (part_list x) s a
form_brings d (forms.Family n i gs) s a = only_leads (Brings (n.text ∷ []) [] s) (family_behind n i gs s) (family_brings n i gs s a)
form_brings d (forms.Instance f g gs x) s a = instance_brings f g gs (part_list x) s a
form_brings d (forms.PredicateConstructor n fs gs x) s a = constructor_item_brings n fs gs (part_list x) s a
form_brings d (forms.LemmaPrototype n ns gs c) s a = lemmas.prototype_brings n ns gs c s a
form_brings d (forms.Lemma n ns gs c b) s a = lemmas.definition_brings n ns gs c b s a

meanings_orderly : (d : Stated) → AreOrderly (meanings d)
meanings_orderly d = record { contract = λ o c s t h. of_contract h; invariant = λ file i s t h. of_invariant h; command = λ c s t h. of_command h; item = λ i s a. form_brings d i.form s a }
  where
    of_contract : {c k : Context} {x : Contract} {s t : Scope} → contracts.ContractComes c k x s (Ok t) → Keeps s t
    of_contract (contracts.given g) = contract keeps_kept g

    of_invariant : {x : Invariant} {s t : Scope} → contracts.InvariantComes x s (Ok t) → Keeps s t
    of_invariant (contracts.given g) = parts keeps_kept g

    of_command : {w : Around} {x : GhostCommandTree} {s t : Scope} → commands.CommandComes w x s (Ok t) → Keeps s t
    of_command (commands.given g) = command keeps_kept g

-- ---- items
item_brings : (m : Meanings) → AreOrderly m → (x : Item) (s : Scope) → IsBeside s → Leads (Brings (named x) (tagged x) s) (WalksItem m x s)
item_brings m o (items.Opaque p n) s a = only_leads (Brings [] (n.text ∷ []) s) (struct_ n true s) (struct_brings n true s a)
item_brings m o (items.Struct p n xs) s a = only_leads (Brings [] (n.text ∷ []) s) (struct_walked n xs s) (fields_bring n xs s a)
item_brings m o (items.FunctionType p g c) s a = function_type_brings m o g c s a
item_brings m o (items.Prototype g k c) s a = prototype_brings m o g c s a
item_brings m o (items.Function g k c b) s a = definition_brings m o g c b s a
item_brings m o (items.Ghost g) s a = o.item g s a

items_bring : (m : Meanings) → AreOrderly m → (xs : List Item) (s : Scope) → IsBeside s → Leads (Brings (flat_map named xs) (flat_map tagged xs) s) (WalksItems m xs s)
items_bring m o [] s a = λ t h. brings_none a (ok_keeps (keeps_same s) t h)
items_bring m o (x ∷ xs) s a =
    then_leads (Brings (named x) (tagged x) s) (Brings (named x ++ flat_map named xs) (tagged x ++ flat_map tagged xs) s) (item_brings m o x s a)
    (λ t h u w. brings_both h (items_bring m o xs t h.beside u w))

-- ---- the laws
pub names_are_declared : NamesAreDeclared
names_are_declared f xs s h =
    let b = items_bring (meanings h.stated) (meanings_orderly h.stated) xs _ refl s h.walks in
    record { names = b.names; tags = b.tags }

pub names_stand_once : NamesStandOnce
names_stand_once declared xs = putting.names_stand_once declared xs

pub only_names_of_items : OnlyNamesOfItems
only_names_of_items declared xs x = putting.only_names_of_items declared xs x

stand_once : (declared : Item → List (List ℕ)) (xs : List Item) (names : List (List ℕ)) → names ≡ declared_by declared xs → StandsOnce names
stand_once declared xs names is = subst StandsOnce (sym is) (putting.names_stand_once declared xs)

has_first : (declared : Item → List (List ℕ)) (xs : List Item) (names trees : List (List ℕ)) → names ≡ declared_by declared xs → HasTrees declared names xs trees → (x : List ℕ) (k : ℕ) → slice_get names k ≡ Some x → HasFirst declared x xs trees k
has_first declared xs names trees is h x k there =
    let number = stand_once declared xs names is x k there in
    let some : list_any (λ item. is_among (declared item) x) xs ≡ true = sym (putting.only_names_of_items declared xs x) ∙ (ap (λ ns. is_among ns x) (sym is) ∙ place_among names x k number) in
    let b = begins (λ item. is_among (declared item) x) 0 xs some in
    record { first = b.first; more = b.more; list = h.lists x k number ∙ ap Some b.whole; whole = b.whole; is_first = b.is_first }

pub each_name_has_trees : EachNameHasTrees
each_name_has_trees f paths xs s e h d =
    let n = names_are_declared f xs s h in
    record {
      names = λ x k there. has_first named xs e.scope.names e.trees (ap (λ (t : Scope). t.names) d.scope ∙ n.names) d.is.names x k there;
      tags = λ x k there. has_first tagged xs e.scope.tags e.tag_trees (ap (λ (t : Scope). t.tags) d.scope ∙ n.tags) d.is.tags x k there;
    }

beside : (declared : Item → List (List ℕ)) (xs : List Item) (names trees : List (List ℕ)) → names ≡ declared_by declared xs → HasTrees declared names xs trees → trees ≡ map (λ x. declaring declared x xs) names
beside declared xs names trees is h = by_places (λ x. declaring declared x xs) names trees h.beside (λ x k there. h.lists x k (stand_once declared xs names is x k there))

pub trees_stand_beside_names : TreesStandBesideNames
trees_stand_beside_names f paths xs s e h d =
    let n = names_are_declared f xs s h in
    record {
      names = beside named xs e.scope.names e.trees (ap (λ (t : Scope). t.names) d.scope ∙ n.names) d.is.names;
      tags = beside tagged xs e.scope.tags e.tag_trees (ap (λ (t : Scope). t.tags) d.scope ∙ n.tags) d.is.tags;
    }
