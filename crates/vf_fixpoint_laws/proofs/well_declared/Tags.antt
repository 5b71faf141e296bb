-- The tags that items declare are those that are told of them.
use Rattle.std.proofs.Common.{◌≡◌, refl, sym, ap, ◌∙◌, ℕ, true, [], ◌∷◌, length, Option, Some, None, Ok}
use Rattle.vf_names.specs.Names.{number_of}
use Rattle.vf_declared.specs.declared.scope.Scope.{Scope}
use Rattle.vf_syntax.specs.declared.contract.Contract.{Contract}
use Rattle.vf_syntax.specs.declared.contract.Invariant.{Invariant}
use Rattle.vf_syntax.specs.declared.item.GhostForm.{GhostForm}
use Rattle.vf_syntax.specs.declared.item.GhostForm.TheVariants as forms
use Rattle.vf_syntax.specs.declared.item.Item.{Item}
use Rattle.vf_syntax.specs.declared.item.Item.TheVariants as items
use Rattle.vf_syntax.specs.declared.written.Name.{Name}
use Rattle.vf_syntax.specs.AssertionTree.{part_list}
use Rattle.vf_syntax.specs.GhostCommandTree.{GhostCommandTree}
use Rattle.vf_sorting.specs.declared.context.Context.{Context}
use Rattle.vf_datatypes.specs.declared.stated.Stated.{Stated}
use Rattle.vf_datatypes.specs.Datatypes.{datatype_behind}
use Rattle.vf_gathering.specs.declared.ahead.Ahead.{Ahead}
use Rattle.vf_gathering.specs.Ahead.{with_form, with_item, with_number}
use Rattle.vf_heads.specs.Heads.{family_behind}
use Rattle.vf_walk.specs.Items.{WalksItem, struct_, struct_walked}
use Rattle.vf_contracts.specs.Comes as contracts
use Rattle.vf_commands.specs.declared.around.Around.{Around}
use Rattle.vf_commands.specs.Comes as commands
use Rattle.vf_annotations.specs.Forms.{FormComes, meanings}
use Rattle.vf_erasure_laws.proofs.hidden.Coming.{Leads, only_leads}
use Rattle.vf_erasure_laws.proofs.hidden.Giving.{command, contract, parts}
use Rattle.vf_env.specs.Named.{named, named_by_form, tagged}
use Rattle.vf_env_laws.specs.Declared.{put_all}
use Rattle.vf_env_laws.proofs.Keeping.{Brings, IsBeside, Keeps, keeps_kept}
use Rattle.vf_env_laws.proofs.Statements.{AreOrderly}
use Rattle.vf_env_laws.proofs.Functions.{definition_brings, fields_bring, function_type_brings, prototype_brings, struct_brings}
use Rattle.vf_env_laws.proofs.Ghosts.{constructor_item_brings, datatype_brings, family_brings, fixpoint_brings, instance_brings, predicate_body_brings, predicate_brings}
use Rattle.vf_env_laws.proofs.Lemmas as lemmas

-- ---- what items bring
form_brings : (d : Stated) (x : GhostForm) (s : Scope) → IsBeside s → Leads (Brings (named_by_form x) [] s) (FormComes d x s)
form_brings d (forms.Inductive n ns b cs) s a = only_leads (Brings (named_by_form (forms.Inductive n ns b cs)) [] s) (datatype_behind d n ns cs s) (datatype_brings d n ns cs s a)
form_brings d (forms.Fixpoint t n ns gs b) s a = fixpoint_brings t n ns gs b s a
form_brings d (forms.Predicate n gs) s a = predicate_brings n gs s a
form_brings d (forms.PredicateBody n gs x) s a = predicate_body_brings n gs (part_list x) s a
form_brings d (forms.Family n i gs) s a = only_leads (Brings (n.text ∷ []) [] s) (family_behind n i gs s) (family_brings n i gs s a)
form_brings d (forms.Instance f g gs x) s a = instance_brings f g gs (part_list x) s a
form_brings d (forms.PredicateConstructor n fs gs x) s a = constructor_item_brings n fs gs (part_list x) s a
form_brings d (forms.LemmaPrototype n ns gs c) s a = lemmas.prototype_brings n ns gs c s a
form_brings d (forms.Lemma n ns gs c b) s a = lemmas.definition_brings n ns gs c b s a

meanings_orderly : (d : Stated) → AreOrderly (meanings d)
meanings_orderly d = record { contract = λ o c s t h. of_contract h; invariant = λ file i s t h. of_invariant h; command = λ c s t h. of_command h; item = λ i s a. form_brings d i.form s a }
  where
    of_contract : {c k : Context} {x : Contract} {s t : Scope} → contracts.ContractComes c k x s (Ok t) → Keeps s t
    of_contract (contracts.given g) = contract keeps_kept g

    of_invariant : {x : Invariant} {s t : Scope} → contracts.InvariantComes x s (Ok t) → Keeps s t
    of_invariant (contracts.given g) = parts keeps_kept g

    of_command : {w : Around} {x : GhostCommandTree} {s t : Scope} → commands.CommandComes w x s (Ok t) → Keeps s t
    of_command (commands.given g) = command keeps_kept g

pub item_brings : (d : Stated) (x : Item) (s : Scope) → IsBeside s → Leads (Brings (named x) (tagged x) s) (WalksItem (meanings d) x s)
item_brings d (items.Opaque p n) s a = only_leads (Brings [] (n.text ∷ []) s) (struct_ n true s) (struct_brings n true s a)
item_brings d (items.Struct p n xs) s a = only_leads (Brings [] (n.text ∷ []) s) (struct_walked n xs s) (fields_bring n xs s a)
item_brings d (items.FunctionType p g c) s a = function_type_brings (meanings d) (meanings_orderly d) g c s a
item_brings d (items.Prototype g k c) s a = prototype_brings (meanings d) (meanings_orderly d) g c s a
item_brings d (items.Function g k c b) s a = definition_brings (meanings d) (meanings_orderly d) g c b s a
item_brings d (items.Ghost g) s a = form_brings d g.form s a

-- ---- what is told of them
datatype_tags : (a : Ahead) (n : Name) (m : ℕ) (o : Option ℕ) → (with_number a n m o).tags ≡ a.tags
datatype_tags a n m None = refl
datatype_tags a n m (Some k) = refl

form_tags : (a : Ahead) (x : GhostForm) → (with_form a x).tags ≡ a.tags
form_tags a (forms.Inductive n ns b cs) = datatype_tags a n (length ns) (number_of a.datatypes n.text)
form_tags a (forms.Fixpoint t n ns gs b) = refl
form_tags a (forms.Predicate n gs) = refl
form_tags a (forms.PredicateBody n gs x) = refl
form_tags a (forms.Family n i gs) = refl
form_tags a (forms.Instance f g gs x) = refl
form_tags a (forms.PredicateConstructor n fs gs x) = refl
form_tags a (forms.LemmaPrototype n ns gs c) = refl
form_tags a (forms.Lemma n ns gs c b) = refl

-- the tags that are told of an item
item_tags : (a : Ahead) (x : Item) → (with_item a x).tags ≡ put_all a.tags (tagged x)
item_tags a (items.Opaque p n) = refl
item_tags a (items.Struct p n xs) = refl
item_tags a (items.FunctionType p g c) = refl
item_tags a (items.Prototype g k c) = refl
item_tags a (items.Function g k c b) = refl
item_tags a (items.Ghost x) = form_tags a x.form

-- the tags stay those that were told
pub tags_told : (a : Ahead) (x : Item) (s t : Scope) → Brings (named x) (tagged x) s t → s.tags ≡ a.tags → t.tags ≡ (with_item a x).tags
tags_told a x s t b e = b.tags ∙ (ap (λ ns. put_all ns (tagged x)) e ∙ sym (item_tags a x))
