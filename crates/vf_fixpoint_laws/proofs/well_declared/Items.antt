-- What each item of a unit declares at file level.
use Rattle.std.proofs.Common.{true, Ok}
use Rattle.vf_declared.specs.declared.scope.Scope.{Scope}
use Rattle.vf_syntax.specs.declared.contract.Contract.{Contract}
use Rattle.vf_syntax.specs.declared.contract.Invariant.{Invariant}
use Rattle.vf_syntax.specs.declared.item.GhostForm.{GhostForm}
use Rattle.vf_syntax.specs.declared.item.GhostForm.TheVariants as forms
use Rattle.vf_syntax.specs.declared.item.Item.{Item}
use Rattle.vf_syntax.specs.declared.item.Item.TheVariants as items
use Rattle.vf_syntax.specs.AssertionTree.{part_list}
use Rattle.vf_syntax.specs.GhostCommandTree.{GhostCommandTree}
use Rattle.vf_sorting.specs.declared.context.Context.{Context}
use Rattle.vf_datatypes.specs.declared.stated.Stated.{Stated}
use Rattle.vf_datatypes.specs.Datatypes.{datatype_behind}
use Rattle.vf_heads.specs.Heads.{family_behind}
use Rattle.vf_walk.specs.Items.{WalksItem, struct_, struct_walked}
use Rattle.vf_contracts.specs.Comes as contracts
use Rattle.vf_commands.specs.declared.around.Around.{Around}
use Rattle.vf_commands.specs.Comes as commands
use Rattle.vf_annotations.specs.Forms.{FormComes, meanings}
use Rattle.vf_erasure_laws.proofs.hidden.Coming.{Leads, only_leads}
use Rattle.vf_erasure_laws.proofs.hidden.Giving.{command, contract, parts}
use Rattle.vf_fixpoint_laws.proofs.definable.Extending.{Keeps}
use Rattle.vf_fixpoint_laws.proofs.definable.Functions.{fields_beside, struct_beside}
use Rattle.vf_fixpoint_laws.proofs.definable.Parts.{keeps_kept}
use Rattle.vf_fixpoint_laws.proofs.definable.Statements.{AreOrderly}
use Rattle.vf_env_laws.proofs.Keeping.{IsBeside}
use Rattle.vf_fixpoint_laws.proofs.well_declared.Cores.{OthersFrom, others_plain, plain_kept}
use Rattle.vf_fixpoint_laws.proofs.well_declared.Functions.{definition_plain, function_type_plain, prototype_plain}
use Rattle.vf_fixpoint_laws.proofs.well_declared.Ghosts.{DatatypeFrom, IsFixpoint, PredicateFrom, constructor_others, datatype_is, family_others, fixpoint_is, instance_keeps, predicate_body_is, predicate_is}
use Rattle.vf_fixpoint_laws.proofs.well_declared.Lemmas as lemmas

-- what a ghost item leaves declared
abbrev pub FormLeaves : GhostForm → Scope → Scope → Type 0
FormLeaves (forms.Inductive n ns b cs) s t = DatatypeFrom n ns s t
FormLeaves (forms.Fixpoint y n ns gs b) s t = IsFixpoint n gs s t
FormLeaves (forms.Predicate n gs) s t = PredicateFrom n gs s t
FormLeaves (forms.PredicateBody n gs x) s t = PredicateFrom n gs s t
FormLeaves x s t = OthersFrom s t

-- what an item leaves declared
abbrev pub ItemLeaves : Item → Scope → Scope → Type 0
ItemLeaves (items.Ghost x) s t = FormLeaves x.form s t
ItemLeaves x s t = OthersFrom s t

form_leaves : (d : Stated) (x : GhostForm) (s : Scope) → Leads (FormLeaves x s) (FormComes d x s)
form_leaves d (forms.Inductive n ns b cs) s = only_leads (DatatypeFrom n ns s) (datatype_behind d n ns cs s) (datatype_is d n ns cs s)
form_leaves d (forms.Fixpoint y n ns gs b) s = fixpoint_is y n ns gs b s
form_leaves d (forms.Predicate n gs) s = predicate_is n gs s
form_leaves d (forms.PredicateBody n gs x) s = predicate_body_is n gs (part_list x) s
form_leaves d (forms.Family n i gs) s = only_leads (OthersFrom s) (family_behind n i gs s) (family_others n i gs s)
form_leaves d (forms.Instance f g gs x) s = λ t w. others_plain (plain_kept (instance_keeps f g gs (part_list x) s t w))
form_leaves d (forms.PredicateConstructor n fs gs x) s = constructor_others n fs gs (part_list x) s
form_leaves d (forms.LemmaPrototype n ns gs c) s = lemmas.prototype_others n ns gs c s
form_leaves d (forms.Lemma n ns gs c b) s = lemmas.definition_others n ns gs c b s

meanings_orderly : (d : Stated) → AreOrderly (meanings d)
meanings_orderly d = record { contract = λ o c s t h. of_contract h; invariant = λ file i s t h. of_invariant h; command = λ c s t h. of_command h }
  where
    of_contract : {c k : Context} {x : Contract} {s t : Scope} → contracts.ContractComes c k x s (Ok t) → Keeps s t
    of_contract (contracts.given g) = contract keeps_kept g

    of_invariant : {x : Invariant} {s t : Scope} → contracts.InvariantComes x s (Ok t) → Keeps s t
    of_invariant (contracts.given g) = parts keeps_kept g

    of_command : {w : Around} {x : GhostCommandTree} {s t : Scope} → commands.CommandComes w x s (Ok t) → Keeps s t
    of_command (commands.given g) = command keeps_kept g

pub item_leaves : (d : Stated) (x : Item) (s : Scope) → IsBeside s → Leads (ItemLeaves x s) (WalksItem (meanings d) x s)
item_leaves d (items.Opaque p n) s a = only_leads (OthersFrom s) (struct_ n true s) (λ t e. others_plain (plain_kept (struct_beside n true s t e).keeps))
item_leaves d (items.Struct p n xs) s a = only_leads (OthersFrom s) (struct_walked n xs s) (λ t e. others_plain (plain_kept (fields_beside n xs s t e).keeps))
item_leaves d (items.FunctionType p g c) s a = λ t w. others_plain (function_type_plain (meanings d) (meanings_orderly d) g c s t w)
item_leaves d (items.Prototype g k c) s a = λ t w. others_plain (prototype_plain (meanings d) (meanings_orderly d) g c s a t w)
item_leaves d (items.Function g k c b) s a = λ t w. others_plain (definition_plain (meanings d) (meanings_orderly d) g c b s a t w)
item_leaves d (items.Ghost g) s a = form_leaves d g.form s
