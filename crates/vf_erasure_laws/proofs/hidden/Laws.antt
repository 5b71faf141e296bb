-- What annotations declare is not seen by C text.
use Rattle.vf_declared.specs.declared.scope.Scope.{Scope}
use Rattle.vf_syntax.specs.declared.contract.Contract.{Contract}
use Rattle.vf_syntax.specs.declared.contract.Invariant.{Invariant}
use Rattle.vf_syntax.specs.declared.item.GhostForm.{GhostForm}
use Rattle.vf_syntax.specs.declared.item.GhostForm.TheVariants as forms
use Rattle.vf_syntax.specs.AssertionTree.{part_list}
use Rattle.vf_syntax.specs.GhostCommandTree.{GhostCommandTree}
use Rattle.vf_sorting.specs.declared.context.Context.{Context}
use Rattle.vf_datatypes.specs.declared.stated.Stated.{Stated}
use Rattle.vf_datatypes.specs.Datatypes.{datatype_behind}
use Rattle.vf_heads.specs.Heads.{family_behind}
use Rattle.vf_contracts.specs.Comes.{ContractComes, InvariantComes}
use Rattle.vf_contracts.specs.Comes as contracts
use Rattle.vf_commands.specs.declared.around.Around.{Around}
use Rattle.vf_commands.specs.Comes.{CommandComes, around_statements}
use Rattle.vf_commands.specs.Comes as commands
use Rattle.vf_annotations.specs.Forms.{FormComes}
use Rattle.vf_erasure_laws.specs.seen.Seen.{IsOrderly}
use Rattle.vf_erasure_laws.specs.seen.Unseen.{AddsGhosts, IsUnseen}
use Rattle.vf_erasure_laws.specs.hidden.Hidden.{AnnotationsAreUnseen}
use Rattle.vf_erasure_laws.proofs.hidden.Adding.{adds_kept}
use Rattle.vf_erasure_laws.proofs.hidden.Coming.{Leads, only_leads}
use Rattle.vf_erasure_laws.proofs.hidden.Giving.{command, contract, parts}
use Rattle.vf_erasure_laws.proofs.hidden.Heads.{datatype, family}
use Rattle.vf_erasure_laws.proofs.hidden.Items.{constructor, family_body, fixpoint_item, predicate, predicate_body}
use Rattle.vf_erasure_laws.proofs.hidden.LemmaItems.{definition, prototype}

contract_adds : {s : Scope} → IsOrderly s → (c d : Context) (x : Contract) → Leads (AddsGhosts s) (ContractComes c d x s)
contract_adds o c d x t (contracts.given g) = contract adds_kept g o.locals

invariant_adds : {s : Scope} → IsOrderly s → (x : Invariant) → Leads (AddsGhosts s) (InvariantComes x s)
invariant_adds o x t (contracts.given g) = parts adds_kept g o.locals

command_adds : {s : Scope} → IsOrderly s → (w : Around) (x : GhostCommandTree) → Leads (AddsGhosts s) (CommandComes w x s)
command_adds o w x t (commands.given g) = command adds_kept g o.locals

form_unseen : {s : Scope} → IsOrderly s → (d : Stated) (x : GhostForm) → Leads (IsUnseen s) (FormComes d x s)
form_unseen {s = s} o d (forms.Inductive n ns b cs) = only_leads (IsUnseen s) (datatype_behind d n ns cs s) (datatype o d n ns cs)
form_unseen o d (forms.Fixpoint t n ns gs b) = fixpoint_item o t n ns gs b
form_unseen o d (forms.Predicate n gs) = predicate o n gs
form_unseen o d (forms.PredicateBody n gs a) = predicate_body o n gs (part_list a)
form_unseen {s = s} o d (forms.Family n i gs) = only_leads (IsUnseen s) (family_behind n i gs s) (family o n i gs)
form_unseen o d (forms.Instance f g gs a) = family_body o f g gs (part_list a)
form_unseen o d (forms.PredicateConstructor n fs gs a) = constructor o n fs gs (part_list a)
form_unseen o d (forms.LemmaPrototype n ns gs c) = prototype o n ns gs c
form_unseen o d (forms.Lemma n ns gs c b) = definition o n ns gs c b

-- what annotations declare is not seen by C text
pub annotations_are_unseen : AnnotationsAreUnseen
annotations_are_unseen d = record {
  contract = λ w c s t o h. contract_adds o _ _ c t h;
  invariant = λ file i s t o h. invariant_adds o i t h;
  command = λ c s t o h. command_adds o around_statements c t h;
  item = λ i s t o h. form_unseen o d i.form t h;
}
