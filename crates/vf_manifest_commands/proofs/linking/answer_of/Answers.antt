-- The line of linking, and its status.
use Rattle.std.proofs.Common.{◌∙◌, ◌++◌, sym, ap, subst, List, ℕ}
use Rattle.vf_report.specs.declared.status.Status.TheVariants as statuses
use Rattle.vf_report.specs.Lines.{linked_line}
use Rattle.vf_link.specs.Statements.{all_lines}
use Rattle.vf_link.specs.Linking.{IfRefused, IsRefusal}
use Rattle.vf_link.specs.declared.refusal.LinkFault.{LinkFault}
use Rattle.vf_manifest_commands.specs.Manifests.{LinkPrints}
use Rattle.vf_manifest_commands.specs.Manifests as manifests
use Rattle.vf_manifest_commands.proofs.Loading.{refused_line}
use Rattle.vf_manifest_commands.proofs.linking.answer_of.Goals as goal

pub returns-in_ok-push_linked-in-Ok : goal.returns-in_ok-push_linked-in-Ok
returns-in_ok-push_linked-in-Ok c =
    subst (LinkPrints c.args.manifests.now statuses.Done) (sym (c.in_ok-push_linked-in-Ok.ensures ∙ ap (λ (t : List ℕ). t ++ linked_line) c.new-text.ensures)) (manifests.linked c.in-Ok.ensures.links)

pub returns-in_ok-push_unlinked-in-Err-Refused : goal.returns-in_ok-push_unlinked-in-Err-Refused
returns-in_ok-push_unlinked-in-Err-Refused c =
    refused_line c.args.manifests.now c.in-Err-Refused.refusal _ _ _ _ c.rule-rule.ensures c.into_shown.ensures c.new-text.ensures c.in_ok-push_unlinked-in-Err-Refused.ensures
    (subst (λ (e : LinkFault). IfRefused e (IsRefusal (all_lines c.args.manifests.now))) c.in-Err-Refused.field-0-is c.in-Err-Refused.ensures.refused)
