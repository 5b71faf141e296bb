-- What is printed of units that link, and of some that do not.
use Rattle.std.proofs.Common.{map, subst}
use Rattle.vf_program.specs.Units.{unit_of}
use Rattle.vf_link.specs.Statements.{all_lines}
use Rattle.vf_link.specs.Linking.{IfRefused, IsRefusal}
use Rattle.vf_link.specs.declared.refusal.LinkFault.{LinkFault}
use Rattle.vf_try.specs.Answers.{path_by}
use Rattle.vf_try.proofs.Answering.{units_refused, units_run}
use Rattle.vf_try.proofs.answer.push_units.Goals as goal

pub returns-in_ok-program-in-Ok : goal.returns-in_ok-program-in-Ok
returns-in_ok-program-in-Ok c =
    units_run c.args.purpose (path_by c.args.snapshot.now) _ c.args.units.now.manifests.items _ c.args.units.now.plains.items c.args.schedule.now c.in-Ok.linked.entry.manifest _ c.in-Ok.linked.entry.identity _ c.push_program.result _ _ _
    c.as_slice.ensures.value c.as_slice-in-Ok.ensures.value c.as_bytes-main.ensures c.in-Ok.ensures.links c.in-Ok.ensures.entry c.in_ok-push_linked-in-Ok.ensures c.in_ok-program-in-Ok.ensures c.push_program.ensures

pub returns-in_ok-push_unlinked-in-Err-Refused : goal.returns-in_ok-push_unlinked-in-Err-Refused
returns-in_ok-push_unlinked-in-Err-Refused c =
    let rule = rw c.in-Err-Refused.field-0-is at c.rule-rule.ensures in
    let shown = rw c.in-Err-Refused.field-0-is at c.into_shown.ensures in
    units_refused c.args.purpose (path_by c.args.snapshot.now) _ c.args.units.now.manifests.items (map unit_of c.args.units.now.plains.items) c.args.schedule.now c.in-Err-Refused.refusal _ _ _ _
    c.as_slice.ensures.value rule shown c.in_ok-push_unlinked-in-Err-Refused.ensures
    (subst (λ (e : LinkFault). IfRefused e (IsRefusal (all_lines c.as_slice.result.now))) c.in-Err-Refused.field-0-is c.in-Err-Refused.ensures.refused)
