use Rattle.std.proofs.Common.{ap, ◌∙◌, subst}
use Rattle.vf_syntax.specs.StmtTree.{stmt_list}
use Rattle.vf_walk.specs.Items.{is_main}
use Rattle.vf_lower.specs.Did.{Did}
use Rattle.vf_lower.specs.Statements.{body}
use Rattle.vf_lower.proofs.Parts.{did_then}
use Rattle.vf_bodies.specs.Standing.{back_at, standing_of}
use Rattle.vf_cores.proofs.Extending.{parameters_gone}
use Rattle.vf_cores.proofs.function.lower_whole.Goals as goal

pub returns-clause-kept : goal.returns-clause-kept
returns-clause-kept c = parameters_gone _ _ _ _ _ _ _ c.in_ok-lower_parameters.ensures c.mark-before.ensures (c.leave.ensures ∙ ap (back_at c.mark-before.result) c.in_ok-lower_body.ensures.kept)

pub returns-clause-done : goal.returns-clause-done
returns-clause-done c =
    let d = standing_of c.lower_parameters.new.around in
    let xs = stmt_list c.args.body.now.statements in
    let last = c.args.body.now.last in
    let named = subst (λ m. Did (body d c.given-given.result m xs last) c.lower_parameters.new.draft c.lower_body.new.draft tt) c.is_main-is_main.ensures c.in_ok-lower_body.ensures.done in
    did_then _ _ _ _ _ _ _ c.in_ok-lower_parameters.ensures (subst (λ r. Did (body d r (is_main c.args.signature.now.name.text) xs last) c.lower_parameters.new.draft c.lower_body.new.draft tt) c.given-given.ensures named)
