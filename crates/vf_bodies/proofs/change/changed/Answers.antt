use Rattle.std.proofs.Common.{◌≡◌, ap, ◌∙◌, subst}
use Rattle.vf_typing.specs.Types.{result_type}
use Rattle.vf_steps.specs.Shown.{value_of}
use Rattle.vf_lower.specs.Settings.{kind}
use Rattle.vf_lower.specs.Operands.{Left, left, left_passed}
use Rattle.vf_lower.specs.Shown.{left_of, outcome_of, setting_of}
use Rattle.vf_lower.specs.Did.{Does}
use Rattle.vf_lower.proofs.Parts.{does_then}
use Rattle.vf_bodies.proofs.change.changed.Goals as goal

pub returns : goal.returns
returns c =
    let s = setting_of c.args.setting.now in
    let g = c.args.change.now in
    let k : c.find_kind.result.ctype ≡ (kind s g.operand.now).ctype = ap (λ x. x.ctype) c.find_kind.ensures in
    let u : c.result_type-ctype.result ≡ result_type g.operator g.ctype (kind s g.operand.now).ctype = c.result_type-ctype.ensures ∙ ap (result_type g.operator g.ctype) k in
    let rest : left_of c.plain.result ≡ left (outcome_of c.in_ok-outcome.outcome) (result_type g.operator g.ctype (kind s g.operand.now).ctype) = c.plain.ensures ∙ ap (left (outcome_of c.in_ok-outcome.outcome)) u in
    does_then value_of _ _ _ _ _ _ _ (rw c.plain-left.ensures at c.in_ok-outcome.ensures)
    (subst (λ (l : Left). Does value_of (left_passed s g.place g.ctype l) c.joined.new.draft c.left_passed.new.draft c.left_passed.result) rest c.left_passed.ensures)
