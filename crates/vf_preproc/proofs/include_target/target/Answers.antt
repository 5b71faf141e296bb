use Rattle.std.proofs.Common.{◌≡◌, List, ℕ, true, arith, sym, ap, ◌∙◌, subst, refl, Err}
use Rattle.vf_preproc.specs.Targets.{quoted_target, angle_target, between_quotes, is_less_kind, closed_target, closing}
use Rattle.vf_base.specs.declared.rule.Rule.TheVariants as rules_of
use Rattle.vf_preproc.specs.Directives.{Refused}
use Rattle.vf_preproc.specs.Answers.{Gives, Fails}
use Rattle.vf_preproc.proofs.Targeting.{rest_all, target_quoted, target_angle, closed_some, closed_none}
use Rattle.vf_preproc.proofs.include_target.target.Goals as goal

pub returns-then-is_literal : goal.returns-then-is_literal
returns-then-is_literal c =
    subst (Gives (λ path. path) c.quoted_target.result) (sym (target_quoted c.args.is_ghost c.args.file.now c.args.bytes.now c.args.hash c.args.words.now c.first-item.result (omega arith) (omega arith) c.first-item.is (sym c.if-is_literal.ensures)))
    (subst (λ (name : List ℕ). Gives (λ path. path) c.quoted_target.result (quoted_target c.args.is_ghost c.args.file.now c.args.hash name)) (c.between_quotes.ensures ∙ ap between_quotes c.as_bytes.ensures) c.quoted_target.ensures)

pub returns-in-Some : goal.returns-in-Some
returns-in-Some c =
    let less : is_less_kind c.first-item-2.result.kind ≡ true = sym c.if-not-is_less.ensures in
    subst (Gives (λ path. path) c.angle_target.result) (sym (target_angle c.args.is_ghost c.args.file.now c.args.bytes.now c.args.hash c.args.words.now c.first-item-2.result (omega arith) c.first-item-2.is less ∙ ap (λ ts. closed_target c.args.is_ghost c.args.bytes.now c.args.hash c.first-item-2.result (closing ts)) (sym (rest_all c.args.words.now)) ∙ closed_some c.args.is_ghost c.args.bytes.now c.args.hash c.first-item-2.result _ c.in-Some.to c.in-Some.ensures))
    (subst (λ (name : List ℕ). Gives (λ path. path) c.angle_target.result (angle_target c.args.is_ghost c.args.hash name)) c.between.ensures c.angle_target.ensures)

pub returns-in-None : goal.returns-in-None
returns-in-None c =
    let less : is_less_kind c.first-item-2.result.kind ≡ true = sym c.if-not-is_less.ensures in
    subst (Fails c.directive-in-None.result) (sym (target_angle c.args.is_ghost c.args.file.now c.args.bytes.now c.args.hash c.args.words.now c.first-item-2.result (omega arith) c.first-item-2.is less ∙ ap (λ ts. closed_target c.args.is_ghost c.args.bytes.now c.args.hash c.first-item-2.result (closing ts)) (sym (rest_all c.args.words.now)) ∙ closed_none c.args.is_ghost c.args.bytes.now c.args.hash c.first-item-2.result _ c.in-None.ensures))
    (subst (λ e. Fails e (Err (Refused rules_of.Directive c.args.hash))) (sym c.directive-in-None.ensures) (refl, refl))
