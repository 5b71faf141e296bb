use Rattle.std.proofs.Common.{rules, ◌≡◌}
use Rattle.vf_lower.specs.Lowering.{gives, ◌⨾◌}
use Rattle.vf_lower.specs.Conversions.{is_set}
use Rattle.vf_lower.specs.Operands.{as_test, as_value}
use Rattle.vf_lower.specs.Shown.{outcome_of, setting_of}
use Rattle.vf_lower.proofs.Parts.{did_give, did_given, did_same, did_then}
use Rattle.vf_lower.proofs.operand.as_test.Goals as goal

pub returns-in-Holds : goal.returns-in-Holds
returns-in-Holds c = did_given _ _ _ (search rules)

pub returns-in_ok-value-in_default : goal.returns-in_ok-value-in_default
returns-in_ok-value-in_default c =
    let s = setting_of c.args.setting.now in
    let same : as_test s c.args.ctype c.args.place (outcome_of c.args.outcome) ≡ as_value s c.args.ctype c.args.place (outcome_of c.args.outcome) ⨾ (λ v. gives (is_set c.args.ctype v)) = search rules in did_same _ _ _ _ _ same (did_then _ _ _ _ _ _ _ c.in_ok-value-in_default.ensures (rw c.is_set.ensures (did_give _ _)))
