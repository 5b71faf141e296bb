use Rattle.std.proofs.Common.{rules, ◌≡◌}
use Rattle.vf_steps.specs.Shown.{value_of, values_of}
use Rattle.vf_lower.specs.Lowering.{◌⨾◌, does, gives}
use Rattle.vf_lower.specs.Operands as operands
use Rattle.vf_lower.specs.Expressions.{called_with, void_call}
use Rattle.vf_lower.specs.Shown.{setting_of}
use Rattle.vf_lower.proofs.Parts.{did_give, did_given, did_same, did_then}
use Rattle.vf_lower.proofs.call.called_with.Goals as goal

pub returns : goal.returns
returns c = did_given _ _ _ (search rules)

pub returns-then-is_void : goal.returns-then-is_void
returns-then-is_void c =
    let s = setting_of c.args.setting.now in
    let whole = called_with s c.args.place c.args.ctype (value_of c.args.callee) (values_of c.args.arguments) in
    let same : whole ≡ does s.statement (void_call c.args.ctype (value_of c.args.callee) (values_of c.args.arguments) c.args.place) ⨾ (λ u. gives operands.nothing) = search rules in
    did_same _ _ _ _ _ same (did_then _ _ _ _ _ _ _ (rw c.void_call.ensures at c.in_ok-add.ensures) (did_give _ _))
