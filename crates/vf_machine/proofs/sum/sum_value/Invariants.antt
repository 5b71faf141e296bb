use Rattle.std.proofs.Common.{◌≡◌, take}
use Rattle.std.specs.List.{fold}
use Rattle.vf_tree.specs.Shown.{operand_of, linked}
use Rattle.vf_model.specs.Values.{Number}
use Rattle.vf_model.specs.Evaluation.{evaluate, Gives}
use Rattle.vf_machine.specs.Machine.{values_of}
use Rattle.vf_machine.proofs.sum.sum_value.Given as goal

-- the sum up to the link has the value
abbrev pub invariant-loop-link : goal.invariant-loop-link
invariant-loop-link l =
    evaluate (values_of l.locals) (fold linked (operand_of l.sum.first) (take l.link-index l.link-items)) ≡ Gives (Number l.value)
