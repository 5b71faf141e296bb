use Rattle.std.proofs.Common.{◌≡◌, map, take}
use Rattle.vf_core.specs.Shown.{expressions_of}
use Rattle.vf_steps.specs.Core.{expression_tree}
use Rattle.vf_steps.specs.Shown.{values_of}
use Rattle.vf_flow.specs.Named.{naming_of}
use Rattle.vf_flow.proofs.expression.expressions.Given as goal

-- those so far are the first
abbrev pub invariant-loop-value : goal.invariant-loop-value
invariant-loop-value l = expressions_of l.naming.names.now l.all ≡ map (expression_tree (naming_of l.naming)) (values_of (take l.value-index l.value-items))
