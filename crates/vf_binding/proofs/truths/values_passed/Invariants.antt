use Rattle.std.proofs.Common.{◌+◌, ◌≤◌, length, drop, Result}
use Rattle.vf_base.specs.declared.refusal.RuleFault.{RuleFault}
use Rattle.vf_sorts.specs.Unknowns.{Known}
use Rattle.vf_syntax.specs.GhostExprTree.{ghost_expr_list}
use Rattle.vf_sorting.specs.Answers.{AreChecked}
use Rattle.vf_binding.specs.Chunks.{values_of}
use Rattle.vf_binding.proofs.truths.values_passed.Given as goal

-- what is answered for the arguments that are left is the answer for all
abbrev pub invariant-loop-at : goal.invariant-loop-at
invariant-loop-at l = record {
  room : l.fn.first + l.fn.scheme.parameters ≤ length l.unknowns;
  on : (r : Result (Unit {0}) RuleFault) (k : Known) → AreChecked l.fn.scope l.fn.context l.unknowns l.fn.first l.fn.scheme.parameters (drop l.at l.fn.scheme.arguments) (ghost_expr_list (drop l.at (values_of l.fn.patterns))) r k → AreChecked l.fn.scope l.fn.context l.fn.unknowns l.fn.first l.fn.scheme.parameters l.fn.scheme.arguments (ghost_expr_list (values_of l.fn.patterns)) r k;
}
