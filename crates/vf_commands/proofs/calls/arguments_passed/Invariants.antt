use Rattle.std.proofs.Common.{◌+◌, ◌≤◌, length, drop, Result}
use Rattle.vf_base.specs.declared.refusal.RuleFault.{RuleFault}
use Rattle.vf_sorts.specs.Unknowns.{Known}
use Rattle.vf_syntax.specs.GhostExprTree.{ghost_expr_list}
use Rattle.vf_sorting.specs.Answers.{AreChecked}
use Rattle.vf_commands.proofs.calls.arguments_passed.Given as goal

-- what is answered for the arguments that are left is the answer for all
abbrev pub invariant-loop-at : goal.invariant-loop-at
invariant-loop-at l = record {
  room : l.fn.first + l.fn.callee.parameters ≤ length l.unknowns;
  on : (r : Result (Unit {0}) RuleFault) (k : Known) → AreChecked l.fn.scope l.fn.context l.unknowns l.fn.first l.fn.callee.parameters (drop l.at l.fn.callee.arguments) (ghost_expr_list (drop l.at l.fn.arguments)) r k → AreChecked l.fn.scope l.fn.context l.fn.unknowns l.fn.first l.fn.callee.parameters l.fn.callee.arguments (ghost_expr_list l.fn.arguments) r k;
}
