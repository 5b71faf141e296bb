use Rattle.std.proofs.Common.{length, drop, Result}
use Rattle.vf_base.specs.declared.refusal.RuleFault.{RuleFault}
use Rattle.vf_sorts.specs.Unknowns.{AreBelow, Known}
use Rattle.vf_binding.specs.declared.bound.Bound.{Bound}
use Rattle.vf_binding.specs.Answers.{AreBound}
use Rattle.vf_binding.proofs.patterns.patterns_bound.Given as goal

-- what is answered for the patterns that are left is the answer for all
abbrev pub invariant-loop-at : goal.invariant-loop-at
invariant-loop-at l = record {
  below : AreBelow (length l.unknowns) l.fn.sorts;
  on : (r : Result (Unit {0}) RuleFault) (k : Known) (b : Bound) → AreBound l.fn.scope l.fn.context l.unknowns l.bound (drop l.at l.fn.sorts) (drop l.at l.fn.patterns) r k b → AreBound l.fn.scope l.fn.context l.fn.unknowns l.fn.bound l.fn.sorts l.fn.patterns r k b;
}
