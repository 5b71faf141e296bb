use Rattle.std.proofs.Common.{drop, Result}
use Rattle.vf_base.specs.declared.refusal.RuleFault.{RuleFault}
use Rattle.vf_binding.specs.declared.bound.Bound.{Bound}
use Rattle.vf_asserting.specs.Answers.{AreNamed}
use Rattle.vf_asserting.proofs.cases.names_bound.Given as goal

-- what is answered for the names that are left is the answer for all
abbrev pub invariant-loop-at : goal.invariant-loop-at
invariant-loop-at l = (r : Result (Unit {0}) RuleFault) (b : Bound) → AreNamed l.fn.scope l.bound (drop l.at l.fn.names) (drop l.at l.fn.sorts) r b → AreNamed l.fn.scope l.fn.bound l.fn.names l.fn.sorts r b
