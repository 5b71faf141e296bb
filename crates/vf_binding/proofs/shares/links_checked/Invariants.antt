use Rattle.std.proofs.Common.{drop, Result}
use Rattle.vf_base.specs.declared.refusal.RuleFault.{RuleFault}
use Rattle.vf_sorts.specs.Unknowns.{Known}
use Rattle.vf_binding.specs.Answers.{AreFactors}
use Rattle.vf_binding.proofs.shares.links_checked.Given as goal

-- what is answered for the factors that are left is the answer for all
abbrev pub invariant-loop-at : goal.invariant-loop-at
invariant-loop-at l = (r : Result (Unit {0}) RuleFault) (k : Known) → AreFactors l.fn.scope l.fn.context l.unknowns (drop l.at l.fn.links) r k → AreFactors l.fn.scope l.fn.context l.fn.unknowns l.fn.links r k
