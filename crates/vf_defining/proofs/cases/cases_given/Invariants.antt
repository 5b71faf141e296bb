use Rattle.std.proofs.Common.{drop, Result}
use Rattle.vf_base.specs.declared.refusal.RuleFault.{RuleFault}
use Rattle.vf_sorts.specs.Unknowns.{Known}
use Rattle.vf_declared.specs.declared.scope.Scope.{Scope}
use Rattle.vf_equations.specs.Answers.{AreCases}
use Rattle.vf_defining.proofs.cases.cases_given.Given as goal

-- whatever the cases that are left may come to, all of them may come to
abbrev pub invariant-loop-at : goal.invariant-loop-at
invariant-loop-at l = (r : Result (Unit {0}) RuleFault) (s : Scope) (k : Known) → AreCases l.fn.context l.fn.sort l.fn.count l.scope l.unknowns (drop l.at l.fn.cases) r s k → AreCases l.fn.context l.fn.sort l.fn.count l.fn.scope l.fn.unknowns l.fn.cases r s k
