use Rattle.std.proofs.Common.{◌≡◌, drop}
use Rattle.vf_fixpoint.specs.Cases.{are_covered}
use Rattle.vf_fixpoint.proofs.cases.are_covered.Given as goal

abbrev pub invariant-loop-constructor : goal.invariant-loop-constructor
invariant-loop-constructor l = are_covered (drop l.constructor-index l.fn.constructors) l.fn.cases ≡ are_covered l.fn.constructors l.fn.cases
