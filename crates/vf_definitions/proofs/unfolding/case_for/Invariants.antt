use Rattle.std.proofs.Common.{◌≡◌, drop}
use Rattle.vf_definitions.specs.Unfolded.{case_for}
use Rattle.vf_definitions.proofs.unfolding.case_for.Given as goal

abbrev pub invariant-loop-case : goal.invariant-loop-case
invariant-loop-case l = case_for (drop l.case-index l.cases) l.constructor ≡ case_for l.cases l.constructor
