use Rattle.std.proofs.Common.{◌≡◌, drop}
use Rattle.vf_fixpoint.specs.Cases.{first_stray_case}
use Rattle.vf_fixpoint.proofs.check.first_stray_case.Given as goal

abbrev pub invariant-loop-case : goal.invariant-loop-case
invariant-loop-case l = first_stray_case l.name l.parameter (drop l.case-index l.cases) ≡ first_stray_case l.name l.parameter l.cases
