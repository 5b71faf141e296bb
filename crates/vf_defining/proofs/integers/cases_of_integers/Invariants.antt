use Rattle.std.proofs.Common.{◌≡◌, map, take}
use Rattle.vf_defining.specs.Units.{case_of_integers}
use Rattle.vf_defining.proofs.integers.cases_of_integers.Given as goal

abbrev pub invariant-loop-case : goal.invariant-loop-case
invariant-loop-case l = l.taken ≡ map case_of_integers (take l.case-index l.case-items)
