use Rattle.std.proofs.Common.{◌≡◌, drop}
use Rattle.vf_equations.specs.Switching.{are_constructors}
use Rattle.vf_defining.proofs.switching.are_constructors.Given as goal

-- the cases that are left decide
abbrev pub invariant-loop-case : goal.invariant-loop-case
invariant-loop-case l = are_constructors l.scope l.datatype (drop l.case-index l.cases) ≡ are_constructors l.scope l.datatype l.cases
