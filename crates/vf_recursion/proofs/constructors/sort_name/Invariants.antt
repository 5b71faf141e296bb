use Rattle.std.proofs.Common.{◌≡◌, drop}
use Rattle.vf_recursion.specs.Faults.{sort_name}
use Rattle.vf_recursion.proofs.constructors.sort_name.Given as goal

-- what is found among the parameters that are left is what is found
abbrev pub invariant-loop-parameter : goal.invariant-loop-parameter
invariant-loop-parameter l = sort_name (drop l.parameter-index l.parameters) l.name ≡ sort_name l.parameters l.name
