use Rattle.std.proofs.Common.{◌≡◌, ◌++◌, drop}
use Rattle.vf_gathering.specs.Told.{told_parameters}
use Rattle.vf_gathering.proofs.telling.told_parameters.Given as goal

-- the sorts that are told and those that are left come to all
abbrev pub invariant-loop-parameter : goal.invariant-loop-parameter
invariant-loop-parameter l = told_parameters l.fn.ahead l.fn.parameters ≡ l.all ++ told_parameters l.fn.ahead (drop l.parameter-index l.fn.parameters)
