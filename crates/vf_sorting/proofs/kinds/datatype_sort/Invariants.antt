use Rattle.std.proofs.Common.{◌≡◌}
use Rattle.vf_sorting.specs.Kinds.{parameter_sorts}
use Rattle.vf_sorting.proofs.kinds.datatype_sort.Given as goal

abbrev pub invariant-loop-parameter : goal.invariant-loop-parameter
invariant-loop-parameter l = l.parts ≡ parameter_sorts l.parameter
