use Rattle.std.proofs.Common.{◌≡◌, drop}
use Rattle.vf_datatypes.specs.NewNames.{parameters_behind}
use Rattle.vf_datatypes.proofs.names.add_parameters.Given as goal

-- the type parameters that are left come to the same as all of them
abbrev pub invariant-loop-at : goal.invariant-loop-at
invariant-loop-at l = parameters_behind l.fn.scope (drop l.at l.fn.written) l.parameters ≡ parameters_behind l.fn.scope l.fn.written l.initial.parameters
