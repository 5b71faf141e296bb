use Rattle.std.proofs.Common.{◌≡◌, drop}
use Rattle.vf_heads.specs.Parameters.{parameters_behind}
use Rattle.vf_heads.proofs.parameters.declare_parameters.Given as goal

-- the parameters that are left come to the same as all of them
abbrev pub invariant-loop-at : goal.invariant-loop-at
invariant-loop-at l = parameters_behind l.fn.type_parameters (drop l.at l.fn.written) (record { scope = l.scope; sorts = l.sorts }) ≡ parameters_behind l.fn.type_parameters l.fn.written (record { scope = l.initial.scope; sorts = l.initial.sorts })
