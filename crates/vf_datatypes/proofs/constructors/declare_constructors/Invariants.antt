use Rattle.std.proofs.Common.{◌≡◌, drop}
use Rattle.vf_datatypes.specs.Datatypes.{constructors_behind}
use Rattle.vf_datatypes.proofs.constructors.declare_constructors.Given as goal

-- the constructors that are left come to the same as all of them
abbrev pub invariant-loop-at : goal.invariant-loop-at
invariant-loop-at l = constructors_behind l.fn.stated l.fn.own (drop l.at l.fn.written) l.scope ≡ constructors_behind l.fn.stated l.fn.own l.fn.written l.initial.scope
