use Rattle.std.proofs.Common.{◌≡◌, drop}
use Rattle.vf_walk.specs.Items.{parameters_walked}
use Rattle.vf_walk.proofs.parameters.walk_list.Given as goal

-- the parameters that are left come to the same as all of them
abbrev pub invariant-loop-at : goal.invariant-loop-at
invariant-loop-at l = parameters_walked (drop l.at l.fn.list) l.scope ≡ parameters_walked l.fn.list l.initial.scope
