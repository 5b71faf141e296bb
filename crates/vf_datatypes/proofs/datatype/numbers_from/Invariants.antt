use Rattle.std.proofs.Common.{◌≡◌, ◌++◌, drop}
use Rattle.vf_datatypes.specs.Datatypes.{numbers_from}
use Rattle.vf_datatypes.proofs.datatype.numbers_from.Given as goal

-- the numbers that are made and those that are left come to all
abbrev pub invariant-loop-at : goal.invariant-loop-at
invariant-loop-at l = l.numbers ++ numbers_from l.at (drop l.at l.fn.scope.ghosts) ≡ numbers_from l.fn.first (drop l.fn.first l.fn.scope.ghosts)
