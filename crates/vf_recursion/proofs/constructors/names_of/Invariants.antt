use Rattle.std.proofs.Common.{◌≡◌, take}
use Rattle.vf_recursion.specs.Faults.{names_of}
use Rattle.vf_recursion.proofs.constructors.names_of.Given as goal

-- the names so far are there
abbrev pub invariant-loop-constructor : goal.invariant-loop-constructor
invariant-loop-constructor l = l.names ≡ names_of (take l.constructor-index l.constructors)
