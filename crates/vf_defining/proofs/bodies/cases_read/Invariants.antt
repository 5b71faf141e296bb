use Rattle.std.proofs.Common.{◌≡◌, ◌++◌, drop}
use Rattle.vf_defining.specs.Bodies.{cases_of}
use Rattle.vf_defining.specs.Symbols.{without_locals}
use Rattle.vf_defining.proofs.bodies.cases_read.Given as goal

-- the cases that were read, with those that are left, are all; and nothing but locals has changed
abbrev pub invariant-loop-at : goal.invariant-loop-at
invariant-loop-at l = record {
  read : l.all ++ cases_of l.context l.unknowns l.paths l.sort l.count l.scope l.next (drop l.at l.cases)
      ≡ cases_of l.fn.context l.fn.unknowns l.fn.paths l.fn.sort l.fn.count l.fn.scope l.fn.count l.fn.cases;
  alone : without_locals l.scope ≡ without_locals l.fn.scope;
}
