use Rattle.std.proofs.Common.{◌≡◌}
use Rattle.vf_resolved_bodies.specs.Bodies.{first_numbers}
use Rattle.vf_resolved_bodies.proofs.bodies.first_numbers.Given as goal

-- the numbers so far are there
abbrev pub invariant-loop-number : goal.invariant-loop-number
invariant-loop-number l = l.numbers ≡ first_numbers l.number
