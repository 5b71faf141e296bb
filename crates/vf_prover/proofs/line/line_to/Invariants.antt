use Rattle.std.proofs.Common.{◌≤◌, length, reverse}
use Rattle.vf_prover.proofs.Stepping.{IsLine}
use Rattle.vf_prover.proofs.line.line_to.Given as goal

abbrev pub invariant-climb : goal.invariant-climb
invariant-climb l = IsLine l.trail.facts l.node.number (reverse l.line.items) l.fn.at.number × (l.node.number ≤ length l.trail.facts)

abbrev pub decreases-climb : goal.decreases-climb
decreases-climb l = l.node.number
