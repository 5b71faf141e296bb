use Rattle.std.proofs.Common.{◌≡◌, length, take}
use Rattle.vf_definitions.specs.Unfolded.{unfoldings_of}
use Rattle.vf_prover.specs.Along.{IsAlong}
use Rattle.vf_prover.proofs.along.descend.Given as goal

abbrev pub invariant-loop-i : goal.invariant-loop-i
invariant-loop-i l = record {
  long : length l.nodes.items ≡ l.i;
  nodes : l.nodes.items ≡ take l.i l.line;
  along : IsAlong (unfoldings_of l.definitions) l.trail.facts l.nodes.items l.path;
}
