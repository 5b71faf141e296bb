use Rattle.std.proofs.Common.{◌≡◌, ◌≤◌, ℕ, List, length, take}
use Rattle.vf_closure.specs.Closure.{Unfoldings}
use Rattle.vf_formula.specs.declared.literal.Literal as declared
use Rattle.vf_prover.specs.Along.{IsAlong}
use Rattle.vf_prover.proofs.along.step_back.Given as goal

abbrev pub invariant-back : goal.invariant-back
invariant-back l = record {
  long : length l.path.levels ≡ length l.nodes.items;
  few : l.keep ≤ length l.nodes.items;
  nodes : take l.keep l.nodes.items ≡ take l.keep l.initial.nodes.items;
  along : (u : Unfoldings) (facts : List (ℕ × declared.Literal)) → IsAlong u facts l.initial.nodes.items l.initial.path → IsAlong u facts l.nodes.items l.path;
}

abbrev pub decreases-back : goal.decreases-back
decreases-back l = length l.nodes.items
