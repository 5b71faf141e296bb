use Rattle.std.proofs.Common.{drop}
use Rattle.vf_refute.specs.Refutations.{Refute, IsRefutation}
use Rattle.vf_refute.proofs.checking.recheck.Given as goal

abbrev pub invariant-loop-i : goal.invariant-loop-i
invariant-loop-i l = record {
  onward : IsRefutation l.nodes l.facts l.steps → Refute l.nodes l.facts l.known.items (drop l.i l.steps);
  back : Refute l.nodes l.facts l.known.items (drop l.i l.steps) → IsRefutation l.nodes l.facts l.steps;
}
