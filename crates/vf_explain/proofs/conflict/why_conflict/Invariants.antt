use Rattle.std.proofs.Common.{◌≡◌}
use Rattle.std.specs.Prelude.{take}
use Rattle.vf_arith.specs.Paths.{HasNegativeCycle}
use Rattle.vf_explain.proofs.conflict.why_conflict.Given as goal

abbrev pub invariant-loop-i : goal.invariant-loop-i
invariant-loop-i l = record {
  log : l.log ≡ l.fn.log;
  size : l.before.size ≡ l.bounds.size;
  edges : l.before.edges ≡ take l.i l.bounds.edges;
  fine : HasNegativeCycle l.before.edges → ⊥;
}
