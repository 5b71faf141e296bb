use Rattle.std.proofs.Common.{◌≡◌, []}
use Rattle.vf_arith.proofs.bounds.Bounds.new.Given as goal

abbrev pub invariant-loop : goal.invariant-loop
invariant-loop l = record {
  size : l.bounds.size ≡ l.counter;
  edges : l.bounds.edges ≡ [];
}
