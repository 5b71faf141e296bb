use Rattle.std.proofs.Common.{◌≡◌, ◌≤◌, drop, length}
use Rattle.vf_chunk.specs.Shares.{divided_out}
use Rattle.vf_chunk.proofs.Dividing.{behind}
use Rattle.vf_chunk.proofs.share.divided_out.Given as goal

abbrev pub invariant-loop-factor : goal.invariant-loop-factor
invariant-loop-factor l = record {
  within : l.next ≤ length l.divisors;
  left : behind l.left (divided_out (drop l.factor-index l.factors) (drop l.next l.divisors)) ≡ divided_out l.factors l.divisors;
}
