use Rattle.std.proofs.Common.{length, ◌-◌, ◌≡◌, ◌≤◌, take}
use Rattle.vf_prover.proofs.line.shared.Given as goal

abbrev pub invariant-walk : goal.invariant-walk
invariant-walk l = record {
  first : l.count ≤ length l.a;
  second : l.count ≤ length l.b;
  same : take l.count l.a ≡ take l.count l.b;
}

abbrev pub decreases-walk : goal.decreases-walk
decreases-walk l = length l.a - l.count
