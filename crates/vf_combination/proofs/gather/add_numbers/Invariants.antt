use Rattle.std.proofs.Common.{ℕ, ◌<◌}
use Rattle.std.specs.Prelude.{ℤ, pos}
use Rattle.vf_table.specs.Tables.{IsNumber}
use Rattle.vf_ground.specs.Held.{HaveBoundsGrown, HasBoth}
use Rattle.vf_combination.specs.Exchanged.{HaveBoundsGoneOn, OnlyMarkedNear}
use Rattle.vf_combination.proofs.gather.add_numbers.Given as goal

abbrev pub invariant-loop-other : goal.invariant-loop-other
invariant-loop-other l = record {
  on : HaveBoundsGoneOn l.initial.bounds l.bounds;
  marked : OnlyMarkedNear l.initial.bounds l.initial.marks l.bounds l.marks;
  added : HaveBoundsGrown l.nodes l.initial.bounds.edges l.bounds.edges;
  as_number : (o : ℕ) → o < l.other → (c : ℤ) → IsNumber l.nodes l.term c → IsNumber l.nodes o (pos 0) → HasBoth l.bounds.edges l.term o c;
  as_zero : (a : ℕ) → a < l.other → (c : ℤ) → IsNumber l.nodes a c → IsNumber l.nodes l.term (pos 0) → HasBoth l.bounds.edges a l.term c;
}
