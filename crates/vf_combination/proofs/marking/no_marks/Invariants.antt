use Rattle.std.proofs.Common.{◌≡◌, ℕ, ◌<◌, length}
use Rattle.vf_combination.specs.Exchanged.{IsUnmarked}
use Rattle.vf_combination.proofs.marking.no_marks.Given as goal

abbrev pub invariant-loop : goal.invariant-loop
invariant-loop l = record {
  long : length l.marks.items ≡ l.counter;
  none : (x : ℕ) → x < l.counter → IsUnmarked l.marks.items x;
}
