use Rattle.std.proofs.Common.{◌≡◌, ◌≤◌, [], length, drop}
use Rattle.vf_first.specs.FirstForm.{steps_of}
use Rattle.vf_first.proofs.Loops.{with_steps}
use Rattle.vf_first.proofs.statements.steps_of.Given as goal

-- the steps that were read and those that are left are all
abbrev pub invariant-loop-at : goal.invariant-loop-at
invariant-loop-at l = record {
  count : l.count ≡ length l.fn.all;
  few : length l.names ≤ l.at;
  so_far : with_steps l.steps (steps_of l.names l.at (drop l.at l.fn.all)) ≡ steps_of [] 0 l.fn.all;
}
