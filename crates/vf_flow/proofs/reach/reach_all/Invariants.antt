use Rattle.std.proofs.Common.{◌≡◌, ◌+◌, length}
use Rattle.vf_flow.specs.Tables.{Lists, reached_backward}
use Rattle.vf_flow.proofs.reach.reach_all.Given as goal

-- those so far are right
abbrev pub invariant-loop-done : goal.invariant-loop-done
invariant-loop-done l = record {
  size : length l.all ≡ l.done + 1;
  right : Lists (reached_backward l.flows) l.all;
}
