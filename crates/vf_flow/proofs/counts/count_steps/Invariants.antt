use Rattle.std.proofs.Common.{◌≡◌, ◌≤◌, length}
use Rattle.vf_flow.specs.Tables.{Lists, steps_before}
use Rattle.vf_flow.proofs.counts.count_steps.Given as goal

-- the counts so far are right, and so is the next; no more nodes are steps than were counted
abbrev pub invariant-loop-at : goal.invariant-loop-at
invariant-loop-at l = record {
  size : length l.numbers ≡ l.at;
  right : Lists (steps_before l.flows) l.numbers;
  next : l.count ≡ steps_before l.flows l.at;
  most : l.count ≤ l.at;
}
