use Rattle.std.proofs.Common.{◌≡◌, length}
use Rattle.vf_flow.specs.Leads.{step_number}
use Rattle.vf_flow.specs.Tables.{Lists}
use Rattle.vf_flow.proofs.follow.number_nodes.Given as goal

-- those so far are right
abbrev pub invariant-loop-node : goal.invariant-loop-node
invariant-loop-node l = record {
  size : length l.numbers ≡ l.node;
  right : Lists (step_number l.flows) l.numbers;
}
