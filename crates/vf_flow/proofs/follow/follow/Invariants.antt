use Rattle.std.proofs.Common.{◌≡◌, ◌-◌, ◌≤◌, length}
use Rattle.vf_flow.specs.Leads.{leads, step_number}
use Rattle.vf_flow.proofs.follow.follow.Given as goal

-- the node that the way has come to leads where the first one does
abbrev pub invariant-loop-turn : goal.invariant-loop-turn
invariant-loop-turn l = record {
  within : l.at ≤ length l.flows;
  same : leads (length l.flows - l.turn) l.flows l.at ≡ step_number l.flows l.node;
}
