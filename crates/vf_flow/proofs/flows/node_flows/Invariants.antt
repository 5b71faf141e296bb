use Rattle.std.proofs.Common.{◌≡◌, take}
use Rattle.vf_steps.specs.Shown.{nodes_of}
use Rattle.vf_flow.specs.Steps.{flows_of}
use Rattle.vf_flow.proofs.flows.node_flows.Given as goal

-- those so far are the first
abbrev pub invariant-loop-node : goal.invariant-loop-node
invariant-loop-node l = l.all ≡ flows_of (nodes_of (take l.node-index l.node-items))
