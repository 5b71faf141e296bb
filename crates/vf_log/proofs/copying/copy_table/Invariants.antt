use Rattle.std.proofs.Common.{◌≡◌, ℕ, ◌<◌, length, Some}
use Rattle.std.specs.Prelude.{slice_get}
use Rattle.vf_table.specs.declared.node.Node.{Node}
use Rattle.vf_log.specs.Copies.{IsCopy}
use Rattle.vf_log.proofs.copying.copy_table.Given as goal

abbrev pub invariant-loop-node : goal.invariant-loop-node
invariant-loop-node l = record {
  long : length l.out.items ≡ l.node-index;
  each : (a : ℕ) (node : Node) → a < l.node-index → slice_get l.nodes a ≡ Some node → (copy : Node) × (slice_get l.out.items a ≡ Some copy) × IsCopy node copy;
}
