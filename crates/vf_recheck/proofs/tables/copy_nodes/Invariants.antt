use Rattle.std.proofs.Common.{◌≡◌, map, take}
use Rattle.vf_question.specs.Tabled.{entries}
use Rattle.vf_recheck.proofs.tables.copy_nodes.Given as goal

abbrev pub invariant-loop-node : goal.invariant-loop-node
invariant-loop-node l = map entries l.copies.items ≡ map entries (take l.node-index l.nodes)
