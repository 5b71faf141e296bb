-- Written by tools/gen_syntax.py: change it there.
-- What the code has of truth values, as pure data.
use Rattle.vf_resolved.specs.TruthTree.{TruthTree}
use Rattle.vf_resolved.specs.TruthTree as tree
use Rattle.vf_resolved.specs.declared.truth.TruthNode.{TruthNode}
use Rattle.vf_resolved.specs.declared.truth.TruthNode.TheVariants as truth_nodes

-- what a node stands for
abbrev pub truth_of : TruthNode → TruthTree
truth_of (truth_nodes.Value a) = tree.value a
truth_of (truth_nodes.Comparison a b c d) = tree.comparison a b c.value d.value
truth_of (truth_nodes.Not a) = tree.not_ a.value
truth_of (truth_nodes.And a b) = tree.and_ a.value b.value
truth_of (truth_nodes.Or a b) = tree.or_ a.value b.value
truth_of (truth_nodes.Choice a b c) = tree.choice a.value b.value c.value
