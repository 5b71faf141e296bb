use Rattle.std.proofs.Common.{take}
use Rattle.vf_env.specs.Named.{named}
use Rattle.vf_env.specs.Trees.{HasTrees}
use Rattle.vf_env.proofs.trees.beside_names.Given as goal

-- the lists are those of the first items
abbrev pub invariant-loop-at : goal.invariant-loop-at
invariant-loop-at l = HasTrees named l.fn.names (take l.at l.fn.items) l.trees
