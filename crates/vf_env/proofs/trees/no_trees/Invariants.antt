use Rattle.std.proofs.Common.{◌≡◌, [], map, take}
use Rattle.vf_env.proofs.trees.no_trees.Given as goal

-- each of the first names has an empty list
abbrev pub invariant-loop-name : goal.invariant-loop-name
invariant-loop-name l = l.trees ≡ map (λ name. []) (take l._name-index l.fn.names)
