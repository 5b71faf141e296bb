-- How much erasing leaves.
use Rattle.std.specs.Prelude.{◌≡◌, List, length}
use Rattle.vf_steps.specs.Tree.{NodeTree}
use Rattle.vf_functions.specs.Erased.{count_kept, erased}

-- as many nodes are left of a body without its annotations as are kept
abbrev pub AsManyAreLeft : Type 0
AsManyAreLeft = (ns : List NodeTree) → length (erased ns) ≡ count_kept ns
