-- How nodes of parts are put together.
use Rattle.std.specs.Prelude.{◌+◌, List, [], ◌∷◌, ◌++◌, length, Option}
use Rattle.vf_base.specs.declared.place.Place.{Place}
use Rattle.vf_syntax.specs.declared.contract.Invariant.{Invariant}
use Rattle.vf_steps.specs.Tree.{NodeTree}
use Rattle.vf_steps.specs.Tree as steps
use Rattle.vf_lower.specs.Branches.{Test, if_step, node}

-- the nodes of a part that are done only where a test holds, in the statement at a place
abbrev pub skipped : Place → Test → List NodeTree → List NodeTree
skipped p x ns = node p (if_step x (length ns)) ∷ ns

-- the nodes of one turn of a loop at a place: those of its test, and those of its body, behind which it comes back
abbrev pub turn : Place → Test → List NodeTree → List NodeTree → List NodeTree
turn p x ms ns = ms ++ node p (if_step x (length ns + 1)) ∷ ns

-- the nodes of a loop at a place, whose body ends with a token, given those of one turn
abbrev pub around : Place → Option Invariant → Place → List NodeTree → List NodeTree
around p i last ns = node p (steps.loop i (length ns + 1) last) ∷ ns ++ node p (steps.back (length ns)) ∷ node p steps.exit ∷ []
