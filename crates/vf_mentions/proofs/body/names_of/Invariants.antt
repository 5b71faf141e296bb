use Rattle.std.proofs.Common.{◌≡◌, ◌++◌, drop}
use Rattle.vf_mentions.specs.Bodies.{names_of}
use Rattle.vf_mentions.proofs.body.names_of.Given as goal

-- the names so far and those of the parameters that are left
abbrev pub invariant-loop-at : goal.invariant-loop-at
invariant-loop-at l = l.names ++ names_of (drop l.at l.fn.typed) ≡ names_of l.fn.typed
