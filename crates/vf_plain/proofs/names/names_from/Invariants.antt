use Rattle.std.proofs.Common.{◌≡◌, List, ◌++◌, length, take}
use Rattle.vf_tree.specs.Core.{Identity}
use Rattle.vf_flow.specs.Named.{identities}
use Rattle.vf_plain.proofs.names.names_from.Given as goal

-- the names so far are those of the first texts
abbrev pub invariant-loop-at : goal.invariant-loop-at
invariant-loop-at l = (before texts behind : List Identity) → length before ≡ l.first → length texts ≡ l.count → identities (before ++ texts ++ behind) l.names ≡ take l.at texts
