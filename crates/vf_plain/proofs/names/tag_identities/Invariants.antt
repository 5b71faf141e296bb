use Rattle.std.proofs.Common.{◌≡◌, ◌++◌, drop}
use Rattle.vf_plain.specs.Identities.{paths_of, tag_identities}
use Rattle.vf_plain.proofs.names.tag_identities.Given as goal

-- the identities so far, and those of the structs that are left, are all
abbrev pub invariant-loop-at : goal.invariant-loop-at
invariant-loop-at l = l.texts ++ tag_identities (paths_of l.snapshot) (drop l.at l.scope.tags) (drop l.at l.scope.structures) ≡ tag_identities (paths_of l.snapshot) l.scope.tags l.scope.structures
