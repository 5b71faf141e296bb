use Rattle.std.proofs.Common.{◌≡◌, ◌-◌, drop, length}
use Rattle.vf_plain.specs.Identities.{identities_behind, paths_of}
use Rattle.vf_plain.proofs.names.identities_named.Given as goal

-- the identities are those that the last names tell
abbrev pub invariant-loop-done : goal.invariant-loop-done
invariant-loop-done l = l.texts ≡ identities_behind l.named (paths_of l.snapshot) (drop (length l.scope.names - l.done) l.scope.names) (drop (length l.scope.names - l.done) l.scope.declarations) l.count
