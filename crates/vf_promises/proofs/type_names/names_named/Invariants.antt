use Rattle.std.proofs.Common.{◌≡◌, ◌-◌, drop, length}
use Rattle.vf_promises.specs.TypeNames.{names_behind}
use Rattle.vf_promises.proofs.type_names.names_named.Given as goal

-- the names are those that the last declarations tell
abbrev pub invariant-loop-done : goal.invariant-loop-done
invariant-loop-done l = l.names ≡ names_behind l.scope l.named (drop (length l.scope.names - l.done) l.scope.names) (drop (length l.scope.names - l.done) l.scope.declarations) l.count
