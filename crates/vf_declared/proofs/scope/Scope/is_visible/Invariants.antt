use Rattle.std.proofs.Common.{◌≡◌, drop}
use Rattle.vf_declared.specs.Scopes.{is_visible}
use Rattle.vf_declared.proofs.scope.Scope.is_visible.Given as goal

-- one of the files that are left is seen where one of all is
abbrev pub invariant-loop-at : goal.invariant-loop-at
invariant-loop-at l = is_visible l.fn.self l.fn.from (drop l.at l.fn.files) ≡ is_visible l.fn.self l.fn.from l.fn.files
