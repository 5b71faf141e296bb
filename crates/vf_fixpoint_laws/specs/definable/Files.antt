-- Files that see others.
use Rattle.std.specs.Prelude.{◌≡◌, ℕ, true}
use Rattle.vf_declared.specs.declared.scope.Scope.{Scope}
use Rattle.vf_declared.specs.Scopes.{sees}

-- a file sees all that each file sees which it sees
abbrev pub SeesThrough : Scope → Type 0
SeesThrough s = (from through file : ℕ) → sees s from through ≡ true → sees s through file ≡ true → sees s from file ≡ true
