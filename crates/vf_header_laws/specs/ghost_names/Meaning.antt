-- What names mean of annotations where they are looked up from a file.
use Rattle.std.specs.Prelude.{◌≡◌, ℕ, List, Option, Some}
use Rattle.vf_declared.specs.declared.declaration.GhostDeclaration.TheVariants as ghosts
use Rattle.vf_declared.specs.declared.scope.Scope.{Scope}
use Rattle.vf_declared.specs.Scopes.{declaration_of, ghost_of}
use Rattle.vf_asserting.specs.Cases.{ghost_number}

-- what a name means of annotations in a file, by its number
abbrev pub ghost_at : Scope → List ℕ → ℕ → Option ℕ
ghost_at s name from = ghost_number (declaration_of s name from)

-- a name means the datatype with a number in a file
pub record MeansDatatype (s : Scope) (name : List ℕ) (from datatype : ℕ) : Type 0 where
  pub number : ℕ
  pub means : ghost_at s name from ≡ Some number
  pub is : ghost_of s number ≡ Some (ghosts.Datatype datatype)
