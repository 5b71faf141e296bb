-- What things are called among all files of a program.
use Rattle.std.specs.Prelude.{ℕ, List}

-- an identity: the path of the file of a thing's first declaration, and its name
pub record Identity : Type 0 where
  pub path : List ℕ
  pub name : List ℕ
