-- What a whole unit declares, or its first refusal in the order of the text.
use Rattle.std.specs.Prelude.{◌≡◌, List, Result, Ok, Err}
use Rattle.vf_base.specs.declared.refusal.RuleFault.{RuleFault}
use Rattle.vf_declared.specs.declared.scope.Scope.{Scope}
use Rattle.vf_syntax.specs.declared.item.Item.{Item}
use Rattle.vf_sorting.specs.Answers.{Answers}
use Rattle.vf_datatypes.specs.declared.stated.Stated.{Stated}
use Rattle.vf_walk.specs.Items.{WalksItems}
use Rattle.vf_walk.specs.Walking.{Walked}
use Rattle.vf_gathering.specs.Named.{datatypes_in}
use Rattle.vf_gathering.specs.Standing.{Tells, no_names, with_names}
use Rattle.vf_annotations.specs.Forms.{meanings}
use Rattle.vf_resolve.specs.declared.files.Files.{Files}
use Rattle.vf_resolve.specs.Beginning.{beginning}

-- items come to what each of them declares, one after the other, or to the first refusal; what their annotations declare goes by a table that tells in which files the datatypes of the unit stand
pub record ItemsCome (xs : List Item) (s : Scope) (w : Walked) : Type 0 where
  pub stated : Stated
  pub tells : Tells (datatypes_in xs) stated
  pub is : stated ≡ with_names no_names (datatypes_in xs)
  pub walks : WalksItems (meanings stated) xs s w

-- an answer for a unit is what it declares, or its first refusal
pub record IsResolved (f : Files) (xs : List Item) (r : Result Scope RuleFault) : Type 0 where
  pub answers : Answers (λ s. ItemsCome xs (beginning f xs) (Ok s)) (λ x. ItemsCome xs (beginning f xs) (Err x)) r
