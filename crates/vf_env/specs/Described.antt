-- What a unit declares, each name with the items that declare it.
use Rattle.std.specs.Prelude.{◌≡◌, ℕ, List, Option, Result}
use Rattle.std.specs.Option.{option_map}
use Rattle.vf_names.specs.Names.{number_of}
use Rattle.vf_declared.specs.declared.scope.Scope.{Scope}
use Rattle.vf_base.specs.declared.refusal.RuleFault.{RuleFault}
use Rattle.vf_syntax.specs.declared.item.Item.{Item}
use Rattle.vf_sorting.specs.Answers.{Answers}
use Rattle.vf_defining.specs.Symbols.{without_locals}
use Rattle.vf_defining.specs.Units.{HaveDefinitions, AnyIsRefused}
use Rattle.vf_env.specs.declared.env.Env.{Env}
use Rattle.vf_env.specs.Named.{named, tagged}
use Rattle.vf_env.specs.Trees.{HasTrees, declaring}

-- beside the names and tags of what is declared stand the numbers of the items that declare each
pub record IsDescribed (items : List Item) (e : Env) : Type 0 where
  pub names : HasTrees named e.scope.names items e.trees
  pub tags : HasTrees tagged e.scope.tags items e.tag_trees

-- items with what they declare, and with their fixpoints as definitions, of which the paths of files tell the identities
pub record Describes (s : Scope) (paths : List (List ℕ)) (items : List Item) (e : Env) : Type 0 where
  pub scope : e.scope ≡ without_locals s
  pub is : IsDescribed items e
  pub definitions : HaveDefinitions (without_locals s) paths items e.definitions

-- an answer for items is what they declare, or the refusal of the body of a fixpoint
pub record AreDescribed (s : Scope) (paths : List (List ℕ)) (items : List Item) (r : Result Env RuleFault) : Type 0 where
  pub answers : Answers (Describes s paths items) (AnyIsRefused (without_locals s) items) r

-- the numbers of the items that declare a name in some way, where it is among names
abbrev pub declaring_among : (Item → List (List ℕ)) → List (List ℕ) → List ℕ → List Item → Option (List ℕ)
declaring_among declared names x items = option_map (λ k. declaring declared x items) (number_of names x)
