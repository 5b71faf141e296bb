-- Which names a unit declares, and which items declare each.
use Rattle.std.specs.Prelude.{◌≡◌, ℕ, List, map, Some, Ok, slice_get}
use Rattle.std.specs.List.{list_any}
use Rattle.vf_names.specs.Names.{number_of}
use Rattle.vf_declared.specs.declared.scope.Scope.{Scope}
use Rattle.vf_syntax.specs.declared.item.Item.{Item}
use Rattle.vf_env.specs.declared.env.Env.{Env}
use Rattle.vf_env.specs.Described.{Describes}
use Rattle.vf_env.specs.Named.{named, tagged}
use Rattle.vf_env.specs.Trees.{is_among, tag_trees_of, trees_of}
use Rattle.vf_resolve.specs.declared.files.Files.{Files}
use Rattle.vf_resolve.specs.Beginning.{beginning}
use Rattle.vf_resolve.specs.Units.{ItemsCome}
use Rattle.vf_env_laws.specs.Declared.{HasFirst, HasNames, declared_by}

-- an accepted unit declares the names and the tags of its items, each once, in the order of their first declarations
abbrev pub NamesAreDeclared : Type 0
NamesAreDeclared = (f : Files) (xs : List Item) (s : Scope) → ItemsCome xs (beginning f xs) (Ok s) → HasNames xs s

-- where a name stands among those that items declare is its number: it stands nowhere else
abbrev pub NamesStandOnce : Type 0
NamesStandOnce = (declared : Item → List (List ℕ)) (xs : List Item) (x : List ℕ) (k : ℕ) → slice_get (declared_by declared xs) k ≡ Some x → number_of (declared_by declared xs) x ≡ Some k

-- a name is among those that items declare just where one of the items declares it
abbrev pub OnlyNamesOfItems : Type 0
OnlyNamesOfItems = (declared : Item → List (List ℕ)) (xs : List Item) (x : List ℕ) → is_among (declared_by declared xs) x ≡ list_any (λ item. is_among (declared item) x) xs

-- the name at each number has its trees at that number, and so has each tag
pub record EachHasFirst (xs : List Item) (e : Env) : Type 0 where
  pub names : (x : List ℕ) (k : ℕ) → slice_get e.scope.names k ≡ Some x → HasFirst named x xs e.trees k
  pub tags : (x : List ℕ) (k : ℕ) → slice_get e.scope.tags k ≡ Some x → HasFirst tagged x xs e.tag_trees k

-- where an accepted unit is described, each name and each tag has its trees at its number: they are not none, and the first is the first item that declares it
abbrev pub EachNameHasTrees : Type 0
EachNameHasTrees = (f : Files) (paths : List (List ℕ)) (xs : List Item) (s : Scope) (e : Env) → ItemsCome xs (beginning f xs) (Ok s) → Describes s paths xs e → EachHasFirst xs e

-- beside the names stand their trees, and beside the tags theirs
pub record AreBeside (xs : List Item) (e : Env) : Type 0 where
  pub names : e.trees ≡ map (λ x. trees_of x xs) e.scope.names
  pub tags : e.tag_trees ≡ map (λ x. tag_trees_of x xs) e.scope.tags

-- where an accepted unit is described there is one list for each name, beside it: that of the items that declare the name; and the same of tags
abbrev pub TreesStandBesideNames : Type 0
TreesStandBesideNames = (f : Files) (paths : List (List ℕ)) (xs : List Item) (s : Scope) (e : Env) → ItemsCome xs (beginning f xs) (Ok s) → Describes s paths xs e → AreBeside xs e
