-- The names that items declare.
use Rattle.std.specs.Prelude.{◌≡◌, ℕ, List, [], ◌∷◌, Option, Some, slice_get}
use Rattle.std.specs.List.{flat_map, position_from}
use Rattle.vf_names.specs.Names.{put}
use Rattle.vf_declared.specs.declared.scope.Scope.{Scope}
use Rattle.vf_syntax.specs.declared.item.Item.{Item}
use Rattle.vf_env.specs.Named.{named, tagged}
use Rattle.vf_env.specs.Trees.{declaring, is_among}

-- names, and behind them others in order, each unless it is there already
abbrev pub put_all : List (List ℕ) → List (List ℕ) → List (List ℕ)
put_all names [] = names
put_all names (x ∷ xs) = put_all (put names x) xs

-- the names that items declare in some way, each once, in the order of their first declarations
abbrev pub declared_by : (Item → List (List ℕ)) → List Item → List (List ℕ)
declared_by declared items = put_all [] (flat_map declared items)

-- what is declared has the names and the tags that items declare
pub record HasNames (items : List Item) (s : Scope) : Type 0 where
  pub names : s.names ≡ declared_by named items
  pub tags : s.tags ≡ declared_by tagged items

-- the number of the first item that declares a name in some way
abbrev pub first_declaring : (Item → List (List ℕ)) → List ℕ → List Item → Option ℕ
first_declaring declared x items = position_from (λ item. is_among (declared item) x) 0 items

-- the list at a number is that of the items that declare a name in some way, of which there is one, and it begins with the first of them
pub record HasFirst (declared : Item → List (List ℕ)) (x : List ℕ) (items : List Item) (trees : List (List ℕ)) (k : ℕ) : Type 0 where
  pub first : ℕ
  pub more : List ℕ
  pub list : slice_get trees k ≡ Some (first ∷ more)
  pub whole : declaring declared x items ≡ first ∷ more
  pub is_first : first_declaring declared x items ≡ Some first
