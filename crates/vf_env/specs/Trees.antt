-- The items that declare a name.
use Rattle.std.specs.Prelude.{◌≡◌, ℕ, suc, Bool, if◌then◌else◌, List, [], ◌∷◌, length, Some, slice_get}
use Rattle.std.specs.List.{list_any}
use Rattle.std.specs.Str.{bytes_eq}
use Rattle.vf_names.specs.Names.{number_of}
use Rattle.vf_syntax.specs.declared.item.Item.{Item}
use Rattle.vf_env.specs.Named.{named, tagged}

-- a name is among names
abbrev pub is_among : List (List ℕ) → List ℕ → Bool
is_among xs x = list_any (bytes_eq x) xs

-- the numbers of the things that pass a test, in order, where the first of all has a number
abbrev pub numbers_where : {A : Type 0} → (A → Bool) → ℕ → List A → List ℕ
numbers_where test n [] = []
numbers_where test n (x ∷ xs) = if test x then n ∷ numbers_where test (suc n) xs else numbers_where test (suc n) xs

-- the numbers of the items that declare a name in some way, counted from 0, in the order of the text
abbrev pub declaring : (Item → List (List ℕ)) → List ℕ → List Item → List ℕ
declaring declared x items = numbers_where (λ item. is_among (declared item) x) 0 items

-- the numbers of the items that declare a name of file level
abbrev pub trees_of : List ℕ → List Item → List ℕ
trees_of x items = declaring named x items

-- the numbers of the items that declare a tag
abbrev pub tag_trees_of : List ℕ → List Item → List ℕ
tag_trees_of x items = declaring tagged x items

-- beside names stand lists of numbers, one for each: at the number of a name those of the items that declare it in some way
pub record HasTrees (declared : Item → List (List ℕ)) (names : List (List ℕ)) (items : List Item) (trees : List (List ℕ)) : Type 0 where
  pub beside : length trees ≡ length names
  pub lists : (x : List ℕ) (k : ℕ) → number_of names x ≡ Some k → slice_get trees k ≡ Some (declaring declared x items)
