-- How names are kept: a list, and a map from each name to its number.
use Rattle.std.specs.Prelude.{◌≡◌, ℕ, List}
use Rattle.std.specs.BTreeMap.{BTreeMap, get_by}
use Rattle.std.specs.Ordering.{nat_cmp}
use Rattle.std.specs.Cmp.Lexicographic.{slice_cmp}
use Rattle.std.specs.Global.{Vec}
use Rattle.vf_names.specs.Names.{number_of}

-- the map has the number of each name, and nothing for what is none
pub record Numbers (names : List (List ℕ)) (numbers : BTreeMap (Vec ℕ) ℕ) : Type 0 where
  pub found : (name : List ℕ) → get_by (λ key. slice_cmp nat_cmp name key.items) numbers ≡ number_of names name
