-- Names in which the mark of identities does not stand.
use Rattle.std.specs.Prelude.{◌≡◌, ℕ, nat_eq, Bool, false, List}
use Rattle.std.specs.List.{flat_map, list_any}
use Rattle.vf_syntax.specs.declared.item.Item.{Item}
use Rattle.vf_env.specs.Named.{named}

-- the code of `#`, which stands between the path and the name in an identity
abbrev pub mark : ℕ
mark = 35

-- a `#` stands in a text
abbrev pub is_marked : List ℕ → Bool
is_marked x = list_any (nat_eq mark) x

-- no `#` stands in the names that items declare, as in none that are identifiers of C
abbrev pub AreUnmarked : List Item → Type 0
AreUnmarked xs = list_any is_marked (flat_map named xs) ≡ false
