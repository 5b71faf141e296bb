-- An item of a header that one unit accepts is refused in no other unit but for a name that it declares.
use Rattle.std.specs.Prelude.{◌≡◌, ℕ, Result, Ok, Err}
use Rattle.vf_base.specs.declared.refusal.Refusal.{Refusal}
use Rattle.vf_base.specs.declared.rule.Rule.TheVariants as rules
use Rattle.vf_declared.specs.declared.scope.Scope.{Scope}
use Rattle.vf_syntax.specs.declared.item.Item.{Item}
use Rattle.vf_walk.specs.Items.{WalksItem}
use Rattle.vf_walk.specs.Meanings.{no_meanings}
use Rattle.vf_walk.specs.Walking.{Walked}
use Rattle.vf_header_laws.specs.c_names.Parts.{is_part_of}
use Rattle.vf_header_laws.specs.c_names.Same.{ConsistsOfHeaders, ShowTheSame}
use Rattle.vf_header_laws.specs.c_names.Items.{IsBetweenItems, IsInside}

-- something is found, or refused by the rule of names
pub data GoesUnlessNamed {A : Type 0} : Result A Refusal → Type 0 where
  goes : {a : A} → GoesUnlessNamed (Ok a)
  clashes : {x : Refusal} → x.rule ≡ rules.Name → GoesUnlessNamed (Err x)

-- where a header shows the same in two units, an item of C that stands in it and is accepted in the first is accepted in the second too, or refused there by the rule of names: never for a type
abbrev pub ItemsInsideClashAlone : Type 0
ItemsInsideClashAlone = (header : ℕ) (x : Item) (s t u : Scope) (w : Walked) → ConsistsOfHeaders s header → ConsistsOfHeaders t header → IsBetweenItems s → IsBetweenItems t → IsInside (is_part_of s header) x → ShowTheSame header s t → WalksItem no_meanings x s (Ok u) → WalksItem no_meanings x t w → GoesUnlessNamed w
