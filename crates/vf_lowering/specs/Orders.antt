-- The order of operands does not hang on annotations.
use Rattle.std.specs.Prelude.{◌≡◌, List}
use Rattle.vf_syntax.specs.declared.item.Item.{Item}
use Rattle.vf_order.specs.Statements.{first_unordered}
use Rattle.vf_erasure_laws.specs.plain.Stripped.{stripped_items}

-- items and the same without their annotations are refused at the same place since the order of two operands matters, or both are not
abbrev pub OrdersArePlain : Type 0
OrdersArePlain = (xs : List Item) → first_unordered (stripped_items xs) ≡ first_unordered xs
