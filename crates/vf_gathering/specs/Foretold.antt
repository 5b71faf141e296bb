-- The predicates that stand anywhere in a unit, with the files in which they stand and the sorts of their arguments as far as these can be told.
use Rattle.std.specs.Prelude.{ℕ, List, [], ◌∷◌, ◌++◌, Option, Some, None}
use Rattle.vf_names.specs.Names.{number_of}
use Rattle.vf_sorts.specs.Sorts.{Sort}
use Rattle.vf_syntax.specs.declared.item.GhostForm.{GhostForm}
use Rattle.vf_syntax.specs.declared.item.GhostForm.TheVariants as forms
use Rattle.vf_syntax.specs.declared.item.GhostParameter.{GhostParameter}
use Rattle.vf_syntax.specs.declared.item.Item.{Item}
use Rattle.vf_syntax.specs.declared.item.Item.TheVariants as items
use Rattle.vf_syntax.specs.declared.written.Name.{Name}
use Rattle.vf_gathering.specs.declared.ahead.Ahead.{Ahead}
use Rattle.vf_gathering.specs.declared.foretold.Foretold.{Foretold}
use Rattle.vf_gathering.specs.Standing.{no_names, with_name}
use Rattle.vf_gathering.specs.Told.{told_parameters}

-- no predicates
abbrev pub none_foretold : Foretold
none_foretold = record { stated = no_names; sorts = [] }

-- the sorts of a predicate whose name may have a number: those of the first of that name count
abbrev pub with_sorts : List (List Sort) → List Sort → Option ℕ → List (List Sort)
with_sorts tss ts None = tss ++ ts ∷ []
with_sorts tss ts (Some k) = tss

-- one predicate more
abbrev pub with_predicate : Ahead → Foretold → Name → List GhostParameter → Foretold
with_predicate w t n gs = record { stated = with_name t.stated n; sorts = with_sorts t.sorts (told_parameters w gs) (number_of t.stated.names n.text) }

-- a ghost item: a predicate, with a body or without one
abbrev pub with_form : Ahead → Foretold → GhostForm → Foretold
with_form w t (forms.Predicate n gs) = with_predicate w t n gs
with_form w t (forms.PredicateBody n gs a) = with_predicate w t n gs
with_form w t f = t

-- an item
abbrev pub with_item : Ahead → Foretold → Item → Foretold
with_item w t (items.Ghost x) = with_form w t x.form
with_item w t x = t

-- items, one after the other
abbrev pub with_items : Ahead → Foretold → List Item → Foretold
with_items w t [] = t
with_items w t (x ∷ xs) = with_items w (with_item w t x) xs
