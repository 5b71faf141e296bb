-- Two units that include one header, whose predicate stands later, over a datatype with two numbers; and two units that are not both accepted.
use Rattle.std.specs.Prelude.{◌≡◌, false, List, [], ◌∷◌, codes, Some, Ok, Err}
use Rattle.vf_base.specs.declared.refusal.Refusal.{Refusal}
use Rattle.vf_declared.specs.declared.scope.Scope.{Scope}
use Rattle.vf_declared.specs.Scopes.{later_predicate}
use Rattle.vf_syntax.specs.declared.item.GhostForm.TheVariants as forms
use Rattle.vf_syntax.specs.declared.item.Item.{Item}
use Rattle.vf_syntax.specs.SortTree.{no_sort}
use Rattle.vf_syntax.specs.SortTree as tree
use Rattle.vf_sorting.specs.Kinds.{datatype_sort, value_sort}
use Rattle.vf_datatypes.specs.declared.stated.Stated.{Stated}
use Rattle.vf_gathering.specs.Ahead as ahead
use Rattle.vf_gathering.specs.Foretold as foretold
use Rattle.vf_gathering.specs.declared.foretold.Foretold.{Foretold}
use Rattle.vf_annotations.specs.Forms.{meanings}
use Rattle.vf_walk.specs.Items.{WalksItems}
use Rattle.vf_header_laws.specs.c_names.Example.{first_beginning, name_in, second_beginning, start_of}
use Rattle.vf_header_laws.specs.c_names.Parts.{is_part_of}
use Rattle.vf_header_laws.specs.c_names.Units.{IsHeaderOfBoth}
use Rattle.vf_header_laws.specs.ghost_names.Example.{colour, first_stated, holds, item_in, second_stated, values}
use Rattle.vf_header_laws.specs.ghost_names.Later.{KnowsPredicates}
use Rattle.vf_header_laws.specs.ghost_names.LaterSorts.{ForeseeTheSameSorts, told_of}
use Rattle.vf_header_laws.specs.ghost_names.Same.{AreOneSorts}
use Rattle.vf_header_laws.specs.ghost_names.Units.{HaveTheSameGhosts}

-- ---- what is told ahead
-- the predicates of items, with what is told of them
abbrev pub foretold_in : List Item → Foretold
foretold_in xs = foretold.with_items (ahead.with_items ahead.nothing xs) foretold.none_foretold xs

-- a scope in which this is told of predicates
abbrev pub with_foretold : Scope → Foretold → Scope
with_foretold s t = record s { predicates = t.stated.names; predicate_files = t.stated.files; predicate_sorts = t.sorts }

-- in front of the items of the first unit, of which the predicates are told
abbrev pub first_front : List Item → Scope
first_front xs = with_foretold first_beginning (foretold_in xs)

-- the same of the second
abbrev pub second_front : List Item → Scope
second_front xs = with_foretold second_beginning (foretold_in xs)

-- ---- two units that are accepted
-- `inductive colour = red;` in front of the items of the header
abbrev pub first_items : List Item
first_items = colour ∷ values ∷ holds ∷ []

-- the items of the header alone
abbrev pub second_items : List Item
second_items = values ∷ holds ∷ []

-- the units are accepted; in front of their items the header's predicate stands later in both, over datatypes of two numbers; the header foresees predicates over the same sorts, and so these mean the same behind all items
pub record OneLaterPredicateOfTwoUnits : Type 0 where
  pub first : Scope
  pub second : Scope
  pub first_walk : WalksItems (meanings first_stated) first_items (first_front first_items) (Ok first)
  pub second_walk : WalksItems (meanings second_stated) second_items (second_front second_items) (Ok second)
  pub first_later : later_predicate (first_front first_items) (codes "holds") 1 ≡ Some (datatype_sort 1 0 ∷ [])
  pub second_later : later_predicate (second_front second_items) (codes "holds") 1 ≡ Some (datatype_sort 0 0 ∷ [])
  pub foresees : ForeseeTheSameSorts 1 (first_front first_items) (second_front second_items) first second
  pub are_one : AreOneSorts 1 first second (datatype_sort 1 0 ∷ []) (datatype_sort 0 0 ∷ [])

-- ---- two units that are not both accepted
-- in the header stands `predicate paints(colour c);`, though it does not see the datatype
abbrev pub paints : Item
paints = item_in 1 (forms.Predicate (name_in 1 (codes "paints")) ((record { after_semicolon = false; sort = tree.name_ (start_of 1) (codes "colour") no_sort; name = name_in 1 (codes "c") }) ∷ []))

-- `inductive colour = red;` in front of the item of the header
abbrev pub coloured : List Item
coloured = colour ∷ paints ∷ []

-- the item of the header alone
abbrev pub colourless : List Item
colourless = paints ∷ []

-- in which files the datatypes of the first unit stand
abbrev pub coloured_stated : Stated
coloured_stated = record { names = codes "colour" ∷ []; files = (0 ∷ []) ∷ [] }

-- the same items of annotations stand in the header of both, and it is known where the predicates of both stand; but the first is refused, and the header does not foresee predicates over the same sorts, whatever is declared behind the items
pub record RefusedUnitsForeseeOtherSorts : Type 0 where
  pub header : IsHeaderOfBoth 1 (first_front coloured) (second_front colourless)
  pub first_known : KnowsPredicates coloured (first_front coloured)
  pub second_known : KnowsPredicates colourless (second_front colourless)
  pub inside : HaveTheSameGhosts (is_part_of (first_front coloured) 1) coloured colourless
  pub refusal : Refusal
  pub refused : WalksItems (meanings coloured_stated) coloured (first_front coloured) (Err refusal)
  pub first_told : told_of (first_front coloured) (codes "paints") 1 ≡ Some (datatype_sort 0 0 ∷ [])
  pub second_told : told_of (second_front colourless) (codes "paints") 1 ≡ Some (value_sort ∷ [])
  pub differ : (u v : Scope) → ForeseeTheSameSorts 1 (first_front coloured) (second_front colourless) u v → ⊥
