-- Which datatypes and predicates stand in items.
use Rattle.std.specs.Prelude.{List, [], ◌∷◌, Option, Some, None}
use Rattle.vf_syntax.specs.declared.item.GhostForm.{GhostForm}
use Rattle.vf_syntax.specs.declared.item.GhostForm.TheVariants as forms
use Rattle.vf_syntax.specs.declared.item.Item.{Item}
use Rattle.vf_syntax.specs.declared.item.Item.TheVariants as items
use Rattle.vf_syntax.specs.declared.written.Name.{Name}
use Rattle.vf_datatypes.specs.declared.stated.Stated.{Stated}
use Rattle.vf_gathering.specs.Standing.{with_name}

-- the name of a datatype that a form declares
abbrev pub datatype_in : GhostForm → Option Name
datatype_in (forms.Inductive n ns b cs) = Some n
datatype_in f = None

-- the name of a predicate that a form declares, with a body or without one
abbrev pub predicate_in : GhostForm → Option Name
predicate_in (forms.Predicate n gs) = Some n
predicate_in (forms.PredicateBody n gs a) = Some n
predicate_in f = None

-- the name of the datatype that an item declares
abbrev pub datatype_of : Item → Option Name
datatype_of (items.Ghost x) = datatype_in x.form
datatype_of x = None

-- the name of the predicate that an item declares
abbrev pub predicate_of : Item → Option Name
predicate_of (items.Ghost x) = predicate_in x.form
predicate_of x = None

-- a name in front of others, if there is one
abbrev pub in_front : Option Name → List Name → List Name
in_front None ns = ns
in_front (Some n) ns = n ∷ ns

-- the names of the datatypes that items declare, each at its place
abbrev pub datatypes_in : List Item → List Name
datatypes_in [] = []
datatypes_in (x ∷ xs) = in_front (datatype_of x) (datatypes_in xs)

-- the names of the predicates that items declare, each at its place
abbrev pub predicates_in : List Item → List Name
predicates_in [] = []
predicates_in (x ∷ xs) = in_front (predicate_of x) (predicates_in xs)

-- one more name, if there is one
abbrev pub with_optional : Stated → Option Name → Stated
with_optional d None = d
with_optional d (Some n) = with_name d n
