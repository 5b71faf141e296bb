-- Where the fixpoints of a unit are refused.
use Rattle.std.specs.Prelude.{ℕ, if◌then◌else◌, List, [], ◌∷◌, map, Option, Some, None}
use Rattle.std.specs.Option.{option_or}
use Rattle.std.specs.Str.{bytes_eq}
use Rattle.vf_base.specs.declared.place.Place.{Place}
use Rattle.vf_syntax.specs.declared.item.Constructor.{Constructor}
use Rattle.vf_syntax.specs.declared.item.FixpointBody.{FixpointBody}
use Rattle.vf_syntax.specs.declared.item.FixpointBody.TheVariants as bodies
use Rattle.vf_syntax.specs.declared.item.GhostForm.{GhostForm}
use Rattle.vf_syntax.specs.declared.item.GhostForm.TheVariants as forms
use Rattle.vf_syntax.specs.declared.item.GhostParameter.{GhostParameter}
use Rattle.vf_syntax.specs.declared.item.Item.{Item}
use Rattle.vf_syntax.specs.declared.item.Item.TheVariants as items
use Rattle.vf_syntax.specs.SortTree.{SortTree}
use Rattle.vf_syntax.specs.SortTree as tree
use Rattle.vf_fixpoint.specs.Cases.{refused_at}

-- the names of constructors
abbrev pub names_of : List Constructor → List (List ℕ)
names_of ks = map (λ (k : Constructor). k.name.text) ks

-- the constructors of the datatype with a name, where a form declares that
abbrev pub constructors_in : List ℕ → GhostForm → Option (List (List ℕ))
constructors_in x (forms.Inductive n ns b ks) = if bytes_eq x n.text then Some (names_of ks) else None
constructors_in x f = None

-- the same of an item
abbrev pub constructors_at : List ℕ → Item → Option (List (List ℕ))
constructors_at x (items.Ghost a) = constructors_in x a.form
constructors_at x i = None

-- the constructors of the first datatype with a name that items declare
abbrev pub constructors_named : List ℕ → List Item → Option (List (List ℕ))
constructors_named x [] = None
constructors_named x (i ∷ is) = option_or (constructors_at x i) (constructors_named x is)

-- the name that a sort is written by, where that is a datatype's or a type parameter's
abbrev pub name_in : SortTree → Option (List ℕ)
name_in (tree.name_ p x xs) = Some x
name_in t = None

-- the name of the sort of the parameter with a name
abbrev pub sort_name : List GhostParameter → List ℕ → Option (List ℕ)
sort_name [] x = None
sort_name (g ∷ gs) x = if bytes_eq x g.name.text then name_in g.sort else sort_name gs x

-- some names, or none
abbrev pub or_none : Option (List (List ℕ)) → List (List ℕ)
or_none None = []
or_none (Some xs) = xs

-- the constructors of the datatype that a name means in items, none where there is no name or no such datatype
abbrev pub constructors_by : List Item → Option (List ℕ) → List (List ℕ)
constructors_by is None = []
constructors_by is (Some x) = or_none (constructors_named x is)

-- the constructors of the datatype by which a fixpoint goes: that of the parameter over which its body switches
abbrev pub constructors_of : List Item → List GhostParameter → FixpointBody → List (List ℕ)
constructors_of is gs (bodies.Value e) = []
constructors_of is gs (bodies.Switch x cs) = constructors_by is (sort_name gs x.text)

-- where a form among items is refused: a fixpoint whose equations give it no value
abbrev pub form_fault : List Item → GhostForm → Option Place
form_fault is (forms.Fixpoint t n ns gs b) = refused_at n gs (constructors_of is gs b) b
form_fault is f = None

-- the same of an item
abbrev pub item_fault : List Item → Item → Option Place
item_fault is (items.Ghost a) = form_fault is a.form
item_fault is i = None

-- where some of the items of a unit are refused first, by all its items
abbrev pub fault_among : List Item → List Item → Option Place
fault_among is [] = None
fault_among is (x ∷ xs) = option_or (item_fault is x) (fault_among is xs)

-- where the fixpoints of a unit are refused first, in the order of the text
abbrev pub first_fault : List Item → Option Place
first_fault is = fault_among is is
