-- Which item has to be checked against a contract, and has none.
use Rattle.std.specs.Prelude.{ℕ, Bool, true, false, if◌then◌else◌, List, Option, Some, None}
use Rattle.std.specs.List.{find, list_any}
use Rattle.std.specs.Str.{bytes_eq}
use Rattle.vf_base.specs.declared.place.Place.{Place}
use Rattle.vf_syntax.specs.declared.item.GhostForm.{GhostForm}
use Rattle.vf_syntax.specs.declared.item.GhostForm.TheVariants as forms
use Rattle.vf_syntax.specs.declared.item.Item.{Item}
use Rattle.vf_syntax.specs.declared.item.Item.TheVariants as items
use Rattle.vf_syntax.specs.declared.written.Name.{Name}

-- a ghost item is a lemma with a body
abbrev pub is_proof : GhostForm → Bool
is_proof (forms.Lemma n ts ps c b) = true
is_proof f = false

-- an item is checked against a contract: a function with a body, or a lemma with a body
abbrev pub is_checked : Item → Bool
is_checked (items.Function g k c b) = true
is_checked (items.Ghost g) = is_proof g.form
is_checked x = false

-- the first of some items that is checked against a contract
abbrev pub first_checked : List Item → Option Item
first_checked xs = find is_checked xs

-- the name of a lemma with a body that has no contract of its own
abbrev pub bare_proof : GhostForm → Option Name
bare_proof (forms.Lemma n ts ps None b) = Some n
bare_proof f = None

-- the name of an item that is checked, where it has no contract of its own
abbrev pub bare_name : Item → Option Name
bare_name (items.Function g k None b) = Some g.name
bare_name (items.Ghost g) = bare_proof g.form
bare_name x = None

-- a ghost item is the prototype of a lemma with a name
abbrev pub states_proof : List ℕ → GhostForm → Bool
states_proof x (forms.LemmaPrototype n ts ps c) = bytes_eq n.text x
states_proof x f = false

-- an item is a prototype of a name with a contract
abbrev pub states : List ℕ → Item → Bool
states x (items.Prototype g k (Some c)) = bytes_eq g.name.text x
states x (items.Ghost g) = states_proof x g.form
states x i = false

-- a prototype of a name with a contract is among items
abbrev pub is_stated : List ℕ → List Item → Bool
is_stated x xs = list_any (states x) xs

-- the place of a name of which no prototype among items has a contract
abbrev pub unstated : List Item → Option Name → Option Place
unstated xs None = None
unstated xs (Some n) = if is_stated n.text xs then None else Some n.place

-- the name of an item that may be none
abbrev pub bare_in : Option Item → Option Name
bare_in None = None
bare_in (Some x) = bare_name x

-- the name of the first item of a unit that is checked against a contract, where neither it nor a prototype of it has one
abbrev pub missing_contract : List Item → Option Place
missing_contract xs = unstated xs (bare_in (first_checked xs))
