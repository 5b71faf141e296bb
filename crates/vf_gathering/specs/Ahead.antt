-- What is told of a unit ahead of its items: its datatypes and tags, each with a number.
use Rattle.std.specs.Prelude.{ℕ, List, [], ◌∷◌, ◌++◌, length, Option, Some, None}
use Rattle.vf_names.specs.Names.{number_of, put}
use Rattle.vf_syntax.specs.declared.item.GhostForm.{GhostForm}
use Rattle.vf_syntax.specs.declared.item.GhostForm.TheVariants as forms
use Rattle.vf_syntax.specs.declared.item.Item.{Item}
use Rattle.vf_syntax.specs.declared.item.Item.TheVariants as items
use Rattle.vf_syntax.specs.declared.written.Name.{Name}
use Rattle.vf_gathering.specs.declared.ahead.Ahead.{Ahead}

-- nothing is told
abbrev pub nothing : Ahead
nothing = record { datatypes = []; counts = []; tags = [] }

-- a datatype with so many type parameters, whose name may have a number: the first of that name counts
abbrev pub with_number : Ahead → Name → ℕ → Option ℕ → Ahead
with_number w n m None = record { datatypes = w.datatypes ++ n.text ∷ []; counts = w.counts ++ m ∷ []; tags = w.tags }
with_number w n m (Some k) = w

-- the same by the number of its name
abbrev pub with_datatype : Ahead → Name → ℕ → Ahead
with_datatype w n m = with_number w n m (number_of w.datatypes n.text)

-- a struct, whose tag may be there already
abbrev pub with_tag : Ahead → Name → Ahead
with_tag w n = record { datatypes = w.datatypes; counts = w.counts; tags = put w.tags n.text }

-- a ghost item
abbrev pub with_form : Ahead → GhostForm → Ahead
with_form w (forms.Inductive n ns b cs) = with_datatype w n (length ns)
with_form w f = w

-- an item
abbrev pub with_item : Ahead → Item → Ahead
with_item w (items.Opaque p n) = with_tag w n
with_item w (items.Struct p n xs) = with_tag w n
with_item w (items.Ghost x) = with_form w x.form
with_item w x = w

-- items, one after the other
abbrev pub with_items : Ahead → List Item → Ahead
with_items w [] = w
with_items w (x ∷ xs) = with_items (with_item w x) xs
