-- The names and tags that an item declares.
use Rattle.std.specs.Prelude.{ℕ, List, [], ◌∷◌, map}
use Rattle.vf_syntax.specs.declared.item.Constructor.{Constructor}
use Rattle.vf_syntax.specs.declared.item.GhostForm.{GhostForm}
use Rattle.vf_syntax.specs.declared.item.GhostForm.TheVariants as forms
use Rattle.vf_syntax.specs.declared.item.Item.{Item}
use Rattle.vf_syntax.specs.declared.item.Item.TheVariants as items

-- the name of a constructor
abbrev pub constructor_name : Constructor → List ℕ
constructor_name c = c.name.text

-- the names of file level that a ghost item declares: a datatype its own and those of its constructors, a body of a family that of the family, and each other its own
abbrev pub named_by_form : GhostForm → List (List ℕ)
named_by_form (forms.Inductive n ns b cs) = n.text ∷ map constructor_name cs
named_by_form (forms.Fixpoint t n ns gs b) = n.text ∷ []
named_by_form (forms.Predicate n gs) = n.text ∷ []
named_by_form (forms.PredicateBody n gs a) = n.text ∷ []
named_by_form (forms.Family n i gs) = n.text ∷ []
named_by_form (forms.Instance f g gs a) = f.text ∷ []
named_by_form (forms.PredicateConstructor n fs gs a) = n.text ∷ []
named_by_form (forms.LemmaPrototype n ns gs c) = n.text ∷ []
named_by_form (forms.Lemma n ns gs c b) = n.text ∷ []

-- the names of file level that an item declares: those of functions, of function types and of what annotations declare
abbrev pub named : Item → List (List ℕ)
named (items.Opaque p n) = []
named (items.Struct p n xs) = []
named (items.FunctionType p g c) = g.name.text ∷ []
named (items.Prototype g k c) = g.name.text ∷ []
named (items.Function g k c b) = g.name.text ∷ []
named (items.Ghost x) = named_by_form x.form

-- the tag that an item declares, if any: that of a struct
abbrev pub tagged : Item → List (List ℕ)
tagged (items.Opaque p n) = n.text ∷ []
tagged (items.Struct p n xs) = n.text ∷ []
tagged (items.FunctionType p g c) = []
tagged (items.Prototype g k c) = []
tagged (items.Function g k c b) = []
tagged (items.Ghost x) = []
