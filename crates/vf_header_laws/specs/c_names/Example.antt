-- Two units that include one header, whose struct is the second one of the first unit and the first one of the second.
use Rattle.std.specs.Prelude.{◌≡◌, ℕ, List, [], ◌∷◌, codes, Some, Ok}
use Rattle.vf_base.specs.declared.place.Place.{Place}
use Rattle.vf_declared.specs.declared.ctype.CType.TheVariants as types
use Rattle.vf_declared.specs.declared.scope.Scope.{Scope}
use Rattle.vf_declared.specs.Beginning.{empty}
use Rattle.vf_declared.specs.Scopes.{field_of, tag_of}
use Rattle.vf_syntax.specs.declared.item.Item.{Item}
use Rattle.vf_syntax.specs.declared.item.Item.TheVariants as items
use Rattle.vf_syntax.specs.declared.written.Name.{Name}
use Rattle.vf_syntax.specs.declared.written.TypeForm.TheVariants as forms
use Rattle.vf_walk.specs.Items.{WalksItems}
use Rattle.vf_walk.specs.Meanings.{no_meanings}
use Rattle.vf_header_laws.specs.c_names.Same.{ShowTheSame}

-- the first place of a file
abbrev pub start_of : ℕ → Place
start_of file = record { file = file; line = 1; column = 1 }

-- a name in a file
abbrev pub name_in : ℕ → List ℕ → Name
name_in file text = record { text = text; place = start_of file }

-- file 0 is the first unit's own, and includes the header, which is file 1
abbrev pub first_beginning : Scope
first_beginning = record (empty 0) { headers = (0 ∷ 1 ∷ []) ∷ (1 ∷ []) ∷ [] ∷ [] }

-- file 2 is the second unit's own, and includes it too
abbrev pub second_beginning : Scope
second_beginning = record (empty 2) { headers = [] ∷ (1 ∷ []) ∷ (2 ∷ 1 ∷ []) ∷ [] }

-- in the header stands `struct node { struct node *next; };`
abbrev pub node : Item
node = items.Struct (start_of 1) (name_in 1 (codes "node")) ((record { written = record { place = start_of 1; form = forms.StructPointer (name_in 1 (codes "node")) }; name = name_in 1 (codes "next") }) ∷ [])

-- in the first unit stands `struct own;` in front of it
abbrev pub own : Item
own = items.Opaque (start_of 0) (name_in 0 (codes "own"))

-- the units are accepted, the header shows the same in both, and there its struct and the type of its field have two numbers
pub record OneHeaderOfTwoUnits : Type 0 where
  pub first : Scope
  pub second : Scope
  pub first_walk : WalksItems no_meanings (own ∷ node ∷ []) first_beginning (Ok first)
  pub second_walk : WalksItems no_meanings (node ∷ []) second_beginning (Ok second)
  pub first_number : tag_of first (codes "node") 1 ≡ Some 1
  pub second_number : tag_of second (codes "node") 1 ≡ Some 0
  pub first_field : field_of first 1 (codes "next") 1 ≡ Some (types.StructPointer 1)
  pub second_field : field_of second 0 (codes "next") 1 ≡ Some (types.StructPointer 0)
  pub shows : ShowTheSame 1 first second
