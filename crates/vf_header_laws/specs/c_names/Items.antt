-- Items that stand in a header declare the same in each unit, and items that stand elsewhere nothing that the header sees.
use Rattle.std.specs.Prelude.{◌≡◌, ℕ, Bool, true, false, length, List, [], ◌∷◌, ◌++◌, Some, Ok}
use Rattle.std.specs.List.{list_all, list_any}
use Rattle.vf_declared.specs.declared.declaration.Signature.{Signature}
use Rattle.vf_declared.specs.declared.scope.Scope.{Scope}
use Rattle.vf_declared.specs.Scopes.{declaration_of, field_of, function_type_of, signature_of, tag_of}
use Rattle.vf_syntax.specs.declared.item.Item.{Item}
use Rattle.vf_syntax.specs.declared.item.Item.TheVariants as items
use Rattle.vf_syntax.specs.declared.item.Signature.{Signature as WrittenSignature}
use Rattle.vf_syntax.specs.declared.item.Typed.{Typed}
use Rattle.vf_syntax.specs.declared.written.ResultType.{ResultType}
use Rattle.vf_syntax.specs.declared.written.ResultType.TheVariants as results
use Rattle.vf_walk.specs.Items.{listed, no_locals, WalksItem, WalksItems}
use Rattle.vf_walk.specs.Meanings.{no_meanings}
use Rattle.vf_header_laws.specs.c_names.Parts.{is_part_of}
use Rattle.vf_header_laws.specs.c_names.Same.{ConsistsOfHeaders, ShowTheSame}
use Rattle.vf_header_laws.specs.c_names.Types.{files_of_type}

-- the files in which fields or parameters stand
abbrev pub files_of_typed : List Typed → List ℕ
files_of_typed [] = []
files_of_typed (x ∷ xs) = files_of_type x.written ++ files_of_typed xs

-- the files in which stands what a function gives, where it gives something
abbrev pub files_of_result : ResultType → List ℕ
files_of_result (results.Void p) = []
files_of_result (results.Value w) = files_of_type w

-- the files in which the name and the types of a function or a function type stand
abbrev pub files_of_signature : WrittenSignature → List ℕ
files_of_signature g = g.name.place.file ∷ files_of_result g.«result» ++ files_of_typed (listed g.parameters)

-- the files in which the names and types of an item stand
abbrev pub files_of_item : Item → List ℕ
files_of_item (items.Opaque p n) = n.place.file ∷ []
files_of_item (items.Struct p n xs) = n.place.file ∷ files_of_typed xs
files_of_item (items.FunctionType p g c) = files_of_signature g
files_of_item (items.Prototype g k c) = files_of_signature g
files_of_item (items.Function g k c b) = files_of_signature g
files_of_item (items.Ghost g) = g.place.file ∷ []

-- an item stands in files of which a header consists, where a test says of which it does
abbrev pub IsInside : (ℕ → Bool) → Item → Type 0
IsInside part x = list_all part (files_of_item x) ≡ true

-- an item stands in other files alone
abbrev pub IsOutside : (ℕ → Bool) → Item → Type 0
IsOutside part x = list_any part (files_of_item x) ≡ false

-- what is declared between two items: names and tags stand beside what they mean, and there are no locals
pub record IsBetweenItems (s : Scope) : Type 0 where
  pub names : length s.names ≡ length s.declarations
  pub tags : length s.tags ≡ length s.structures
  pub cleared : s.locals ≡ no_locals

-- behind a part of a unit a header sees what it saw in front of it, and nothing else
pub record SeesAsBefore (header : ℕ) (s t : Scope) : Type 0 where
  pub file : t.file ≡ s.file
  pub headers : t.headers ≡ s.headers
  pub names : (from : ℕ) (name : List ℕ) → is_part_of s header from ≡ true → declaration_of t name from ≡ declaration_of s name from
  pub tags : (from : ℕ) (tag : List ℕ) → is_part_of s header from ≡ true → tag_of t tag from ≡ tag_of s tag from
  pub fields : (from n : ℕ) (name : List ℕ) → is_part_of s header from ≡ true → field_of t n name from ≡ field_of s n name from
  pub functions : (n : ℕ) (f : Signature) → signature_of s n ≡ Some f → signature_of t n ≡ Some f
  pub function_types : (n : ℕ) (f : Signature) → function_type_of s n ≡ Some f → function_type_of t n ≡ Some f

-- an item of C that is accepted and stands in other files alone changes nothing that a header sees
abbrev pub ItemsElsewhereAreUnseen : Type 0
ItemsElsewhereAreUnseen = (header : ℕ) (x : Item) (s t : Scope) → ConsistsOfHeaders s header → IsBetweenItems s → IsOutside (is_part_of s header) x → WalksItem no_meanings x s (Ok t) → SeesAsBefore header s t × IsBetweenItems t

-- where a header shows the same in two units, it shows the same behind an item of C that stands in it and is accepted in both
abbrev pub ItemsInsideShowTheSame : Type 0
ItemsInsideShowTheSame = (header : ℕ) (x : Item) (s t u v : Scope) → ConsistsOfHeaders s header → ConsistsOfHeaders t header → IsBetweenItems s → IsBetweenItems t → IsInside (is_part_of s header) x → WalksItem no_meanings x s (Ok u) → WalksItem no_meanings x t (Ok v) → ShowTheSame header s t → ShowTheSame header u v

-- of two lists of items the same items, in the same order, stand in files of which a header consists, and all others elsewhere alone
pub data HaveTheSameInside (part : ℕ → Bool) : List Item → List Item → Type 0 where
  none : HaveTheSameInside part [] []
  inside : {x : Item} {xs ys : List Item} → IsInside part x → HaveTheSameInside part xs ys → HaveTheSameInside part (x ∷ xs) (x ∷ ys)
  outside_first : {x : Item} {xs ys : List Item} → IsOutside part x → HaveTheSameInside part xs ys → HaveTheSameInside part (x ∷ xs) ys
  outside_second : {y : Item} {xs ys : List Item} → IsOutside part y → HaveTheSameInside part xs ys → HaveTheSameInside part xs (y ∷ ys)

-- a header means the same in every unit: where it shows the same in two units, and the same items of C stand in it behind that, it shows the same behind all items of both
abbrev pub HeadersMeanTheSame : Type 0
HeadersMeanTheSame = (header : ℕ) (xs ys : List Item) (s t u v : Scope) → ConsistsOfHeaders s header → ConsistsOfHeaders t header → IsBetweenItems s → IsBetweenItems t → HaveTheSameInside (is_part_of s header) xs ys → WalksItems no_meanings xs s (Ok u) → WalksItems no_meanings ys t (Ok v) → ShowTheSame header s t → ShowTheSame header u v
