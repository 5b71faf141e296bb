-- The walk over a unit without its annotations comes to what C text sees of what the unit declares.
use Rattle.std.specs.Prelude.{◌≡◌, ℕ, List, length, Some, None, Option, Ok, slice_get}
use Rattle.vf_declared.specs.declared.declaration.Sides.{Sides}
use Rattle.vf_declared.specs.declared.declaration.Signature.{Signature}
use Rattle.vf_declared.specs.declared.locals.Locals.{Locals}
use Rattle.vf_declared.specs.declared.scope.Scope.{Scope}
use Rattle.vf_datatypes.specs.declared.stated.Stated.{Stated}
use Rattle.vf_syntax.specs.declared.item.Item.{Item}
use Rattle.vf_walk.specs.Items.{no_locals, real_types, WalksItem, WalksItems}
use Rattle.vf_walk.specs.Meanings.{Meanings, no_meanings}
use Rattle.vf_annotations.specs.Forms.{meanings}
use Rattle.vf_erasure_laws.specs.seen.Seen.{IsOrderly, seen}
use Rattle.vf_erasure_laws.specs.seen.Unseen.{AreUnseen}
use Rattle.vf_erasure_laws.specs.plain.Stripped.{stripped_items}

-- the parameters of a function are those of its prototype
abbrev pub AreTyped : List Sides → List Signature → Type 0
AreTyped sides functions = (k : ℕ) (x : Sides) (l : Locals) (f : Signature) → slice_get sides k ≡ Some x → x.prototype ≡ Some l → slice_get functions k ≡ Some f → real_types l.meanings ≡ f.parameters

-- what is declared between two items: names stand beside what they mean, there are no locals, and functions have the types of their prototypes
pub record IsSettled (s : Scope) : Type 0 where
  pub orderly : IsOrderly s
  pub cleared : s.locals ≡ no_locals
  pub numbered : length s.sides ≡ length s.functions
  pub typed : AreTyped s.sides s.functions

-- an item without annotations comes to what C text sees; where nothing is left of it, C text sees nothing new
abbrev pub WalksStripped : Option Item → Scope → Scope → Type 0
WalksStripped (Some y) s t = WalksItem no_meanings y (seen s) (Ok (seen t))
WalksStripped None s t = seen t ≡ seen s

-- where the annotations of a unit are not seen, the walk over its items without annotations comes to what C text sees of what they declare
abbrev pub WalksAreSeen : Type 1
WalksAreSeen = (m : Meanings) (xs : List Item) (s t : Scope) → AreUnseen m → IsSettled s → WalksItems m xs s (Ok t) → IsSettled t × WalksItems no_meanings (stripped_items xs) (seen s) (Ok (seen t))

-- the same of the annotations of a unit in which some datatypes stand
abbrev pub AnnotatedWalksAreSeen : Type 0
AnnotatedWalksAreSeen = (d : Stated) (xs : List Item) (s t : Scope) → IsSettled s → WalksItems (meanings d) xs s (Ok t) → IsSettled t × WalksItems no_meanings (stripped_items xs) (seen s) (Ok (seen t))
