-- A whole unit without its annotations declares what C text sees of what the unit declares.
use Rattle.std.specs.Prelude.{List, Ok}
use Rattle.vf_declared.specs.declared.scope.Scope.{Scope}
use Rattle.vf_syntax.specs.declared.item.Item.{Item}
use Rattle.vf_walk.specs.Items.{WalksItems}
use Rattle.vf_walk.specs.Meanings.{no_meanings}
use Rattle.vf_resolve.specs.declared.files.Files.{Files}
use Rattle.vf_resolve.specs.Beginning.{beginning}
use Rattle.vf_resolve.specs.Units.{ItemsCome}
use Rattle.vf_erasure_laws.specs.seen.Seen.{seen}
use Rattle.vf_erasure_laws.specs.plain.Stripped.{stripped_items}

-- where the items of a unit declare something, those that are left of them without annotations declare what C text sees of it
abbrev pub UnitsAreSeen : Type 0
UnitsAreSeen = (f : Files) (xs : List Item) (t : Scope) → ItemsCome xs (beginning f xs) (Ok t) → WalksItems no_meanings (stripped_items xs) (beginning f (stripped_items xs)) (Ok (seen t))
