-- A header means the same to C text in every unit that was expanded from the same files.
use Rattle.std.specs.Prelude.{◌≡◌, ℕ, true, List, Ok}
use Rattle.vf_declared.specs.declared.scope.Scope.{Scope}
use Rattle.vf_declared.specs.Scopes.{has}
use Rattle.vf_syntax.specs.declared.item.Item.{Item}
use Rattle.vf_snapshot.specs.Holdings.{Holdings}
use Rattle.vf_preproc.specs.UnitText.{Library}
use Rattle.vf_expand.specs.declared.whole.UnitTokens.{UnitTokens}
use Rattle.vf_expand.specs.Wholes.{text_of, text_of_unit}
use Rattle.vf_header_laws.specs.included.Closed.{TellsApart}
use Rattle.vf_resolve.specs.Beginning.{beginning}
use Rattle.vf_resolve.specs.UnitFiles.{consists_of, files_in, files_of}
use Rattle.vf_resolve.specs.Units.{ItemsCome}
use Rattle.vf_erasure_laws.specs.seen.Seen.{seen}
use Rattle.vf_erasure_laws.specs.plain.Stripped.{stripped_items}
use Rattle.vf_header_laws.specs.c_names.Items.{HaveTheSameInside}
use Rattle.vf_header_laws.specs.c_names.Parts.{is_part_of}
use Rattle.vf_header_laws.specs.c_names.Same.{ShowTheSame}

-- what is declared in front of the items of a unit that was expanded
abbrev pub beginning_of : Holdings → UnitTokens → List Item → Scope
beginning_of held u xs = beginning (files_of u held) xs

-- a header of two units that were expanded consists of the same files in both, and each of these does
pub record IsSharedHeader (held : Holdings) (a b : UnitTokens) (xs : List Item) (header : ℕ) : Type 0 where
  pub first : has a.headers header ≡ true
  pub second : has b.headers header ≡ true
  pub files : (file : ℕ) → is_part_of (beginning_of held a xs) header file ≡ true → consists_of (files_in a) a.includes file ≡ consists_of (files_in b) b.includes file

-- where two units are expanded from files that are told apart, and accepted, and the same items stand in a header of both but for their annotations, the header shows the same in both of what C text sees
abbrev pub ExpandedUnitsShowTheSame : Type 0
ExpandedUnitsShowTheSame = (library : Library) (held : Holdings) (p q : List ℕ) (a b : UnitTokens) (xs ys : List Item) (u v : Scope) (header : ℕ) → TellsApart library → text_of_unit library p ≡ Ok (text_of a) → text_of_unit library q ≡ Ok (text_of b) → IsSharedHeader held a b xs header → HaveTheSameInside (is_part_of (beginning_of held a xs) header) (stripped_items xs) (stripped_items ys) → ItemsCome xs (beginning_of held a xs) (Ok u) → ItemsCome ys (beginning_of held b ys) (Ok v) → ShowTheSame header (seen u) (seen v)
