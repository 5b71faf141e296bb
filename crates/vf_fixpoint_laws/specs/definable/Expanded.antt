-- The files of a unit that was expanded see through each other.
use Rattle.std.specs.Prelude.{◌≡◌, ℕ, List, Ok}
use Rattle.vf_syntax.specs.declared.item.Item.{Item}
use Rattle.vf_snapshot.specs.Holdings.{Holdings}
use Rattle.vf_preproc.specs.UnitText.{Library}
use Rattle.vf_expand.specs.declared.whole.UnitTokens.{UnitTokens}
use Rattle.vf_expand.specs.Wholes.{text_of, text_of_unit}
use Rattle.vf_header_laws.specs.included.Closed.{TellsApart}
use Rattle.vf_resolve.specs.Beginning.{beginning}
use Rattle.vf_resolve.specs.UnitFiles.{files_of}
use Rattle.vf_fixpoint_laws.specs.definable.Files.{SeesThrough}

-- where files are told apart, each file of a unit that was expanded sees all that each file sees which it sees
abbrev pub ExpandedFilesSeeThrough : Type 0
ExpandedFilesSeeThrough = (library : Library) (path : List ℕ) (u : UnitTokens) (held : Holdings) (xs : List Item) → TellsApart library → text_of_unit library path ≡ Ok (text_of u) → SeesThrough (beginning (files_of u held) xs)
