-- The headers of a unit that was expanded consist of headers.
use Rattle.std.specs.Prelude.{◌≡◌, ℕ, true, List, Ok}
use Rattle.vf_declared.specs.Scopes.{has}
use Rattle.vf_syntax.specs.declared.item.Item.{Item}
use Rattle.vf_snapshot.specs.Holdings.{Holdings}
use Rattle.vf_preproc.specs.UnitText.{Library}
use Rattle.vf_expand.specs.declared.whole.UnitTokens.{UnitTokens}
use Rattle.vf_expand.specs.Wholes.{text_of, text_of_unit}
use Rattle.vf_header_laws.specs.included.Closed.{TellsApart}
use Rattle.vf_resolve.specs.Beginning.{beginning}
use Rattle.vf_resolve.specs.UnitFiles.{files_of}
use Rattle.vf_header_laws.specs.c_names.Same.{ConsistsOfHeaders}

-- where files are told apart, each header of a unit that was expanded consists of headers alone, and of all that these consist of
abbrev pub ExpandedHeadersConsistOfHeaders : Type 0
ExpandedHeadersConsistOfHeaders = (library : Library) (path : List ℕ) (u : UnitTokens) (held : Holdings) (xs : List Item) (header : ℕ) → TellsApart library → text_of_unit library path ≡ Ok (text_of u) → has u.headers header ≡ true → ConsistsOfHeaders (beginning (files_of u held) xs) header
