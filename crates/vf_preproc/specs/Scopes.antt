-- What is kept of files, as the definitions see it.
use Rattle.std.specs.Prelude.{reverse}
use Rattle.vf_preproc.specs.declared.scope.Header.{Header as KeptHeader}
use Rattle.vf_preproc.specs.declared.scope.Scope.{Scope as KeptScope}
use Rattle.vf_preproc.specs.UnitText.{Header, Scope}
use Rattle.vf_preproc.specs.Kept.{table_of}

-- the header that is kept
abbrev pub header_of : KeptHeader → Header
header_of h = record { macros = table_of h.macros; files = h.files }

-- what is kept of a file so far
abbrev pub scope_of : KeptScope → Scope
scope_of s = record { macros = table_of s.macros; groups = reverse s.groups.items; files = s.files }
