-- A header sees the part of a unit that stands in its files, and nothing else.
use Rattle.std.proofs.Common.{refl, sym, ℕ}
use Rattle.vf_declared.specs.declared.scope.Scope.{Scope}
use Rattle.vf_header_laws.specs.c_names.Items.{SeesAsBefore}
use Rattle.vf_header_laws.specs.c_names.Parts.{part_of}
use Rattle.vf_header_laws.specs.c_names.Same.{ConsistsOfHeaders, PartsShowTheSame}
use Rattle.vf_header_laws.proofs.c_names.Growing.{shows_as_before}
use Rattle.vf_header_laws.proofs.c_names.Lookups.{lookups_are_in_the_part}

sees_part : (header : ℕ) (s : Scope) → ConsistsOfHeaders s header → SeesAsBefore header s (part_of header s)
sees_part header s c = record {
  file = refl;
  headers = refl;
  names = λ from name p. (lookups_are_in_the_part s header from (c.headers from p) (c.within from p)).names name;
  tags = λ from tag p. (lookups_are_in_the_part s header from (c.headers from p) (c.within from p)).tags tag;
  fields = λ from n name p. (lookups_are_in_the_part s header from (c.headers from p) (c.within from p)).fields n name;
  functions = λ n f e. e;
  function_types = λ n f e. e;
}

part_sees : (header : ℕ) (s : Scope) → ConsistsOfHeaders s header → SeesAsBefore header (part_of header s) s
part_sees header s c = record {
  file = refl;
  headers = refl;
  names = λ from name p. sym ((sees_part header s c).names from name p);
  tags = λ from tag p. sym ((sees_part header s c).tags from tag p);
  fields = λ from n name p. sym ((sees_part header s c).fields from n name p);
  functions = λ n f e. e;
  function_types = λ n f e. e;
}

pub parts_show_the_same : PartsShowTheSame
parts_show_the_same header s t c d = (shows_as_before (sees_part header s c) (sees_part header t d), shows_as_before (part_sees header s c) (part_sees header t d))
