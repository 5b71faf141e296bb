-- What a header sees stands in the files of which it consists, and nothing else has a part in it.
use Rattle.std.specs.Prelude.{◌≡◌, ℕ, List, Some}
use Rattle.vf_declared.specs.declared.ctype.CType.{CType}
use Rattle.vf_declared.specs.declared.declaration.Meaning.{Meaning}
use Rattle.vf_declared.specs.declared.scope.Scope.{Scope}
use Rattle.vf_declared.specs.Scopes.{declaration_of, field_of, later_predicate, tag_of}
use Rattle.vf_header_laws.specs.c_names.Parts.{files_of_fields, files_of_name, files_of_tag, IsHeader, LiesWithin, part_of, StandsIn}

-- a name, a tag or a field that means something in a header stands in a file of which the header consists
pub record SeesItsOwn (s : Scope) (header : ℕ) : Type 0 where
  pub names : (name : List ℕ) (m : Meaning) → declaration_of s name header ≡ Some m → StandsIn s header (files_of_name s name)
  pub tags : (tag : List ℕ) (n : ℕ) → tag_of s tag header ≡ Some n → StandsIn s header (files_of_tag s tag)
  pub fields : (n : ℕ) (name : List ℕ) (t : CType) → field_of s n name header ≡ Some t → StandsIn s header (files_of_fields s n)

-- each header of a unit sees what stands in its own files alone
abbrev pub HeadersSeeTheirOwn : Type 0
HeadersSeeTheirOwn = (s : Scope) (header : ℕ) → IsHeader s header → SeesItsOwn s header

-- what names, tags and fields mean in a file is what they mean in the part of the unit that stands in the files of which a header consists; and so it is of predicates that stand later
pub record SeesThePart (s : Scope) (header file : ℕ) : Type 0 where
  pub names : (name : List ℕ) → declaration_of (part_of header s) name file ≡ declaration_of s name file
  pub tags : (tag : List ℕ) → tag_of (part_of header s) tag file ≡ tag_of s tag file
  pub fields : (n : ℕ) (name : List ℕ) → field_of (part_of header s) n name file ≡ field_of s n name file
  pub predicates : (name : List ℕ) → later_predicate (part_of header s) name file ≡ later_predicate s name file

-- from a header, and from each that lies within it, all lookups are lookups in the part of the unit that stands in its files
abbrev pub LookupsAreInThePart : Type 0
LookupsAreInThePart = (s : Scope) (header file : ℕ) → IsHeader s file → LiesWithin s header file → SeesThePart s header file
