-- A type that is written in a header is the same in each unit in which the header shows the same.
use Rattle.std.specs.Prelude.{◌≡◌, ℕ, true, List, [], ◌∷◌, Result, Ok, Err}
use Rattle.std.specs.List.{list_all}
use Rattle.vf_base.specs.declared.refusal.Refusal.{Refusal}
use Rattle.vf_declared.specs.declared.scope.Scope.{Scope}
use Rattle.vf_syntax.specs.declared.written.CType.{CType as WrittenType}
use Rattle.vf_syntax.specs.declared.written.TypeForm.{TypeForm}
use Rattle.vf_syntax.specs.declared.written.TypeForm.TheVariants as forms
use Rattle.vf_typing.specs.Names.{written_type}
use Rattle.vf_header_laws.specs.c_names.Parts.{is_part_of}
use Rattle.vf_header_laws.specs.c_names.Same.{AreOneType, ConsistsOfHeaders, ShowTheSame}

-- two things are found and are alike, or both are refused
pub data Agree {A B : Type 0} (Alike : A → B → Type 0) : Result A Refusal → Result B Refusal → Type 0 where
  found : {a : A} {b : B} → Alike a b → Agree Alike (Ok a) (Ok b)
  refused : {x y : Refusal} → Agree Alike (Err x) (Err y)

-- the file in which the tag of a type stands, where it has one
abbrev pub files_of_form : TypeForm → List ℕ
files_of_form (forms.StructPointer n) = n.place.file ∷ []
files_of_form f = []

-- the files in which a type stands: those of its first token and of its tag
abbrev pub files_of_type : WrittenType → List ℕ
files_of_type w = w.place.file ∷ files_of_form w.form

-- what stands in some files stands within a header: it consists of each of them
abbrev pub StandsWithin : Scope → ℕ → List ℕ → Type 0
StandsWithin s header files = list_all (is_part_of s header) files ≡ true

-- where a header shows the same in two units, a type that is written in it is the same type in both, or is refused in both
abbrev pub WrittenTypesAreOne : Type 0
WrittenTypesAreOne = (header : ℕ) (s t : Scope) (w : WrittenType) → ConsistsOfHeaders s header → ConsistsOfHeaders t header → ShowTheSame header s t → StandsWithin s header (files_of_type w) → Agree (AreOneType header s t) (written_type s w) (written_type t w)
