-- What chunks and cells are of, resolved.
use Rattle.std.specs.Prelude.{ℕ, pos, if◌then◌else◌, List, [], ◌∷◌, Option, Some, None, codes, drop, slice_get, nat_eq}
use Rattle.std.specs.List.{starts_with}
use Rattle.vf_base.specs.declared.int_type.IntType.{IntType}
use Rattle.vf_tree.specs.Core.{Identity}
use Rattle.vf_names.specs.Names.{number_of}
use Rattle.vf_closure.specs.Terms.{number}
use Rattle.vf_sorts.specs.Sorts.{Sort}
use Rattle.vf_declared.specs.declared.ctype.CType.{CType}
use Rattle.vf_declared.specs.declared.ctype.CType.TheVariants as types
use Rattle.vf_declared.specs.declared.declaration.Declaration.{Declaration}
use Rattle.vf_declared.specs.declared.declaration.Fields.{Fields}
use Rattle.vf_declared.specs.declared.declaration.GhostDeclaration.{GhostDeclaration}
use Rattle.vf_declared.specs.declared.declaration.GhostDeclaration.TheVariants as ghosts
use Rattle.vf_declared.specs.declared.declaration.Meaning.{Meaning}
use Rattle.vf_declared.specs.declared.declaration.Meaning.TheVariants as meanings
use Rattle.vf_declared.specs.declared.declaration.Structure.{Structure}
use Rattle.vf_declared.specs.declared.scope.Scope.{Scope}
use Rattle.vf_declared.specs.Scopes.{at_name, fields_in, ghost_of, is_later_predicate, tag_of}
use Rattle.vf_syntax.specs.declared.written.Name.{Name}
use Rattle.vf_sorting.specs.Kinds.{int_sort}
use Rattle.vf_sorting.specs.Schemes.{names_predicate, sort_of_type}
use Rattle.vf_binding.specs.Chunks.{pointed_field}
use Rattle.vf_terms.specs.Settings.{Setting}
use Rattle.vf_terms.specs.Named.{declaration_seen, files_or_none, identity_of, term_of_name}
use Rattle.vf_resolved.specs.declared.head.CellField.{CellField}
use Rattle.vf_resolved.specs.declared.head.Head.{Head}
use Rattle.vf_resolved.specs.declared.head.Head.TheVariants as heads
use Rattle.vf_resolved.specs.declared.pattern.Argument.{Argument}
use Rattle.vf_resolved_parts.specs.declared.heads.Form.{Form}
use Rattle.vf_resolved_parts.specs.declared.heads.Form.TheVariants as forms

-- ---- structs
-- the files in which a struct is declared that may be none
abbrev pub files_in : Option Structure → List ℕ
files_in None = []
files_in (Some x) = x.files

-- a text that may be none
abbrev pub text_or_none : Option (List ℕ) → List ℕ
text_or_none None = []
text_or_none (Some x) = x

-- the identity of the struct with a number
abbrev pub struct_identity : Setting → ℕ → Identity
struct_identity s k = identity_of s.paths (files_in (slice_get s.scope.structures k)) (text_or_none (slice_get s.scope.tags k))

-- ---- chunks
-- what annotations declare by an identity, in front of a chunk's parentheses
abbrev pub ghost_form : Identity → Option GhostDeclaration → Form
ghost_form i (Some (ghosts.Predicate ts)) = forms.Predicate i
ghost_form i (Some (ghosts.Family f)) = forms.Family i
ghost_form i (Some (ghosts.PredicateConstructor c)) = forms.Constructor i
ghost_form i d = forms.Other

-- what a name that is declared in some files is there, by what it means
abbrev pub meant_form : Setting → List ℕ → List ℕ → Meaning → Form
meant_form s x files (meanings.Ghost n) = ghost_form (identity_of s.paths files x) (ghost_of s.scope n)
meant_form s x files m = forms.Other

-- the block of a struct, where there is one
abbrev pub block_form : Setting → Option ℕ → Form
block_form s None = forms.Other
block_form s (Some k) = forms.Block (struct_identity s k)

-- a name that is not declared: `malloc_block_S`, or nothing
abbrev pub undeclared_form : Setting → List ℕ → ℕ → Form
undeclared_form s x from = if starts_with nat_eq x (codes "malloc_block_") then block_form s (tag_of s.scope (drop 13 x) from) else forms.Other

-- a name that is not declared yet: a predicate that stands later in the unit, or else as above
abbrev pub later_form : Setting → List ℕ → ℕ → Form
later_form s x from =
    if is_later_predicate s.scope x from then forms.Predicate (identity_of s.paths (files_or_none (at_name s.scope.predicates s.scope.predicate_files x)) x)
    else undeclared_form s x from

-- a name of file level, by what declares it
abbrev pub declared_form : Setting → List ℕ → ℕ → Option Declaration → Form
declared_form s x from None = later_form s x from
declared_form s x from (Some d) = meant_form s x d.files d.meaning

-- what a name in front of a chunk's parentheses is: a local of a predicate sort hides what is declared at file level
abbrev pub form_of : Setting → Name → Form
form_of s n =
    if names_predicate s.scope s.known n.text then forms.Value (term_of_name s n.text n.place.file)
    else declared_form s n.text n.place.file (declaration_seen s.scope n.text n.place.file)

-- a family at the first of some values; where there is none, a value that is the number 0
abbrev pub family_at : Identity → List Argument → Head
family_at i [] = heads.Value (number (pos 0))
family_at i (x ∷ xs) = heads.Family i x

-- what a chunk is of, with the values between the first of two pairs of parentheses; what is nothing counts as the number 0
abbrev pub head_for : Form → List Argument → Head
head_for (forms.Value t) xs = heads.Value t
head_for (forms.Predicate i) xs = heads.Predicate i
head_for (forms.Family i) xs = family_at i xs
head_for (forms.Constructor i) xs = heads.Constructor i xs
head_for (forms.Block i) xs = heads.Block i
head_for forms.Other xs = heads.Value (number (pos 0))

-- ---- cells
-- the type of a field of a struct that may be none
abbrev pub field_type : Setting → Option ℕ → Name → Option CType
field_type s None f = None
field_type s (Some k) f = pointed_field s.scope k f

-- the sort of what a field of a type holds; where there is none, of whole numbers
abbrev pub content_sort : Option CType → Sort
content_sort None = int_sort
content_sort (Some u) = sort_of_type u

-- a type where it is an integer type
abbrev pub integer_in : Option CType → Option IntType
integer_in (Some (types.Integer t)) = Some t
integer_in u = None

-- a number that may be none
abbrev pub number_or_nought : Option ℕ → ℕ
number_or_nought None = 0
number_or_nought (Some n) = n

-- the place of a field among fields that may be none
abbrev pub place_in : List ℕ → Option Fields → ℕ
place_in x None = 0
place_in x (Some fields) = number_or_nought (number_of fields.names x)

-- the fields of the struct with a number, where they are declared
abbrev pub fields_of : Scope → ℕ → Option Fields
fields_of s k = fields_in (slice_get s.structures k)

-- the field of a struct that may be none
abbrev pub cell_field : Setting → Option ℕ → Name → CellField
cell_field s None f = record { structure = []; index = 0; integer = None }
cell_field s (Some k) f = record { structure = struct_identity s k; index = place_in f.text (fields_of s.scope k); integer = integer_in (pointed_field s.scope k f) }
