-- What the names of a unit mean for its manifest.
use Rattle.std.specs.Prelude.{ℕ, Bool, true, false, not, ◌&&◌, is_some, List, [], ◌∷◌, codes, Option, Some, None, slice_get}
use Rattle.vf_names.specs.Names.{number_of}
use Rattle.vf_snapshot.specs.Holdings.{Holdings, paths}
use Rattle.vf_declared.specs.Scopes.{at_name, has}
use Rattle.vf_declared.specs.declared.declaration.Declaration.{Declaration}
use Rattle.vf_declared.specs.declared.declaration.GhostDeclaration.{GhostDeclaration}
use Rattle.vf_declared.specs.declared.declaration.GhostDeclaration.TheVariants as ghosts
use Rattle.vf_declared.specs.declared.declaration.GhostSides.{GhostSides}
use Rattle.vf_declared.specs.declared.declaration.Meaning.{Meaning}
use Rattle.vf_declared.specs.declared.declaration.Meaning.TheVariants as meanings
use Rattle.vf_declared.specs.declared.declaration.Sides.{Sides}
use Rattle.vf_declared.specs.declared.declaration.Signature.{Signature}
use Rattle.vf_declared.specs.declared.declaration.Structure.{Structure}
use Rattle.vf_declared.specs.declared.locals.Locals.{Locals}
use Rattle.vf_declared.specs.declared.scope.Scope.{Scope}
use Rattle.vf_manifest.specs.Identities.{Identity}
use Rattle.vf_terms.specs.Named.{first_path, path_or_none}
use Rattle.vf_promises.specs.declared.type_names.TypeNames.{TypeNames}
use Rattle.vf_promises.specs.Signatures.{function_signature, lemma_signature}

-- ---- identities

-- the path of a file, and no bytes where there is none
abbrev pub path_at : Holdings → ℕ → List ℕ
path_at h file = path_or_none (slice_get (paths h) file)

-- what declares a name of file level
abbrev pub declared : Scope → List ℕ → Option Declaration
declared s x = at_name s.names s.declarations x

-- the files of a declaration, none where it is not there
abbrev pub files_of : Option Declaration → List ℕ
files_of None = []
files_of (Some d) = d.files

-- the files in which a struct is declared, none where it is not there
abbrev pub files_of_struct : Option Structure → List ℕ
files_of_struct None = []
files_of_struct (Some x) = x.files

-- the identity of a name that is declared in some files: the path of the first of them, and the name
abbrev pub identity_in : Holdings → List ℕ → List ℕ → Identity
identity_in h files x = record { path = first_path (paths h) files; name = x }

-- the identity of a name of file level
abbrev pub identity_named : Holdings → Scope → List ℕ → Identity
identity_named h s x = identity_in h (files_of (declared s x)) x

-- the identity of a tag
abbrev pub identity_tagged : Holdings → Scope → List ℕ → Identity
identity_tagged h s x = identity_in h (files_of_struct (at_name s.tags s.structures x)) x

-- what is declared in some files is the prelude's: the first of them is one of its headers
abbrev pub is_of_prelude : Scope → List ℕ → Bool
is_of_prelude s [] = false
is_of_prelude s (file ∷ files) = has s.preludes file

-- ---- signatures

-- the signature of a function, which is not told where there is none
abbrev pub function_told : TypeNames → Option Signature → List ℕ
function_told t None = codes "?"
function_told t (Some g) = function_signature t g

-- the signature of a lemma, which is not told of anything else
abbrev pub lemma_told : TypeNames → Option GhostDeclaration → List ℕ
lemma_told t (Some (ghosts.Lemma l)) = lemma_signature t l
lemma_told t g = codes "?"

-- the signature of what a name means, which is not told of what is no function and no lemma
abbrev pub signature_meant : Scope → TypeNames → Meaning → List ℕ
signature_meant s t (meanings.Function n) = function_told t (slice_get s.functions n)
signature_meant s t (meanings.FunctionType n) = codes "?"
signature_meant s t (meanings.Ghost n) = lemma_told t (slice_get s.ghosts n)

-- the same of what declares a name
abbrev pub signature_of : Scope → TypeNames → Option Declaration → List ℕ
signature_of s t None = codes "?"
signature_of s t (Some d) = signature_meant s t d.meaning

-- the signature of the function or the lemma with a name
abbrev pub signature_named : Scope → TypeNames → List ℕ → List ℕ
signature_named s t x = signature_of s t (declared s x)

-- ---- bodies

-- a function has a body in the unit, by what it is declared with
abbrev pub has_side : Option Sides → Bool
has_side None = false
has_side (Some x) = x.is_defined

-- a lemma has a body in the unit, by what it is declared with
abbrev pub has_ghost_side : Option GhostSides → Bool
has_ghost_side None = false
has_ghost_side (Some x) = x.is_defined

-- annotations declare a lemma
abbrev pub is_lemma : Option GhostDeclaration → Bool
is_lemma (Some (ghosts.Lemma l)) = true
is_lemma g = false

-- a name means a function that has a body in the unit
abbrev pub means_defined : Scope → Meaning → Bool
means_defined s (meanings.Function n) = has_side (slice_get s.sides n)
means_defined s m = false

-- a name means a function that has no body in the unit
abbrev pub means_undefined : Scope → Meaning → Bool
means_undefined s (meanings.Function n) = not (has_side (slice_get s.sides n))
means_undefined s m = false

-- a name means a lemma
abbrev pub means_lemma : Scope → Meaning → Bool
means_lemma s (meanings.Ghost n) = is_lemma (slice_get s.ghosts n)
means_lemma s m = false

-- a name means a lemma that has no body in the unit
abbrev pub means_unproved : Scope → Meaning → Bool
means_unproved s (meanings.Ghost n) = is_lemma (slice_get s.ghosts n) && not (has_ghost_side (slice_get s.ghost_sides n))
means_unproved s m = false

-- something is declared of which this holds
abbrev pub is_declared_as : (Meaning → Bool) → Option Declaration → Bool
is_declared_as holds None = false
is_declared_as holds (Some d) = holds d.meaning

-- the same, and it is not the prelude's
abbrev pub is_own_as : Scope → (Meaning → Bool) → Option Declaration → Bool
is_own_as s holds None = false
is_own_as s holds (Some d) = holds d.meaning && not (is_of_prelude s d.files)

-- a name is that of a function with a body in the unit
abbrev pub is_defined_function : Scope → List ℕ → Bool
is_defined_function s x = is_declared_as (means_defined s) (declared s x)

-- a name is that of a function that has no body in the unit and is not the prelude's
abbrev pub is_undefined_function : Scope → List ℕ → Bool
is_undefined_function s x = is_own_as s (means_undefined s) (declared s x)

-- a name is that of a lemma
abbrev pub is_name_of_lemma : Scope → List ℕ → Bool
is_name_of_lemma s x = is_declared_as (means_lemma s) (declared s x)

-- a name is that of a lemma that has no body in the unit and is not the prelude's
abbrev pub is_unproved_lemma : Scope → List ℕ → Bool
is_unproved_lemma s x = is_own_as s (means_unproved s) (declared s x)

-- ---- prototypes

-- the names of some locals that may be there
abbrev pub names_in : Option Locals → Option (List (List ℕ))
names_in None = None
names_in (Some l) = Some l.names

-- the names behind the prototype of a function: its parameters and the names of its precondition
abbrev pub names_of_side : Option Sides → Option (List (List ℕ))
names_of_side None = None
names_of_side (Some x) = names_in x.prototype

-- the same of a lemma
abbrev pub names_of_ghost_side : Option GhostSides → Option (List (List ℕ))
names_of_ghost_side None = None
names_of_ghost_side (Some x) = names_in x.prototype

-- the names behind the prototype of what a name means, where it has one
abbrev pub names_meant : Scope → Meaning → Option (List (List ℕ))
names_meant s (meanings.Function n) = names_of_side (slice_get s.sides n)
names_meant s (meanings.FunctionType n) = None
names_meant s (meanings.Ghost n) = names_of_ghost_side (slice_get s.ghost_sides n)

-- the same of what declares a name
abbrev pub names_declared : Scope → Option Declaration → Option (List (List ℕ))
names_declared s None = None
names_declared s (Some d) = names_meant s d.meaning

-- the names behind the prototype of the function or the lemma with a name, where it has one
abbrev pub prototype_names : Scope → List ℕ → Option (List (List ℕ))
prototype_names s x = names_declared s (declared s x)

-- ---- names

-- a name is one of some
abbrev pub is_among : List (List ℕ) → List ℕ → Bool
is_among names x = is_some (number_of names x)

-- a name means a function type, where it is seen
abbrev pub is_type_meant : Option Meaning → Bool
is_type_meant (Some (meanings.FunctionType n)) = true
is_type_meant m = false
