-- The lines of manifests, and how they are spelled.
use Rattle.std.specs.Prelude.{◌≡◌, ℕ, Bool, ◌&&◌, List, [], ◌∷◌, ◌++◌, codes, Option, Some, None}
use Rattle.vf_manifest.specs.declared.kind.Kind.{Kind}
use Rattle.vf_manifest.specs.declared.kind.Kind.TheVariants as kinds
use Rattle.vf_manifest.specs.declared.line.Line.{Line}
use Rattle.vf_manifest.specs.declared.line.Line.TheVariants.{Body, Calls, Claims, Instance, Provides, Requires, Struct, Uses}
use Rattle.vf_manifest.specs.declared.line.Version.{Version}
use Rattle.vf_manifest.specs.declared.line.Version.TheVariants.{First, Second}
use Rattle.vf_manifest.specs.Words.{is_path, is_file_path, is_digest, identity_text, is_identity, is_own_identity}
use Rattle.vf_manifest.specs.Signatures.{is_signature}

-- two words with a blank between them
abbrev pub two : List ℕ → List ℕ → List ℕ
two first second = first ++ 32 ∷ second

-- what a line says of which things: its text without the signature, by which lines are told apart
abbrev pub key : Line → List ℕ
key (Body predicate file) = codes ".body " ++ two (identity_text predicate) file
key (Calls caller callee) = codes ".calls " ++ two (identity_text caller) (identity_text callee)
key (Claims function claimed) = codes ".claims " ++ two (identity_text function) (identity_text claimed)
key (Instance family function file) = codes ".instance " ++ two (identity_text family) (two (identity_text function) file)
key (Provides provided signature) = codes ".provides " ++ identity_text provided
key (Requires required signature) = codes ".requires " ++ identity_text required
key (Struct tag file) = codes ".struct " ++ two (identity_text tag) file
key (Uses header digest) = codes ".uses " ++ two header digest

-- what a line has behind that: a blank and the signature, where it has one
abbrev pub signature_part : Line → List ℕ
signature_part (Body predicate file) = []
signature_part (Calls caller callee) = []
signature_part (Claims function claimed) = []
signature_part (Instance family function file) = []
signature_part (Provides provided signature) = 32 ∷ signature
signature_part (Requires required signature) = 32 ∷ signature
signature_part (Struct tag file) = []
signature_part (Uses header digest) = []

-- what a line's text has behind its key in a version: the first one has no signatures
abbrev pub told_part : Version → Line → List ℕ
told_part First l = []
told_part Second l = signature_part l

-- the text of a line in a version
abbrev pub spelled : Version → Line → List ℕ
spelled version l = key l ++ told_part version l

-- the words of a line are of their kinds; the prelude's headers and names have no bodies, structs, requirements and digests
abbrev pub is_line : Line → Bool
is_line (Body predicate file) = is_own_identity predicate && is_file_path file
is_line (Calls caller callee) = is_identity caller && is_identity callee
is_line (Claims function claimed) = is_identity function && is_identity claimed
is_line (Instance family function file) = is_identity family && (is_identity function && is_path file)
is_line (Provides provided signature) = is_identity provided && is_signature signature
is_line (Requires required signature) = is_own_identity required && is_signature signature
is_line (Struct tag file) = is_own_identity tag && is_file_path file
is_line (Uses header digest) = is_file_path header && is_digest digest

-- no signature is told: it is `?`, or there is none
abbrev pub Untold : Line → Type 0
Untold (Body predicate file) = Unit {0}
Untold (Calls caller callee) = Unit {0}
Untold (Claims function claimed) = Unit {0}
Untold (Instance family function file) = Unit {0}
Untold (Provides provided signature) = signature ≡ codes "?"
Untold (Requires required signature) = signature ≡ codes "?"
Untold (Struct tag file) = Unit {0}
Untold (Uses header digest) = Unit {0}

-- what stands for a line in version 1 tells no signature
abbrev pub IsOf : Version → Line → Type 0
IsOf First l = Untold l
IsOf Second l = Unit {0}

-- ---- what lines say of what

-- the kind of a line
abbrev pub kind : Line → Kind
kind (Body predicate file) = kinds.Body
kind (Calls caller callee) = kinds.Calls
kind (Claims function claimed) = kinds.Claims
kind (Instance family function file) = kinds.Instance
kind (Provides provided signature) = kinds.Provides
kind (Requires required signature) = kinds.Requires
kind (Struct tag file) = kinds.Struct
kind (Uses header digest) = kinds.Uses

-- of what a line speaks: an identity, or two of them, or a header
abbrev pub subject : Line → List ℕ
subject (Body predicate file) = identity_text predicate
subject (Calls caller callee) = identity_text caller
subject (Claims function claimed) = identity_text function
subject (Instance family function file) = two (identity_text family) (identity_text function)
subject (Provides provided signature) = identity_text provided
subject (Requires required signature) = identity_text required
subject (Struct tag file) = identity_text tag
subject (Uses header digest) = header

-- what a line says of that: a file, another identity, a signature or a digest
abbrev pub content : Line → List ℕ
content (Body predicate file) = file
content (Calls caller callee) = identity_text callee
content (Claims function claimed) = identity_text claimed
content (Instance family function file) = file
content (Provides provided signature) = signature
content (Requires required signature) = signature
content (Struct tag file) = file
content (Uses header digest) = digest

-- the name of what a line provides, where it provides something
abbrev pub provided_name : Line → Option (List ℕ)
provided_name (Provides provided signature) = Some provided.name
provided_name (Body predicate file) = None
provided_name (Calls caller callee) = None
provided_name (Claims function claimed) = None
provided_name (Instance family function file) = None
provided_name (Requires required signature) = None
provided_name (Struct tag file) = None
provided_name (Uses header digest) = None
