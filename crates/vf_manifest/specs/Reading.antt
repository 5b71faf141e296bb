-- Reading a line from left to right.
use Rattle.std.specs.Prelude.{◌≡◌, ℕ, Bool, List, codes, Option, Some, None, Result, Ok, Err, if◌then◌else◌}
use Rattle.std.specs.Str.{bytes_eq}
use Rattle.vf_manifest.specs.declared.fault.WordFault.{WordFault}
use Rattle.vf_manifest.specs.declared.fault.WordFault.TheVariants as faults
use Rattle.vf_manifest.specs.Identities.{Identity}
use Rattle.vf_manifest.specs.declared.line.Line.{Line}
use Rattle.vf_manifest.specs.declared.line.Line.TheVariants as lines
use Rattle.vf_manifest.specs.declared.line.Version.{Version}
use Rattle.vf_manifest.specs.declared.line.Version.TheVariants.{First, Second}
use Rattle.vf_manifest.specs.declared.kind.Kind.{Kind}
use Rattle.vf_manifest.specs.declared.kind.Kind.TheVariants.{Body, Calls, Claims, Instance, Provides, Requires, Struct, Uses}
use Rattle.vf_manifest.specs.Cuts.{◌>>=◌, cut}
use Rattle.vf_manifest.specs.Words.{is_path, is_file_path, is_digest, is_identity, is_own_identity}
use Rattle.vf_manifest.specs.Signatures.{is_signature}

-- What a function returned, seen by view, is what reading gives, unless memory ran out.
abbrev pub Fails : {Y : Type 0} → WordFault → Option Y → Type 0
Fails faults.Memory read = Unit {0}
Fails faults.Syntax read = read ≡ None

abbrev pub Gives : {X Y : Type 0} → (X → Y) → Result X WordFault → Option Y → Type 0
Gives view (Ok x) read = read ≡ Some (view x)
Gives view (Err e) read = Fails e read

-- a text that passes a test
abbrev pub tested : (List ℕ → Bool) → List ℕ → Option (List ℕ)
tested test text = if test text then Some text else None

-- an identity that passes a test
unfoldable pub identity_at : (Identity → Bool) → List ℕ → Option Identity
identity_at test text = do
  p ← cut 35 text
  if test (record { path = p.0; name = p.1 }) then Some (record { path = p.0; name = p.1 }) else None

-- the kind of a line by its first word
abbrev pub kind_of : List ℕ → Option Kind
kind_of word =
    if bytes_eq word (codes ".body") then Some Body else
    if bytes_eq word (codes ".calls") then Some Calls else
    if bytes_eq word (codes ".claims") then Some Claims else
    if bytes_eq word (codes ".instance") then Some Instance else
    if bytes_eq word (codes ".provides") then Some Provides else
    if bytes_eq word (codes ".requires") then Some Requires else
    if bytes_eq word (codes ".struct") then Some Struct else
    if bytes_eq word (codes ".uses") then Some Uses else
    None

-- two words with a blank between them, each read in its way
unfoldable pub both : {A B : Type 0} → (List ℕ → Option A) → (List ℕ → Option B) → List ℕ → Option (A × B)
both first second text = do
  p ← cut 32 text
  x ← first p.0
  y ← second p.1
  Some (x, y)

-- two identities
abbrev pub pair_at : List ℕ → Option (Identity × Identity)
pair_at text = both (identity_at is_identity) (identity_at is_identity) text

-- an identity of a file, and a file
abbrev pub placed_at : List ℕ → Option (Identity × List ℕ)
placed_at text = both (identity_at is_own_identity) (tested is_file_path) text

-- an identity and a path
abbrev pub located_at : List ℕ → Option (Identity × List ℕ)
located_at text = both (identity_at is_identity) (tested is_path) text

-- an identity, and another one with a path
abbrev pub instance_at : List ℕ → Option (Identity × (Identity × List ℕ))
instance_at text = both (identity_at is_identity) located_at text

-- a file and a digest
abbrev pub used_at : List ℕ → Option (List ℕ × List ℕ)
used_at text = both (tested is_file_path) (tested is_digest) text

-- an identity and, from version 2 on, its signature
unfoldable pub signed_at : Version → (Identity → Bool) → List ℕ → Option (Identity × List ℕ)
signed_at First test text = do
  i ← identity_at test text
  Some (i, codes "?")
signed_at Second test text = both (identity_at test) (tested is_signature) text

-- the words of a line behind the first one
unfoldable pub words_at : Version → Kind → List ℕ → Option Line
words_at version Body text = do
  x ← placed_at text
  Some (lines.Body x.0 x.1)
words_at version Calls text = do
  x ← pair_at text
  Some (lines.Calls x.0 x.1)
words_at version Claims text = do
  x ← pair_at text
  Some (lines.Claims x.0 x.1)
words_at version Instance text = do
  x ← instance_at text
  Some (lines.Instance x.0 x.1.0 x.1.1)
words_at version Provides text = do
  x ← signed_at version is_identity text
  Some (lines.Provides x.0 x.1)
words_at version Requires text = do
  x ← signed_at version is_own_identity text
  Some (lines.Requires x.0 x.1)
words_at version Struct text = do
  x ← placed_at text
  Some (lines.Struct x.0 x.1)
words_at version Uses text = do
  x ← used_at text
  Some (lines.Uses x.0 x.1)

-- a line
unfoldable pub line_at : Version → List ℕ → Option Line
line_at version text = do
  p ← cut 32 text
  k ← kind_of p.0
  words_at version k p.1
