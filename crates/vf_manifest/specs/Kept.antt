-- How the lines of manifests are kept: in one piece of memory, with where the words of each stand.
use Rattle.std.specs.Prelude.{◌≡◌, ℕ, ◌+◌, ◌-◌, ◌≤◌, List, ◌++◌, length, take, drop, codes}
use Rattle.vf_manifest.specs.Identities.{Identity}
use Rattle.vf_manifest.specs.declared.kind.Kind.{Kind}
use Rattle.vf_manifest.specs.declared.kind.Kind.TheVariants as kinds
use Rattle.vf_manifest.specs.declared.line.Line.{Line}
use Rattle.vf_manifest.specs.declared.line.Line.TheVariants.{Body, Calls, Claims, Instance, Provides, Requires, Struct, Uses}
use Rattle.vf_manifest.specs.declared.spot.Shape.{Shape}
use Rattle.vf_manifest.specs.declared.spot.Spot.{Spot}
use Rattle.vf_manifest.specs.Words.{identity_text}
use Rattle.vf_manifest.specs.Lines.{subject, content}

-- ---- shapes

-- the shape of a line of this kind that has one identity
abbrev pub with_one : Kind → Identity → Shape
with_one kind i = record { kind = kind; path = length i.path; first = 0; second = 0 }

-- the shape of a line of this kind that has two identities in two words
abbrev pub with_two : Kind → Identity → Identity → Shape
with_two kind i other = record { kind = kind; path = length i.path; first = 0; second = length other.path }

-- the shape of a line: its kind, and how many bytes the paths of its identities have, and the first of two that stand in one word
abbrev pub shape_of : Line → Shape
shape_of (Body predicate file) = with_one kinds.Body predicate
shape_of (Calls caller callee) = with_two kinds.Calls caller callee
shape_of (Claims function claimed) = with_two kinds.Claims function claimed
shape_of (Instance family function file) = record { kind = kinds.Instance; path = length family.path; first = length (identity_text family); second = length function.path }
shape_of (Provides provided signature) = with_one kinds.Provides provided
shape_of (Requires required signature) = with_one kinds.Requires required
shape_of (Struct tag file) = with_one kinds.Struct tag
shape_of (Uses header digest) = record { kind = kinds.Uses; path = 0; first = 0; second = 0 }

-- ---- lines by their words

-- the identity that stands in a text, whose path has so many bytes
abbrev pub named : ℕ → List ℕ → Identity
named n text = record { path = take n text; name = drop (n + 1) text }

-- the line of this kind and shape that speaks of the first word and says the second one
abbrev pub line_by : Kind → Shape → List ℕ → List ℕ → Line
line_by kinds.Body s a b = Body (named s.path a) b
line_by kinds.Calls s a b = Calls (named s.path a) (named s.second b)
line_by kinds.Claims s a b = Claims (named s.path a) (named s.second b)
line_by kinds.Instance s a b = Instance (named s.path (take s.first a)) (named s.second (drop (s.first + 1) a)) b
line_by kinds.Provides s a b = Provides (named s.path a) b
line_by kinds.Requires s a b = Requires (named s.path a) b
line_by kinds.Struct s a b = Struct (named s.path a) b
line_by kinds.Uses s a b = Uses a b

-- what stands between two places of some bytes
abbrev pub part : List ℕ → ℕ → ℕ → List ℕ
part bytes start end = take (end - start) (drop start bytes)

-- the line that stands at a spot among some bytes
abbrev pub line_at : List ℕ → Spot → Line
line_at bytes s = line_by s.shape.kind s.shape (part bytes s.start s.middle) (part bytes s.middle s.end)

-- a line stands at a spot: its words lie among the bytes, and they are those of the line
abbrev pub IsKept : List ℕ → Spot → Type 0
IsKept bytes s = (s.start ≤ s.middle) × (s.middle ≤ s.end) × (s.end ≤ length bytes)
    × (subject (line_at bytes s) ≡ part bytes s.start s.middle) × (content (line_at bytes s) ≡ part bytes s.middle s.end)

-- some bytes stand at the front of others
pub record IsFront (front whole : List ℕ) : Type 0 where
  pub rest : List ℕ
  pub is : whole ≡ front ++ rest

-- ---- what is written of a line

-- the first word of the lines of a kind, and the blank behind it
abbrev pub word : Kind → List ℕ
word kinds.Body = codes ".body "
word kinds.Calls = codes ".calls "
word kinds.Claims = codes ".claims "
word kinds.Instance = codes ".instance "
word kinds.Provides = codes ".provides "
word kinds.Requires = codes ".requires "
word kinds.Struct = codes ".struct "
word kinds.Uses = codes ".uses "
