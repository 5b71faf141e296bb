-- What the lines of manifests say, by topic.
use Rattle.std.specs.Prelude.{ℕ, ◌==◌, Bool, not, List, Option, Some, None, flat_map, filter_map, map, take_while, codes, true, false, if◌then◌else◌}
use Rattle.std.specs.Str.{bytes_eq}
use Rattle.std.specs.List.{position_or_len}
use Rattle.vf_manifest.specs.declared.line.Line.{Line}
use Rattle.vf_manifest.specs.declared.line.Line.TheVariants as lines
use Rattle.vf_manifest.specs.declared.kind.Kind.{Kind}
use Rattle.vf_manifest.specs.declared.kind.Kind.TheVariants as kinds
use Rattle.vf_manifest.specs.Lines.{kind, subject, content}
use Rattle.vf_link.specs.declared.statement.Topic.{Topic}
use Rattle.vf_link.specs.declared.statement.Topic.TheVariants.{Bodies, Calls, Instances, Provided, Required, Structs, Uses}

-- what a line says of what
pub record Statement : Type 0 where
  pub subject : List ℕ
  pub content : List ℕ

-- the lines of some manifests, one manifest after the other
abbrev pub all_lines : List (List Line) → List Line
all_lines manifests = flat_map (λ lines. lines) manifests

-- the lines of this kind speak of a topic: in which file the body of a predicate or a struct, or the instance of a family at a function
-- stands; which lemma a lemma calls; the signature of what is provided or required; the digest of a header
abbrev pub speaks : Topic → Kind → Bool
speaks Bodies kinds.Body = true
speaks Bodies k = false
speaks Calls kinds.Calls = true
speaks Calls k = false
speaks Instances kinds.Instance = true
speaks Instances k = false
speaks Provided kinds.Provides = true
speaks Provided k = false
speaks Required kinds.Requires = true
speaks Required k = false
speaks Structs kinds.Struct = true
speaks Structs k = false
speaks Uses kinds.Uses = true
speaks Uses k = false

-- what a line says of what, where it speaks of the topic
abbrev pub statement : Topic → Line → Option Statement
statement topic l = if speaks topic (kind l) then Some (record { subject = subject l; content = content l }) else None

-- all that some lines say on a topic
abbrev pub statements : Topic → List Line → List Statement
statements topic ls = filter_map (statement topic) ls

abbrev pub subjects : List Statement → List (List ℕ)
subjects xs = map (λ s. s.subject) xs

abbrev pub contents : List Statement → List (List ℕ)
contents xs = map (λ s. s.content) xs

-- what of a subject is shown: of an instance its family, which stands before the blank; else all of it
abbrev pub shown : Topic → List ℕ → List ℕ
shown Instances subject = take_while (λ b. not (b == 32)) subject
shown Bodies subject = subject
shown Calls subject = subject
shown Provided subject = subject
shown Required subject = subject
shown Structs subject = subject
shown Uses subject = subject

-- the place of a text among texts: how many stand before the first that is it
abbrev pub place : List (List ℕ) → List ℕ → ℕ
place texts text = position_or_len (bytes_eq text) texts

-- this line provides a function or lemma with the name main
abbrev pub provides_main : Line → Bool
provides_main (lines.Provides provided signature) = bytes_eq provided.name (codes "main")
provides_main (lines.Body predicate file) = false
provides_main (lines.Calls caller callee) = false
provides_main (lines.Claims function claimed) = false
provides_main (lines.Instance family function file) = false
provides_main (lines.Requires required signature) = false
provides_main (lines.Struct tag file) = false
provides_main (lines.Uses header digest) = false
