-- Manifests: what they are, and their texts.
use Rattle.std.specs.Prelude.{◌≡◌, ◌⊎◌, ℕ, ◌+◌, true, List, [], ◌∷◌, ◌++◌, length, map, codes}
use Rattle.std.specs.declared.cmp.Ordering.TheVariants.{Less}
use Rattle.std.specs.Cmp.Lexicographic.{slice_cmp}
use Rattle.std.specs.Ordering.{nat_cmp}
use Rattle.std.specs.List.{flat_map, AllByRecursion}
use Rattle.vf_manifest.specs.declared.line.Line.{Line}
use Rattle.vf_manifest.specs.declared.line.Version.{Version}
use Rattle.vf_manifest.specs.declared.line.Version.TheVariants.{First, Second}
use Rattle.vf_manifest.specs.declared.fault.ManifestFault.{ManifestFault}
use Rattle.vf_manifest.specs.declared.fault.ManifestFault.TheVariants as faults
use Rattle.vf_manifest.specs.Lines.{key, spelled, is_line, IsOf}

-- each text stands behind the one before it in the order of bytes, and the first behind this one
abbrev pub Ascends : List ℕ → List (List ℕ) → Type 0
Ascends low [] = Unit {0}
Ascends low (t ∷ ts) = (slice_cmp nat_cmp low t ≡ Less) × Ascends t ts

-- a line whose words are of their kinds, as this version has them
abbrev pub IsLineOf : Version → Line → Type 0
IsLineOf version l = (is_line l ≡ true) × IsOf version l

-- a manifest, as this version has them: a set of lines, which is told by listing each once in the order of bytes; the
-- signature does not count, so an identity is provided once and required once at most
pub record IsManifestOf (version : Version) (lines : List Line) : Type 0 where
  pub each : AllByRecursion (IsLineOf version) lines
  pub order : Ascends [] (map key lines)

-- a manifest
abbrev pub IsManifest : List Line → Type 0
IsManifest lines = IsManifestOf Second lines

-- the first line of a manifest's text
abbrev pub head : Version → List ℕ
head First = codes ".vfmanifest 1\n"
head Second = codes ".vfmanifest 2\n"

-- a line with the line feed that ends it
abbrev pub ended : Version → Line → List ℕ
ended version l = spelled version l ++ 10 ∷ []

-- the text of a manifest in a version: the first line, and then its lines in order
abbrev pub text_of : Version → List Line → List ℕ
text_of version lines = head version ++ flat_map (ended version) lines

-- a text stands for a manifest, in one of the two versions
abbrev pub IsManifestText : List ℕ → List Line → Type 0
IsManifestText text lines = (version : Version) × IsManifestOf version lines × (text ≡ text_of version lines)

-- no line can stand at the front of this rest of a text, of which something is left, behind these lines
pub record NoLine (version : Version) (lines : List Line) (rest : List ℕ) : Type 0 where
  pub left : rest ≡ [] → ⊥
  pub none : (l : Line) (after : List ℕ) → rest ≡ ended version l ++ after → IsManifestOf version (lines ++ l ∷ []) → ⊥

-- the first line is that of no version
abbrev pub NoHead : List ℕ → Type 0
NoHead text = (version : Version) (after : List ℕ) → text ≡ head version ++ after → ⊥

-- the lines of a manifest stand at the front of a text, and behind them no line can stand: the line with this number, the
-- first one being 1, is at fault
pub record FailsBehind (text : List ℕ) (number : ℕ) : Type 0 where
  pub version : Version
  pub lines : List Line
  pub rest : List ℕ
  pub front : IsManifestOf version lines
  pub parts : text ≡ text_of version lines ++ rest
  pub none : NoLine version lines rest
  pub count : number ≡ length lines + 2

-- the first line at which a text is no manifest's: the first line of all, or one behind others
abbrev pub HasFault : List ℕ → ℕ → Type 0
HasFault text number = (NoHead text × (number ≡ 1)) ⊎ FailsBehind text number

-- the fact for the line of a fault of syntax
abbrev pub IfSyntax : ManifestFault → (ℕ → Type 0) → Type 0
IfSyntax (faults.Syntax line) P = P line
IfSyntax faults.Memory P = Unit {0}
