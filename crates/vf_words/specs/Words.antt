-- The words of the command line.
use Rattle.std.specs.Prelude.{◌≡◌, ◌≢◌, ℕ, Bool, not, ◌&&◌, nat_le, ◌==◌, List, [], ◌∷◌, ◌++◌, IsTrue, All, Some, codes, map}
use Rattle.vf_snapshot.specs.Paths.{normal}
use Rattle.vf_words.specs.Positionals.{positionals}

-- A byte that may stand in a path: it is printed, and no blank, no quote, no '#' and no angle bracket.
abbrev pub is_path_byte : ℕ → Bool
is_path_byte b = nat_le 33 b && nat_le b 126 && not (b == 34) && not (b == 35) && not (b == 39) && not (b == 60) && not (b == 62)

-- A path of such bytes that ends in this way.
pub record IsPathTo (ending path : List ℕ) : Type 0 where
  pub bytes : All (λ b. IsTrue (is_path_byte b)) path
  pub stem : List ℕ
  pub ends : path ≡ stem ++ ending

-- A path of a source file ends in ".c".
abbrev pub IsSourcePath : List ℕ → Type 0
IsSourcePath path = IsPathTo (codes ".c") path

-- A path of a manifest ends in ".vfmanifest".
abbrev pub IsManifestPath : List ℕ → Type 0
IsManifestPath path = IsPathTo (codes ".vfmanifest") path

-- The words are this name and words behind it of which these are the positional ones, as clap reads them.
pub record Gives (name : List ℕ) (words given : List (List ℕ)) : Type 0 where
  pub behind : List (List ℕ)
  pub words_are : words ≡ name ∷ behind
  pub positional : positionals behind ≡ Some given

-- The words ask for a run of one source file under a schedule: "run", the schedule's path, and a word that means the file's path.
pub record IsRun (words : List (List ℕ)) (schedule file : List ℕ) : Type 0 where
  pub word : List ℕ
  pub gives : Gives (codes "run") words (schedule ∷ word ∷ [])
  pub source : IsSourcePath word
  pub file_is : file ≡ normal [] word

-- The words are this name, the schedule's path, and one word or more that mean the paths of source files.
pub record IsScheduled (name : List ℕ) (words : List (List ℕ)) (schedule : List ℕ) (files : List (List ℕ)) : Type 0 where
  pub given : List (List ℕ)
  pub gives : Gives name words (schedule ∷ given)
  pub some : given ≢ []
  pub sources : All IsSourcePath given
  pub files_are : files ≡ map (normal []) given

-- The words ask for a try of source files under a schedule: they are read, linked and run.
abbrev pub IsTry : List (List ℕ) → List ℕ → List (List ℕ) → Type 0
IsTry words schedule files = IsScheduled (codes "try") words schedule files

-- The words ask for a trace of source files under a schedule: they are read and linked, and the run is searched for its first fault or race.
abbrev pub IsTrace : List (List ℕ) → List ℕ → List (List ℕ) → Type 0
IsTrace words schedule files = IsScheduled (codes "trace") words schedule files

-- The words ask for the linking of manifests: "link" and one path or more.
pub record IsLink (words manifests : List (List ℕ)) : Type 0 where
  pub gives : Gives (codes "link") words manifests
  pub some : manifests ≢ []
  pub paths : All IsManifestPath manifests

-- The words ask for a manifest to be written again, in version 2: "upgrade" and its path.
pub record IsUpgrade (words : List (List ℕ)) (manifest : List ℕ) : Type 0 where
  pub gives : Gives (codes "upgrade") words (manifest ∷ [])
  pub path : IsManifestPath manifest

-- The words ask for none of these.
pub record AskNothing (words : List (List ℕ)) : Type 0 where
  pub run : (schedule file : List ℕ) → IsRun words schedule file → ⊥
  pub try : (schedule : List ℕ) (files : List (List ℕ)) → IsTry words schedule files → ⊥
  pub trace : (schedule : List ℕ) (files : List (List ℕ)) → IsTrace words schedule files → ⊥
  pub link : (manifests : List (List ℕ)) → IsLink words manifests → ⊥
  pub upgrade : (manifest : List ℕ) → IsUpgrade words manifest → ⊥
