-- What the positional words behind a command's name must be.
use Rattle.std.specs.Prelude.{◌≡◌, ◌≢◌, ℕ, List, [], ◌∷◌, All, codes}
use Rattle.vf_words.specs.Words.{IsManifestPath, IsSourcePath}
use Rattle.vf_words.specs.declared.command.Name.{Name}
use Rattle.vf_words.specs.declared.command.Name.TheVariants.{Run, Try, Trace, Link, Upgrade}
use Rattle.vf_words.specs.declared.command.Command.{Command}
use Rattle.vf_words.specs.declared.command.Command.TheVariants as commands
use Rattle.vf_words.specs.Positionals.{texts}

-- the name of a command, as it is written
abbrev pub text_of : Name → List ℕ
text_of Run = codes "run"
text_of Try = codes "try"
text_of Trace = codes "trace"
text_of Link = codes "link"
text_of Upgrade = codes "upgrade"

-- of a run: a schedule, and a word that means the path of a source file
pub record OneFile (given : List (List ℕ)) (schedule word : List ℕ) : Type 0 where
  pub are : given ≡ schedule ∷ word ∷ []
  pub source : IsSourcePath word

-- of a try and a trace: a schedule, and one word or more that mean the paths of source files
pub record SomeFiles (given : List (List ℕ)) (schedule : List ℕ) (files : List (List ℕ)) : Type 0 where
  pub are : given ≡ schedule ∷ files
  pub some : files ≢ []
  pub sources : All IsSourcePath files

-- of a link: one path of a manifest or more
pub record SomeManifests (given : List (List ℕ)) : Type 0 where
  pub some : given ≢ []
  pub paths : All IsManifestPath given

-- of an upgrade: one path of a manifest
pub record OneManifest (given : List (List ℕ)) (manifest : List ℕ) : Type 0 where
  pub are : given ≡ manifest ∷ []
  pub path : IsManifestPath manifest

-- the command is this one, with these positional words
abbrev pub Fits : Name → List (List ℕ) → Command → Type 0
Fits Run given (commands.Run r) = OneFile given r.schedule.now r.word.now
Fits Try given (commands.Try r) = SomeFiles given r.schedule.now (texts r.words.items)
Fits Trace given (commands.Trace r) = SomeFiles given r.schedule.now (texts r.words.items)
Fits Link given (commands.Link manifests) = SomeManifests given × (given ≡ texts manifests.items)
Fits Upgrade given (commands.Upgrade manifest) = OneManifest given manifest.now
Fits name given command = ⊥

-- no command of this name has these positional words
abbrev pub FitsNone : Name → List (List ℕ) → Type 0
FitsNone Run given = (schedule word : List ℕ) → OneFile given schedule word → ⊥
FitsNone Try given = (schedule : List ℕ) (files : List (List ℕ)) → SomeFiles given schedule files → ⊥
FitsNone Trace given = (schedule : List ℕ) (files : List (List ℕ)) → SomeFiles given schedule files → ⊥
FitsNone Link given = SomeManifests given → ⊥
FitsNone Upgrade given = (manifest : List ℕ) → OneManifest given manifest → ⊥
