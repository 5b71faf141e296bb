-- What the code's commands stand for.
use Rattle.std.specs.Prelude.{ℕ, List, [], All, map, string_bytes}
use Rattle.std.specs.Borrow.{Bor}
use Rattle.std.specs.declared.string.String.{String as OwnText}
use Rattle.std.specs.declared.alloc.Global.{Global}
use Rattle.vf_snapshot.specs.Paths.{normal}
use Rattle.vf_words.specs.declared.command.Command.{Command}
use Rattle.vf_words.specs.declared.command.Command.TheVariants.{Run, Try, Trace, Link, Upgrade}
use Rattle.vf_words.specs.Positionals.{texts}
use Rattle.vf_words.specs.Words.{IsSourcePath, IsRun, IsTry, IsTrace, IsLink, IsUpgrade}

-- the bytes of words that are owned
abbrev pub owned : List (OwnText Global) → List (List ℕ)
owned words = map (λ w. string_bytes w) words

-- the paths that words mean
abbrev pub paths_of : List (Bor (List ℕ)) → List (List ℕ)
paths_of words = map (normal []) (texts words)

-- the words ask for this command
abbrev pub Asks : List (List ℕ) → Command → Type 0
Asks words (Run r) = IsRun words r.schedule.now (normal [] r.word.now) × IsSourcePath r.word.now
Asks words (Try r) = IsTry words r.schedule.now (paths_of r.words.items) × All (λ w. IsSourcePath w.now) r.words.items
Asks words (Trace r) = IsTrace words r.schedule.now (paths_of r.words.items) × All (λ w. IsSourcePath w.now) r.words.items
Asks words (Link manifests) = IsLink words (texts manifests.items)
Asks words (Upgrade manifest) = IsUpgrade words manifest.now
