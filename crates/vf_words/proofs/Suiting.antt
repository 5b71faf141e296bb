-- Positional words that suit a command.
use Rattle.std.proofs.Common.{◌≡◌, ◌∙◌, refl, sym, ap, subst, ℕ, zero, suc, ◌<◌, List, [], ◌∷◌, length, get_or, arith}
use Rattle.std.specs.List.{All}
use Rattle.std.specs.Borrow.{Bor}
use Rattle.vf_words.specs.Positionals.{texts}
use Rattle.vf_words.specs.Words.{IsManifestPath, IsSourcePath}
use Rattle.vf_words.specs.Given.{SomeFiles, SomeManifests}

-- what holds of all words holds of their texts, and the other way
pub texts_all : (P : List ℕ → Type 0) (ws : List (Bor (List ℕ))) → All (λ w. P w.now) ws → All P (texts ws)
texts_all P [] h = λ k x low. absurd (omega (arith, low))
texts_all P (w ∷ ws) h = λ k x low. at P w ws (h 0 w (omega arith)) (texts_all P ws (λ j y less. h (suc j) y (omega (arith, less)))) k x low
  where
    at : (P : List ℕ → Type 0) (w : Bor (List ℕ)) (ws : List (Bor (List ℕ))) → P w.now → All P (texts ws) → (k : ℕ) (x : List ℕ) → k < length (texts (w ∷ ws)) → P (get_or (texts (w ∷ ws)) k x)
    at P w ws one more zero x low = one
    at P w ws one more (suc k) x low = more k x (omega (arith, low))

pub words_all : (P : List ℕ → Type 0) (ws : List (Bor (List ℕ))) → All P (texts ws) → All (λ w. P w.now) ws
words_all P [] h = λ k x low. absurd (omega (arith, low))
words_all P (w ∷ ws) h = λ k x low. at P w ws (h 0 [] (omega arith)) (words_all P ws (λ j y less. h (suc j) y (omega (arith, less)))) k x low
  where
    at : (P : List ℕ → Type 0) (w : Bor (List ℕ)) (ws : List (Bor (List ℕ))) → P w.now → All (λ v. P v.now) ws → (k : ℕ) (x : Bor (List ℕ)) → k < length (w ∷ ws) → P (get_or (w ∷ ws) k x).now
    at P w ws one more zero x low = one
    at P w ws one more (suc k) x low = more k x (omega (arith, low))

-- a schedule and files
pub files_found : (given files : List (Bor (List ℕ))) (schedule : Bor (List ℕ)) → given ≡ schedule ∷ files → (length files ≡ 0 → ⊥) → All (λ w. IsSourcePath w.now) files → SomeFiles (texts given) schedule.now (texts files)
files_found given [] schedule are some all = absurd (some refl)
files_found given (f ∷ fs) schedule are some all = record { are = ap texts are; some = λ e. absurd cc; sources = texts_all IsSourcePath (f ∷ fs) all }

no_words : (s : List ℕ) (fs : List (List ℕ)) → [] ≡ s ∷ fs → ⊥
no_words s fs e = absurd cc

pub none_given : (given : List (Bor (List ℕ))) → length given ≡ 0 → (s : List ℕ) (fs : List (List ℕ)) → SomeFiles (texts given) s fs → ⊥
none_given [] e s fs h = no_words s fs h.are
none_given (g ∷ gs) e s fs h = absurd (omega (arith, e))

behind : (given files : List (Bor (List ℕ))) (schedule : Bor (List ℕ)) (s : List ℕ) (fs : List (List ℕ)) → given ≡ schedule ∷ files → texts given ≡ s ∷ fs → fs ≡ texts files
behind given files schedule s fs are is = let both : schedule.now ∷ texts files ≡ s ∷ fs = sym (ap texts are) ∙ is in cc

pub no_files : (given files : List (Bor (List ℕ))) (schedule : Bor (List ℕ)) → given ≡ schedule ∷ files → length files ≡ 0 → (s : List ℕ) (fs : List (List ℕ)) → SomeFiles (texts given) s fs → ⊥
no_files given [] schedule are none s fs h = absurd (h.some (behind given [] schedule s fs are h.are))
no_files given (f ∷ rest) schedule are none s fs h = absurd (omega (arith, none))

pub no_sources : (given files : List (Bor (List ℕ))) (schedule : Bor (List ℕ)) → given ≡ schedule ∷ files → (All (λ w. IsSourcePath w.now) files → ⊥) → (s : List ℕ) (fs : List (List ℕ)) → SomeFiles (texts given) s fs → ⊥
no_sources given files schedule are no_paths s fs h = no_paths (words_all IsSourcePath files (subst (All IsSourcePath) (behind given files schedule s fs are h.are) h.sources))

-- manifests
pub manifests_found : (given : List (Bor (List ℕ))) → (length given ≡ 0 → ⊥) → All (λ w. IsManifestPath w.now) given → SomeManifests (texts given)
manifests_found [] some all = absurd (some refl)
manifests_found (g ∷ gs) some all = record { some = λ e. absurd cc; paths = texts_all IsManifestPath (g ∷ gs) all }

pub manifests_are : (given : List (Bor (List ℕ))) → SomeManifests (texts given) → All (λ w. IsManifestPath w.now) given
manifests_are given h = words_all IsManifestPath given h.paths

pub no_manifests : (given : List (Bor (List ℕ))) → length given ≡ 0 → SomeManifests (texts given) → ⊥
no_manifests [] e h = h.some refl
no_manifests (g ∷ gs) e h = absurd (omega (arith, e))
